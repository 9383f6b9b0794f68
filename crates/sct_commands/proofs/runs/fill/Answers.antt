-- Filled sites of a run are some.
use Rattle.std.proofs.Common.{◌≡◌, arith, length}
use Rattle.std.proofs.lemmas.List.{length-map}
use Rattle.sct_workers.specs.Files.{bytes_of}
use Rattle.sct_commands.proofs.RunLemmas.{some_cores}
use Rattle.sct_commands.proofs.runs.fill.Goals as goal

pub returns-clause-some : goal.returns-clause-some
returns-clause-some g c =
    let mapped = length-map c.args.inputs.now (λ input. input.items) in
    let many : length c.args.inputs.now ≡ length (bytes_of c.args.inputs.now) = omega (arith, mapped) in
    some_cores (length c.args.inputs.now) (bytes_of c.args.inputs.now) c.fill_sites.result c.requires many c.fill_sites.ensures.filled
