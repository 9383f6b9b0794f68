-- A refused event leaves the world.
use Rattle.std.proofs.Common.{ap, sym, ◌∙◌}
use Rattle.std.proofs.lemmas.Bool.{false≢true}
use Rattle.sct_world.specs.Faults.{is_memory}
use Rattle.sct_world.proofs.StateLemmas.{refused_stays}
use Rattle.sct_world.proofs.history.outcome.Goals as goal

pub returns-else-is_memory-clause-world : goal.returns-else-is_memory-clause-world
returns-else-is_memory-clause-world c =
    c.in-Err.ensures.unchanged
    ∙ sym (refused_stays c.args.world.now c.args.event.now c.in-Err.refusal
    (c.in-Err.ensures.refused (λ is. false≢true (sym (sym c.is_memory.ensures ∙ c.if-is_memory.false) ∙ ap is_memory is))))
