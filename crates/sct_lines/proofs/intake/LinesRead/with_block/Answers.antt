-- The block is read behind what was read before.
use Rattle.std.proofs.Common.{ap, arith, length}
use Rattle.sct_lines.specs.Lines.{lines_of}
use Rattle.sct_lines.proofs.PartLemmas.{block_read, few_lines}
use Rattle.sct_lines.proofs.intake.LinesRead.with_block.Goals as goal

pub append-requires : goal.append-requires
append-requires g c =
    let before = ap (λ t. length (lines_of t)) c.self.view_is in
    omega (arith, c.requires.few, before, c.self.invariant.1, c.in_ok-next.ensures.lines, few_lines c.args.block.now)

pub invariant_of-result : goal.invariant_of-result
invariant_of-result g c =
    let self = c.self.inside in
    let added = c.in_ok-append.ensures in
    let all =
    block_read self.text.bytes c.args.block.now (record { intake = self.intake; lines = self.lines }) c.in_ok-next.next c.append.new.self _ c.self.invariant.0 c.self.invariant.1
    (omega arith) c.in_ok-next.ensures added.messages added.told added.refused added.lines in
    rw c.then.ensures (all.read, all.counted)
