-- One block more.
use Rattle.std.proofs.Common.{◌≡◌, ◌∙◌, ◌++◌, ap, sym, List, drop}
use Rattle.sct_delta.specs.Entries.{Placed}
use Rattle.sct_snapshot.specs.Blocks.{in_blocks}
use Rattle.sct_snapshot.proofs.snapshot.entries_after.Goals as goal

pub loop-block-preserved : goal.loop-block-preserved
loop-block-preserved c =
    let rest = in_blocks c.in-Some.after.now in
    let block : c.deref-in-Some.result.now ≡ c.deref.result.now.items = c.deref-in-Some.ensures.value in
    c.in_ok-left.ensures rest
    ∙ ap (λ (l : List Placed). c.loop-block.entries.items ++ drop c.loop-block.left (l ++ rest)) (block ∙ ap (λ v. v.items) c.deref.ensures)
    ∙ ap (λ bs. c.loop-block.entries.items ++ drop c.loop-block.left (in_blocks bs)) (sym c.in-Some.ensures.cases.0)
    ∙ c.loop-block.invariant
