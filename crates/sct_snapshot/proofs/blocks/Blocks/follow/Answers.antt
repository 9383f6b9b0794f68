-- One block more.
use Rattle.std.proofs.Common.{◌∙◌, ap, sym, subst, List, length, take}
use Rattle.sct_delta.specs.Entries.{Placed}
use mathlib.Core.List.{IsPrefix}
use Rattle.sct_snapshot.proofs.BlockLemmas.{front_more}
use Rattle.sct_snapshot.proofs.blocks.Blocks.follow.Goals as goal

pub loop-self-preserved : goal.loop-self-preserved
loop-self-preserved c =
    subst (λ (l : List Placed). IsPrefix l c.args.arrivals.now) (sym c.in_ok-push.ensures.pushed)
    (front_more c.loop-self.self c.args.arrivals.now c.split_at-in-loop-self.result.0.now c.self.inside.len 4096 c.loop-self.invariant
    (c.self.invariant ∙ ap length c.self.view_is) (c.split_at-in-loop-self.ensures.front ∙ ap (take 4096) c.split_at.ensures.back))
