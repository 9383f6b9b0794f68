-- One parent more.
use Rattle.std.proofs.Common.{sym, arith, ◌<◌, subst}
use Rattle.sct_keep.proofs.TreeLemmas.{still_joined, then_before, then_joined}
use Rattle.sct_keep.proofs.trees.root.Goals as goal

pub loop-parents-preserved : goal.loop-parents-preserved
loop-parents-preserved c =
    let inv = c.loop-parents.invariant in
    let same = c.raise-at.ensures.as_before in
    let below = c.loop-parents-test.true in
    let above = c.raise-at.ensures.above in
    let within = inv.0 in (
      subst (λ n. c.raise-at.result < n) (sym same.count) (omega (arith, below, above, within)),
      then_before c.args.parents.now c.loop-parents.parents c.raise-at.new.parents inv.1 same,
      then_joined c.raise-at.new.parents c.args.number c.loop-parents.at c.raise-at.result
          (still_joined c.loop-parents.parents c.raise-at.new.parents c.args.number c.loop-parents.at same inv.2) c.raise-at.ensures.joined,
    )
