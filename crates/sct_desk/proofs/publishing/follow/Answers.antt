-- The history gets the arrivals one by one; where one cannot be added, it stays shorter than they are.
use Rattle.std.proofs.Common.{◌∙◌, ap, sym, subst, length, length-take-le, List, arith}
use mathlib.Core.List.{IsPrefix}
use Rattle.sct_delta.specs.Entries.{Placed}
use Rattle.sct_desk.proofs.Updates.{next_arrives, prefix_take}
use Rattle.sct_desk.proofs.publishing.follow.Goals as goal

pub add-requires-clause-next : goal.add-requires-clause-next
add-requires-clause-next c = next_arrives c.args.arrivals.now c.loop-at.track.log c.loop-at.at c.index-arrivals-at.result c.requires.order c.loop-at.invariant.1 (omega (arith, c.loop-at-test.true)) c.index-arrivals-at.is

pub returns-then-not-add-clause-begins : goal.returns-then-not-add-clause-begins
returns-then-not-add-clause-begins c =
    subst (λ (l : List Placed). IsPrefix l c.args.arrivals.now) (sym (c.if-not-add.ensures.added ∙ c.loop-at.invariant.1)) (prefix_take c.loop-at.at c.args.arrivals.now)

pub returns-then-not-add-clause-all : goal.returns-then-not-add-clause-all
returns-then-not-add-clause-all c =
    omega (arith, ap length (c.if-not-add.ensures.added ∙ c.loop-at.invariant.1), length-take-le c.loop-at.at c.args.arrivals.now (omega (arith, c.loop-at-test.true)), c.loop-at-test.true)
