-- The number is joined with each parent on the way.
use Rattle.std.proofs.Common.{◌<◌, length}
use Rattle.sct_keep.specs.Trees.{AreAsBefore, AreJoined}
use Rattle.sct_keep.proofs.trees.root.Given as goal

abbrev pub invariant-loop-parents : goal.invariant-loop-parents
invariant-loop-parents l = (l.at < length l.parents) × AreAsBefore l.initial.parents l.parents × AreJoined l.parents l.number l.at

abbrev pub decreases-loop-parents : goal.decreases-loop-parents
decreases-loop-parents l = l.at
