-- The labels so far.
use Rattle.sct_keep.proofs.TreeLemmas.{AreLabelsBelow}
use Rattle.sct_keep.proofs.trees.labels.Given as goal

abbrev pub invariant-loop-number : goal.invariant-loop-number
invariant-loop-number l = AreLabelsBelow l.number l.labels.items l.parents
