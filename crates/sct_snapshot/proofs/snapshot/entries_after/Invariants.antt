-- The entries so far, and those that are to come.
use Rattle.std.proofs.Common.{drop, length}
use Rattle.sct_snapshot.specs.Blocks.{in_blocks}
use Rattle.sct_snapshot.proofs.BlockLemmas.{AreSoFar}
use Rattle.sct_snapshot.proofs.snapshot.entries_after.Given as goal

abbrev pub invariant-loop-block : goal.invariant-loop-block
invariant-loop-block l = AreSoFar l.entries.items l.left (in_blocks l.rest) (drop l.count (in_blocks l.blocks))

abbrev pub decreases-loop-block : goal.decreases-loop-block
decreases-loop-block l = length l.rest
