-- The blocks are of the arrivals.
use Rattle.std.proofs.Common.{◌-◌, length}
use mathlib.Core.List.{IsPrefix}
use Rattle.sct_snapshot.proofs.blocks.Blocks.follow.Given as goal

abbrev pub invariant-loop-self : goal.invariant-loop-self
invariant-loop-self l = IsPrefix l.self l.arrivals

abbrev pub decreases-loop-self : goal.decreases-loop-self
decreases-loop-self l = length l.arrivals - length l.self
