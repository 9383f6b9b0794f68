-- The place is at most how many arrivals there are, and falls.
use Rattle.std.proofs.Common.{◌≤◌, length}
use Rattle.sct_embed.proofs.texts.place_after.Given as goal

abbrev pub invariant-loop-at : goal.invariant-loop-at
invariant-loop-at l = l.at ≤ length l.arrivals

abbrev pub decreases-loop-at : goal.decreases-loop-at
decreases-loop-at l = l.at
