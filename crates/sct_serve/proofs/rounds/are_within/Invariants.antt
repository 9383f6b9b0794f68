-- The lines so far are within the limit.
use Rattle.std.proofs.Common.{◌≡◌, length}
use Rattle.sct_serve.specs.Serving.{are_within}
use Rattle.sct_serve.proofs.rounds.are_within.Given as goal

abbrev pub invariant-loop-line : goal.invariant-loop-line
invariant-loop-line l = are_within l.rest ≡ are_within l.text

abbrev pub decreases-loop-line : goal.decreases-loop-line
decreases-loop-line l = length l.rest
