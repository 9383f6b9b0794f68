-- The history has the arrivals that were looked at.
use Rattle.std.proofs.Common.{◌≡◌, take}
use Rattle.sct_desk.proofs.publishing.follow.Given as goal

abbrev pub invariant-loop-at : goal.invariant-loop-at
invariant-loop-at l = (l.track.book ≡ l.initial.track.book) × (l.track.log ≡ take l.at l.arrivals)
