-- The front stays while messages are taken out.
use Rattle.std.proofs.Common.{◌≡◌, length, take}
use Rattle.sct_set.proofs.arrivals.Arrivals.truncate.Given as goal

abbrev pub invariant-cut : goal.invariant-cut
invariant-cut l = take l.len l.self ≡ take l.len l.initial.self

abbrev pub decreases-cut : goal.decreases-cut
decreases-cut l = length l.self
