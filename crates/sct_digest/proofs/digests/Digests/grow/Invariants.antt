-- What was kept is kept.
use Rattle.std.proofs.Common.{length, List, ◌-◌}
use Rattle.sct_delta.specs.Entries.{Placed}
use Rattle.sct_digest.specs.Keeping.{AreKept}
use Rattle.sct_digest.proofs.digests.Digests.grow.Given as goal

abbrev pub invariant-loop-alloc : goal.invariant-loop-alloc
invariant-loop-alloc l = (arrivals : List Placed) → AreKept l.initial.self arrivals → AreKept l.self arrivals

abbrev pub decreases-loop-alloc : goal.decreases-loop-alloc
decreases-loop-alloc l = l.origin - length l.self.chains.items
