-- The identities so far, and those of the lists that are left.
use Rattle.std.proofs.Common.{◌≡◌, ◌++◌}
use Rattle.sct_set.specs.Filing.{identities_filed}
use Rattle.sct_set.proofs.arrivals.identities_filed.Given as goal

abbrev pub invariant-loop-messages : goal.invariant-loop-messages
invariant-loop-messages l =
    l.found.items ++ identities_filed l.messages-iterator
    ≡ identities_filed l.index.entries
