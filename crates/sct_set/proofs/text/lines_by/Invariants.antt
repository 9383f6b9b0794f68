-- The text made so far is that of the groups of the identities seen so far.
use Rattle.std.proofs.Common.{take}
use Rattle.sct_set.specs.Groups.{AreWritten}
use Rattle.sct_set.proofs.text.lines_by.Given as goal

abbrev pub invariant-loop-identity : goal.invariant-loop-identity
invariant-loop-identity l = AreWritten l.arrivals (take l.identity-index l.identities) l.text.items
