-- The identities of messages are those of their set.
use Rattle.std.proofs.Common.{◌∙◌, sym}
use Rattle.sct_set.proofs.GroupLemmas.{identities_alike}
use Rattle.sct_set.proofs.sorted_archive.SortedArchive.of.Goals as goal

pub invariant_of-result : goal.invariant_of-result
invariant_of-result g c =
    let filled = rw c.in_ok-arrivals.was at c.join-filled.ensures.first in
    let sorted = rw c.in_ok-identities.was at c.join-filled.ensures.second in
    sorted ∙ identities_alike _ _ (sym filled)
