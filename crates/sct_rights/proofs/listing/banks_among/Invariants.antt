-- The banks so far, and those of what is left.
use Rattle.std.proofs.Common.{◌≡◌, length}
use Rattle.std.specs.List.{slice_split}
use Rattle.sct_delta.specs.VectorText.{is_comma}
use Rattle.sct_rights.specs.Listing.{banks_among}
use Rattle.sct_rights.proofs.ListingLemmas.{before_banks}
use Rattle.sct_rights.proofs.listing.banks_among.Given as goal

abbrev pub invariant-loop-part : goal.invariant-loop-part
invariant-loop-part l =
    before_banks l.banks.items (banks_among (slice_split is_comma l.rest)) ≡ banks_among (slice_split is_comma l.text)

abbrev pub decreases-loop-part : goal.decreases-loop-part
decreases-loop-part l = length l.rest
