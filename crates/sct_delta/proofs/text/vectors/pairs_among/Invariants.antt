-- The pairs so far, and those of what is left.
use Rattle.std.proofs.Common.{◌≡◌, length}
use Rattle.std.specs.List.{slice_split}
use Rattle.sct_delta.specs.VectorText.{is_comma, pairs_among}
use Rattle.sct_delta.proofs.VectorTextLemmas.{before_pairs}
use Rattle.sct_delta.proofs.text.vectors.pairs_among.Given as goal

abbrev pub invariant-loop-part : goal.invariant-loop-part
invariant-loop-part l =
    before_pairs l.pairs.items (pairs_among (slice_split is_comma l.rest)) ≡ pairs_among (slice_split is_comma l.text)

abbrev pub decreases-loop-part : goal.decreases-loop-part
decreases-loop-part l = length l.rest
