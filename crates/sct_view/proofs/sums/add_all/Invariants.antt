-- What is added so far, and the entries that are left.
use Rattle.std.proofs.Common.{◌≡◌, ℕ, List}
use Rattle.std.specs.List.{IsDistinct}
use Rattle.std.specs.Map.{keys_of}
use Rattle.sct_element.specs.Text.{is_text}
use Rattle.sct_view.specs.Kept.{totals_at}
use Rattle.sct_view.specs.Totals.{plus}
use Rattle.sct_view.proofs.ShareLemmas.{totals_among}
use Rattle.sct_view.proofs.sums.add_all.Given as goal

abbrev pub invariant-loop-bank : goal.invariant-loop-bank
invariant-loop-bank l =
    IsDistinct is_text (keys_of l.bank-iterator)
    × ((p : List ℕ) → plus (totals_at l.totals p) (totals_among l.bank-iterator p) ≡ plus (totals_at l.initial.totals p) (totals_at l.more p))
