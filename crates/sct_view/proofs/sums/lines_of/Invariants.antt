-- The lines of the banks so far.
use Rattle.std.proofs.Common.{◌≡◌, take}
use Rattle.std.specs.Prelude.{string_bytes, flat_map}
use Rattle.sct_view.specs.Kept.{totals_at}
use Rattle.sct_view.specs.TotalsText.{totals_line}
use Rattle.sct_view.proofs.sums.lines_of.Given as goal

abbrev pub invariant-loop-bank : goal.invariant-loop-bank
invariant-loop-bank l =
    string_bytes l.text ≡ flat_map (λ bank. totals_line bank (totals_at l.totals bank)) (take l.bank-index l.banks)
