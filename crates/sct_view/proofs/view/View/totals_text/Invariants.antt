-- The lines of the banks so far.
use Rattle.std.proofs.Common.{◌≡◌, take}
use Rattle.std.specs.Prelude.{string_bytes, flat_map}
use Rattle.sct_view.specs.Totals.{totals_of}
use Rattle.sct_view.specs.TotalsText.{totals_line}
use Rattle.sct_view.proofs.view.View.totals_text.Given as goal

abbrev pub invariant-loop-bank : goal.invariant-loop-bank
invariant-loop-bank l =
    string_bytes l.text ≡ flat_map (λ bank. totals_line bank (totals_of l.self bank)) (take l.bank-index l.bank-items)
