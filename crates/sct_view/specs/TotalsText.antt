-- The totals text, for auditors: a line for each bank whose totals are not all zero.
use Rattle.std.specs.Prelude.{ℕ, List, [], ◌∷◌, ◌++◌, flat_map, decimal, codes}
use Rattle.sct_element.specs.Money.{amount_text}
use Rattle.sct_message.specs.Sets.{MessageSet}
use Rattle.sct_view.specs.Totals.{totals_of, banks_of}
use Rattle.sct_view.specs.declared.totals.Totals.{Totals}

-- a field after a bar
abbrev pub field : List ℕ → List ℕ
field text = codes "|" ++ text

-- the line of a bank: counts as plain decimals, amounts in euro with two decimals
unfoldable pub totals_line : List ℕ → Totals → List ℕ
totals_line bank totals =
    bank
    ++ field (decimal totals.sent)
    ++ field (amount_text totals.sent_cents)
    ++ field (amount_text totals.returned_in)
    ++ field (decimal totals.rejected)
    ++ field (decimal totals.waiting)
    ++ field (decimal totals.missing)
    ++ field (decimal totals.contradicted)
    ++ field (decimal totals.received)
    ++ field (amount_text totals.received_cents)
    ++ field (amount_text totals.returned_out)
    ++ 10 ∷ []

-- the totals text of a set of messages
unfoldable pub totals_text_of : MessageSet → List ℕ
totals_text_of held = flat_map (λ bank. totals_line bank (totals_of held bank)) (banks_of held)
