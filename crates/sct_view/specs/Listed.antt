-- The lists that the tables of a view give, for those who prove it.
use Rattle.std.specs.Prelude.{ℕ, ◌==◌, ◌&&◌, ◌++◌, Bool, not, List, [], ◌∷◌, length, map, filter, if◌then◌else◌}
use Rattle.std.specs.List.{flat_map}
use Rattle.sct_message.specs.Ascending.{ascending}
use Rattle.sct_message.specs.Order.{same_transfer, text_order}
use Rattle.sct_message.specs.declared.keys.RecallKey.{RecallKey}
use Rattle.sct_message.specs.declared.keys.TransferKey.{TransferKey}
use Rattle.sct_case.specs.declared.finding.Finding.{Finding}
use Rattle.sct_case.specs.Statuses.{Standing, Contradicted}
use Rattle.sct_view.specs.Answers.{cxls_named_by}
use Rattle.sct_view.specs.Kept.{Kept}
use Rattle.sct_view.specs.Totals.{is_nothing}
use Rattle.sct_view.specs.declared.totals.Totals.{Totals}
use Rattle.sct_view.specs.declared.case.Case.{Case}

-- ---- the entries of a table

-- the keys of the entries whose value passes the test, in the order of the table
abbrev pub keys_with : {K V : Type 0} → (V → Bool) → List (K × V) → List K
keys_with test entries = map (λ e. e.0) (filter (λ e. test e.1) entries)

-- the case has a message
abbrev pub has_messages : Case → Bool
has_messages case = not (length case.clean.items == 0 && length case.contradicted.items == 0)

-- some number is not 0
abbrev pub is_something : Totals → Bool
is_something totals = not (is_nothing totals)

-- ---- one transfer

-- the findings that a status holds
abbrev pub found_in : Standing → List Finding
found_in (Contradicted found) = found
found_in other = []

-- the recalls of a transfer that the messages of its case name, contradicted messages included, each once, ascending
abbrev pub recalls_in_case : TransferKey → Kept → List (List ℕ)
recalls_in_case transfer case = ascending text_order (flat_map (cxls_named_by transfer) (case.clean ++ case.contradicted))

-- the identification of a recall, if it is a recall of the transfer
abbrev pub cxls_in : TransferKey → RecallKey → List (List ℕ)
cxls_in transfer recall = if same_transfer recall.transfer transfer then recall.cxl ∷ [] else []

-- each finding of a transfer with the transfer's key
abbrev pub beside : TransferKey → List Finding → List (TransferKey × Finding)
beside transfer found = map (λ f. (transfer, f)) found
