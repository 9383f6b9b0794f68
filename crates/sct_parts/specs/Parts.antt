-- Parts of a set of messages that have nothing in common, for auditors.
use Rattle.std.specs.FinSet as set
use Rattle.std.specs.Prelude.{◌≡◌, ◌≢◌, ◌⊎◌, ◌++◌, ⊤, ℕ, true, Bool, List, [], ◌∷◌, Contains, map, flat_map, if◌then◌else◌}
use Rattle.std.specs.List.{list_any}
use Rattle.sct_message.specs.Ascending.{ascending}
use Rattle.sct_message.specs.Keys.{identity_of, transfers_of}
use Rattle.sct_message.specs.Order.{same_transfer, text_order, transfer_order}
use Rattle.sct_message.specs.Sets.{MessageSet}
use Rattle.sct_message.specs.Transfers.{keys_of}
use Rattle.sct_message.specs.declared.draft.Draft.{Draft}
use Rattle.sct_message.specs.declared.keys.Identity.{Identity}
use Rattle.sct_message.specs.declared.keys.TransferKey.{TransferKey}
use Rattle.sct_set.specs.Archive.{has_identity}
use Rattle.sct_view.specs.StatusText.{lines_on}
use Rattle.sct_view.specs.Totals.{banks_of, nothing, plus, totals_of}
use Rattle.sct_view.specs.declared.totals.Totals.{Totals}
use Rattle.sct_reconcile.specs.Reports.{report_of, row_on, transfers_on_day}
use Rattle.sct_reconcile.specs.declared.rows.ListedRow.{ListedRow}
use Rattle.sct_reconcile.specs.declared.rows.ReportRow.{ReportRow}

-- ---- apart

-- Two sets are apart: no identity is in both, and no transfer. The transfers of a set are all that its messages name,
-- so each transfer of a recall message's list is one.
pub record AreApart (a b : MessageSet) : Type 0 where
  pub identities : (identity : Identity) → has_identity a identity ≡ true → has_identity b identity ≡ true → ⊥
  pub transfers : (transfer : TransferKey) → Contains (keys_of a) transfer → Contains (keys_of b) transfer → ⊥

-- Two messages have neither an identity nor a transfer in common.
pub record HaveNothingInCommon (one other : Draft) : Type 0 where
  pub identities : identity_of one ≢ identity_of other
  pub transfers : (transfer : TransferKey) → Contains (transfers_of one) transfer → Contains (transfers_of other) transfer → ⊥

-- no message of one set has anything in common with a message of the other: `AreApart`, said message by message
abbrev pub ShareNothing : MessageSet → MessageSet → Type 0
ShareNothing a b = (one other : Draft) → set.contains a one ≡ true → set.contains b other ≡ true → HaveNothingInCommon one other

-- ---- two parts

-- a message of the set is on the transfer
abbrev pub has_key : MessageSet → TransferKey → Bool
has_key held transfer = list_any (same_transfer transfer) (keys_of held)

-- the transfers of two sets, each once, ascending
abbrev pub keys_of_both : MessageSet → MessageSet → List TransferKey
keys_of_both a b = ascending transfer_order (keys_of a ++ keys_of b)

-- the lines of a transfer in the part that it is of
abbrev pub lines_in_part : MessageSet → MessageSet → TransferKey → List ℕ
lines_in_part a b transfer = if has_key a transfer then lines_on a transfer else lines_on b transfer

-- the banks of two sets whose totals are not all zero, each once, ascending
abbrev pub banks_of_both : MessageSet → MessageSet → List (List ℕ)
banks_of_both a b = ascending text_order (banks_of a ++ banks_of b)

-- the row of a transfer in the part that it is of
abbrev pub row_in_part : MessageSet → MessageSet → List ListedRow → TransferKey → ReportRow
row_in_part a b list key = if has_key a key then row_on a list key else row_on b list key

-- the transfers of a report: those of the list, and those of the bank on the day in each part
abbrev pub keys_reported_of_both : MessageSet → MessageSet → List ℕ → List ℕ → List ListedRow → List TransferKey
keys_reported_of_both a b bank day list =
    ascending transfer_order (map (λ row. row.key) list ++ (transfers_on_day a bank day ++ transfers_on_day b bank day))

-- ---- many parts

-- each part is apart from each later one
abbrev pub AreAllApart : List MessageSet → Type 0
AreAllApart [] = ⊤
AreAllApart (part ∷ parts) = ((other : MessageSet) → Contains parts other → AreApart part other) × AreAllApart parts

-- the messages of all parts
abbrev pub union_of : List MessageSet → MessageSet
union_of [] = set.empty
union_of (part ∷ parts) = set.union part (union_of parts)

-- the totals of a bank in each part, added up
abbrev pub totals_in : List MessageSet → List ℕ → Totals
totals_in [] bank = nothing
totals_in (part ∷ parts) bank = plus (totals_of part bank) (totals_in parts bank)

-- the transfers of all parts, each once, ascending
abbrev pub keys_of_all : List MessageSet → List TransferKey
keys_of_all parts = ascending transfer_order (flat_map keys_of parts)

-- the part that has a transfer, or the empty set if no part has it
abbrev pub part_with : List MessageSet → TransferKey → MessageSet
part_with [] transfer = set.empty
part_with (part ∷ parts) transfer = if has_key part transfer then part else part_with parts transfer

-- the lines of a transfer in the part that has it
abbrev pub lines_in_its_part : List MessageSet → TransferKey → List ℕ
lines_in_its_part parts transfer = lines_on (part_with parts transfer) transfer

-- the banks of all parts whose totals are not all zero, each once, ascending
abbrev pub banks_of_all : List MessageSet → List (List ℕ)
banks_of_all parts = ascending text_order (flat_map banks_of parts)

-- the row of a transfer in the part that has it
abbrev pub row_in_its_part : List MessageSet → List ListedRow → TransferKey → ReportRow
row_in_its_part parts list key = row_on (part_with parts key) list key

-- the transfers of a report: those of the list, and those of the bank on the day in each part
abbrev pub keys_reported_of_all : List MessageSet → List ℕ → List ℕ → List ListedRow → List TransferKey
keys_reported_of_all parts bank day list =
    ascending transfer_order (map (λ row. row.key) list ++ flat_map (λ part. transfers_on_day part bank day) parts)

-- One of the parts reports the row. This part has the transfer of the row, or no part has it.
pub record IsReportedBy (parts : List MessageSet) (bank day : List ℕ) (list : List ListedRow) (row : ReportRow) (part : MessageSet) : Type 0 where
  pub one_of_them : Contains parts part
  pub reported : Contains (report_of part bank day list) row
  pub its_own : Contains (keys_of part) row.key ⊎ (Contains (keys_of_all parts) row.key → ⊥)
