-- Which transfers a report tells of, and what a list changes.
use Rattle.std.specs.FinSet.{same_set}
use Rattle.std.specs.List.Sorted.{IsStrictlySortedBy}
use Rattle.std.specs.Prelude.{◌⊎◌, Contains, map}
use Rattle.std.proofs.Common.{◌≡◌, ap, sym, subst, refl, inl, inr, ℕ, true, List, [], ◌∷◌}
use Rattle.std.proofs.lemmas.Bool.{cases_Bool}
use Rattle.std.proofs.lemmas.List.Elements.{Contains-append_cases, Contains-append_left, Contains-append_right}
use Rattle.csv.specs.Writing.{read_back}
use Rattle.sct_message.proofs.AscendingLemmas.{ascending_rises}
use Rattle.sct_message.proofs.Members.{tie_is}
use Rattle.sct_message.specs.Order.{same_transfer, transfer_order}
use Rattle.sct_message.specs.OrderLaws.{message_total, message_same, transfer_total, transfers_same}
use Rattle.sct_message.specs.Sets.{MessageSet}
use Rattle.sct_message.specs.Transfers.{instruction_of}
use Rattle.sct_message.specs.declared.keys.TransferKey.{TransferKey}
use Rattle.sct_case.proofs.Membership.{nothing, here, later, in_filter, filtered_in, in_ascending, ascending_in}
use Rattle.sct_view.specs.Answers.{transfers_of_bank}
use Rattle.sct_reconcile.specs.Laws.{EqualSetsHaveEqualReports, ListedTransfersAreTold, ListsChangeNoOthers, OthersAreOfTheBank, ReportsReadBack, RowsAscend, keys_listed, keys_told}
use Rattle.sct_reconcile.specs.Reports.{fields_of_row, is_of_day, keys_reported, listed_on, report_of, report_text_of, row_beside, row_on, transfers_on_day}
use Rattle.sct_reconcile.specs.declared.rows.ListedRow.{ListedRow}
use Rattle.sct_reconcile.specs.declared.rows.ReportRow.{ReportRow}
use Rattle.sct_reconcile.proofs.ReadBack.{under_header}

-- ---- the transfers of a report

keys_back : (held : MessageSet) (list : List ListedRow) (ks : List TransferKey) → keys_told (map (row_on held list) ks) ≡ ks
keys_back held list [] = refl
keys_back held list (k ∷ ks) = ap (λ (ts : List TransferKey). k ∷ ts) (keys_back held list ks)

module _ (held : MessageSet) (bank day : List ℕ) (list : List ListedRow) where
  told_keys : keys_told (report_of held bank day list) ≡ keys_reported held bank day list
  unfolding report_of
  told_keys = keys_back held list (keys_reported held bank day list)

  reported : (key : TransferKey) → Contains (keys_listed list) key ⊎ Contains (transfers_on_day held bank day) key → Contains (keys_reported held bank day list) key
  reported key (inl h) = ascending_in transfer_total transfers_same _ key (Contains-append_left (keys_listed list) (transfers_on_day held bank day) key h)
  reported key (inr h) = ascending_in transfer_total transfers_same _ key (Contains-append_right (keys_listed list) (transfers_on_day held bank day) key h)

  from_reported : (key : TransferKey) → Contains (keys_reported held bank day list) key → Contains (keys_listed list) key ⊎ Contains (transfers_on_day held bank day) key
  from_reported key h = Contains-append_cases (keys_listed list) (transfers_on_day held bank day) key (in_ascending transfer_total transfers_same _ key h)

  of_day : (key : TransferKey) → Contains (transfers_on_day held bank day) key
      → Contains (transfers_of_bank held bank) key × (is_of_day day (instruction_of held key) ≡ true)
  of_day key h = in_filter (λ k. is_of_day day (instruction_of held k)) (transfers_of_bank held bank) key h

  on_day : (key : TransferKey) → Contains (transfers_of_bank held bank) key → is_of_day day (instruction_of held key) ≡ true
      → Contains (transfers_on_day held bank day) key
  on_day key h e = filtered_in (λ k. is_of_day day (instruction_of held k)) (transfers_of_bank held bank) key h e

pub listed_told : ListedTransfersAreTold
listed_told held bank day list key h =
    subst (λ ks. Contains ks key) (sym (told_keys held bank day list))
    (reported held bank day list key (inl h))

pub ascend : RowsAscend
ascend held bank day list =
    subst (IsStrictlySortedBy transfer_order) (sym (told_keys held bank day list)) (ascending_rises transfer_total transfers_same _)

split : (held : MessageSet) (bank day : List ℕ) (list : List ListedRow) (key : TransferKey)
    → Contains (keys_listed list) key ⊎ Contains (transfers_on_day held bank day) key
    → Contains (keys_listed list) key ⊎ (Contains (transfers_of_bank held bank) key × (is_of_day day (instruction_of held key) ≡ true))
split held bank day list key (inl h) = inl h
split held bank day list key (inr h) = inr (of_day held bank day list key h)

joined : (held : MessageSet) (bank day : List ℕ) (list : List ListedRow) (key : TransferKey)
    → Contains (keys_listed list) key ⊎ (Contains (transfers_of_bank held bank) key × (is_of_day day (instruction_of held key) ≡ true))
    → Contains (keys_listed list) key ⊎ Contains (transfers_on_day held bank day) key
joined held bank day list key (inl h) = inl h
joined held bank day list key (inr h) = inr (on_day held bank day list key h.0 h.1)

pub of_the_bank : OthersAreOfTheBank
of_the_bank held bank day list key = (
  (λ h. split held bank day list key (from_reported held bank day list key (subst (λ ks. Contains ks key) (told_keys held bank day list) h))),
  (λ h. subst (λ ks. Contains ks key) (sym (told_keys held bank day list)) (reported held bank day list key (joined held bank day list key h))),
)

-- ---- a transfer that is not on the list

others_stay : (held : MessageSet) (bank day : List ℕ) (list other : List ListedRow) (key : TransferKey) → ¬ (Contains (keys_listed list) key)
    → Contains (keys_reported held bank day list) key → Contains (keys_reported held bank day other) key
others_stay held bank day list other key unlisted h =
    elim (from_reported held bank day list key h) as (λ _. Contains (keys_reported held bank day other) key) [
      | inl on ↦ absurd (unlisted on)
      | inr of ↦ reported held bank day other key (inr of)
    ]

nothing_listed : (key : TransferKey) → ¬ (Contains (keys_listed []) key)
nothing_listed key h = nothing key h

-- no row of the list is on it
none_on : (list : List ListedRow) (key : TransferKey) → ¬ (Contains (keys_listed list) key) → listed_on list key ≡ []
none_on [] key unlisted = refl
none_on (row ∷ list) key unlisted = elim (cases_Bool (same_transfer row.key key)) [
  | inl same ↦ absurd (unlisted (subst (Contains (keys_listed (row ∷ list))) (tie_is transfer_total transfers_same row.key key same) (here row.key (keys_listed list))))
  | inr other ↦ rw other (none_on list key (λ h. unlisted (later row.key (keys_listed list) key h)))
]

pub no_others : ListsChangeNoOthers
no_others = record {
  told = λ held bank day list key unlisted. (
    others_stay held bank day list [] key unlisted,
    others_stay held bank day [] list key (nothing_listed key),
  );
  same = λ held list key unlisted.
      ap (λ ls. row_beside held ls key) (none_on list key unlisted);
}

-- ---- sets, and texts

pub equal_reports : EqualSetsHaveEqualReports
equal_reports a b bank day list same =
    ap (λ (s : MessageSet). report_text_of (report_of s bank day list)) (same_set message_total message_same a b same)

whole_rows : (rows : List ReportRow) → map read_back (map fields_of_row rows) ≡ map fields_of_row rows
whole_rows [] = refl
whole_rows (row ∷ rows) = ap (λ (fs : List (List (List ℕ))). fields_of_row row ∷ fs) (whole_rows rows)

pub reports_back : ReportsReadBack
unfolding report_text_of
reports_back rows = under_header (map fields_of_row rows) (whole_rows rows)
