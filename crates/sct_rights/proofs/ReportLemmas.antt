-- The report for banks has the transfers and the rows of the hub's own report. Proof plumbing.
use Rattle.std.specs.FinSet as set
use Rattle.std.specs.FinSet.{members}
use Rattle.std.specs.Prelude.{Contains}
use Rattle.std.proofs.Common.{◌≡◌, ◌∙◌, refl, sym, ap, ℕ, Bool, true, false, ◌||◌, List, [], ◌∷◌, ◌++◌, map, filter, Option, None, arith}
use Rattle.std.specs.List.Sorted.{IsStrictlySortedBy}
use Rattle.std.proofs.lemmas.Bool.{and_from, false≢true}
use Rattle.std.proofs.lemmas.List.Kept.{IsStrictlySortedBy-filter}
use Rattle.sct_message.specs.Keys.{transfers_of}
use Rattle.sct_message.specs.Order.{message_order, transfer_order}
use Rattle.sct_message.specs.OrderLaws.{message_total, transfer_total, transfers_same}
use Rattle.sct_message.specs.Ascending.{ascending}
use Rattle.sct_message.specs.Sets.{MessageSet}
use Rattle.sct_message.specs.Transfers.{instruction_of, is_on, keys_of}
use Rattle.sct_message.specs.declared.draft.Draft.{Draft}
use Rattle.sct_message.specs.declared.keys.TransferKey.{TransferKey}
use Rattle.sct_message.proofs.AscendingLemmas.{ascending_rises, ascending-sorted}
use Rattle.sct_case.proofs.Membership.{any_tie, filtered_in, here, in_filter, later, nothing}
use Rattle.sct_case.specs.declared.words.StatusWord.TheVariants as word
use Rattle.sct_view.specs.Answers.{is_beneficiary, is_originator, transfers_of_bank}
use Rattle.sct_view.proofs.SetKeys.{on_is}
use Rattle.sct_reconcile.specs.Reports.{is_of_day, keys_reported, listed_on, row_beside, row_from, row_on, transfers_on_day}
use Rattle.sct_reconcile.specs.declared.rows.ListRow.{ListRow}
use Rattle.sct_reconcile.specs.declared.rows.ListedRow.{ListedRow}
use Rattle.sct_reconcile.specs.declared.rows.ReportRow.{ReportRow}
use Rattle.sct_rights.specs.Rights.{is_one_of, is_theirs}
use Rattle.sct_rights.specs.Shown.{visible}
use Rattle.sct_rights.specs.Reported.{report_for, row_for}
use Rattle.sct_rights.specs.Laws.{ReportsTellTheTruth}
use Rattle.sct_parts.proofs.RowLemmas.{row_alike, row_elsewhere}
use Rattle.sct_parts.proofs.Members.{held_key, key_held, same_members}
use Rattle.sct_rights.proofs.TruthLemmas.{not_received, not_sent, seen_foreign, seen_theirs, visible_within}
use Rattle.sct_rights.proofs.VisibleLemmas.{theirs_visible, told_alike, visible_held}

-- ---- rows

empty_has : (m : Draft) → set.contains (set.empty {R = message_order}) m ≡ false
empty_has m = grind (arith, members, message_total)

module _ (banks : List (List ℕ)) (s : MessageSet) (list : List ListedRow) (t : TransferKey) where
  pub row_theirs : is_theirs banks s t ≡ true → row_for banks s list t ≡ row_on s list t
  row_theirs theirs =
      ap (λ (held : MessageSet). row_on held list t) (seen_theirs banks s t theirs)
      ∙ row_alike s (visible banks s) list t (told_alike banks s t theirs)

  no_key : Contains (keys_of set.empty) t → ⊥
  no_key h = let m = key_held set.empty t h in false≢true (sym (empty_has m.0) ∙ m.1)

  pub row_foreign : is_theirs banks s t ≡ false → row_for banks s list t ≡ row_from t (listed_on list t) word.Unknown None
  row_foreign foreign =
      ap (λ (held : MessageSet). row_on held list t) (seen_foreign banks s t foreign)
      ∙ row_elsewhere set.empty list t no_key

-- ---- the transfers

pub filter_alike : {X : Type 0} (p q : X → Bool) (xs : List X) → ((x : X) → Contains xs x → p x ≡ q x) → filter p xs ≡ filter q xs
filter_alike p q [] same = refl
filter_alike p q (x ∷ xs) same = grind (arith, same x (here x xs), filter_alike p q xs (λ y h. same y (later x xs y h)))

abbrev pub is_of : MessageSet → List ℕ → TransferKey → Bool
is_of held bank t = is_originator bank t || is_beneficiary bank (instruction_of held t)

pub bank_key : (s : MessageSet) (bank : List ℕ) (t : TransferKey) → Contains (transfers_of_bank s bank) t → Contains (keys_of s) t × (is_of s bank t ≡ true)
unfolding transfers_of_bank
bank_key s bank t h = in_filter (is_of s bank) (keys_of s) t h

pub key_bank : (s : MessageSet) (bank : List ℕ) (t : TransferKey) → Contains (keys_of s) t → is_of s bank t ≡ true → Contains (transfers_of_bank s bank) t
unfolding transfers_of_bank
key_bank s bank t h e = filtered_in (is_of s bank) (keys_of s) t h e

pub bank_keys_rise : (s : MessageSet) (bank : List ℕ) → IsStrictlySortedBy transfer_order (transfers_of_bank s bank)
unfolding transfers_of_bank
bank_keys_rise s bank = IsStrictlySortedBy-filter transfer_order (is_of s bank) (keys_of s) (ascending_rises transfer_total transfers_same _)

module _ (banks : List (List ℕ)) (s : MessageSet) (bank : List ℕ) (ours : is_one_of banks bank ≡ true) where
  pub not_of : (t : TransferKey) → is_theirs banks s t ≡ false → (part : MessageSet) → ((m : Draft) → set.contains part m ≡ true → set.contains s m ≡ true)
      → is_of part bank t ≡ false
  not_of t foreign part within = λ i. not_sent banks s bank ours t foreign i || not_received banks s bank ours t foreign part within i

  -- a transfer of the bank is theirs
  pub theirs_of : (t : TransferKey) → is_of s bank t ≡ true → is_theirs banks s t ≡ true
  theirs_of t e = elim (is_theirs banks s t) as (λ b. is_theirs banks s t ≡ b → b ≡ true) [
    | true ↦ λ _. refl
    | false ↦ λ foreign. absurd (false≢true (sym (not_of t foreign s (λ m h. h)) ∙ e))
  ] refl

  of_alike : (t : TransferKey) → is_of (visible banks s) bank t ≡ is_of s bank t
  of_alike t = elim (is_theirs banks s t) as (λ b. is_theirs banks s t ≡ b → is_of (visible banks s) bank t ≡ is_of s bank t) [
    | true ↦ λ e. ap (λ (o : Option Draft). is_originator bank t || is_beneficiary bank o) (told_alike banks s t e).instruction
    | false ↦ λ e. not_of t e (visible banks s) (visible_within banks s bank ours) ∙ sym (not_of t e s (λ m h. h))
  ] refl

  to_whole : (t : TransferKey) → Contains (transfers_of_bank (visible banks s) bank) t → Contains (transfers_of_bank s bank) t
  to_whole t h =
      let k = bank_key (visible banks s) bank t h in
      let m = key_held (visible banks s) t k.0 in
      key_bank s bank t (held_key s t m.0 (visible_within banks s bank ours m.0 m.1) m.2) (sym (of_alike t) ∙ k.1)

  to_visible : (t : TransferKey) → Contains (transfers_of_bank s bank) t → Contains (transfers_of_bank (visible banks s) bank) t
  to_visible t h =
      let k = bank_key s bank t h in
      let m = key_held s t k.0 in
      let on : is_on t m.0 ≡ true = on_is t m.0 ∙ any_tie transfer_total transfers_same (transfers_of m.0) t m.2 in
      let there : set.contains (visible banks s) m.0 ≡ true = visible_held banks s m.0 ∙ and_from _ _ (theirs_visible banks s t (theirs_of t k.1) m.0 on m.1) m.1 in
      key_bank (visible banks s) bank t (held_key (visible banks s) t m.0 there m.2) (of_alike t ∙ k.1)

  same_transfers : transfers_of_bank (visible banks s) bank ≡ transfers_of_bank s bank
  same_transfers =
      sym (ascending-sorted transfer_total transfers_same (transfers_of_bank (visible banks s) bank) (bank_keys_rise (visible banks s) bank))
      ∙ same_members transfer_total transfers_same (transfers_of_bank (visible banks s) bank) (transfers_of_bank s bank) to_whole to_visible
      ∙ ascending-sorted transfer_total transfers_same (transfers_of_bank s bank) (bank_keys_rise s bank)

  same_on_day : (day : List ℕ) → transfers_on_day (visible banks s) bank day ≡ transfers_on_day s bank day
  same_on_day day =
      ap (filter (λ key. is_of_day day (instruction_of (visible banks s) key))) same_transfers
      ∙ filter_alike (λ key. is_of_day day (instruction_of (visible banks s) key)) (λ key. is_of_day day (instruction_of s key)) (transfers_of_bank s bank)
      (λ t h. ap (is_of_day day) (told_alike banks s t (theirs_of t (bank_key s bank t h).1)).instruction)

  pub keys_told : (day : List ℕ) (list : List ListedRow) → keys_reported (visible banks s) bank day list ≡ keys_reported s bank day list
  keys_told day list = ap (λ (ts : List TransferKey). ascending transfer_order (map (λ (row : ListedRow). row.key) list ++ ts)) (same_on_day day)

pub reports_told : ReportsTellTheTruth
reports_told = record {
  transfers = λ banks held bank day list ours. keys_told banks held bank ours day list;
  theirs = λ banks held list key theirs. row_theirs banks held list key theirs;
  others = λ banks held list key foreign. row_foreign banks held list key foreign;
}

-- ---- the rows of the code

-- the row of a transfer that is theirs, and of another one
pub theirs_row : (banks : List (List ℕ)) (s : MessageSet) (list : List ListedRow) (t : TransferKey) → is_theirs banks s t ≡ true
    → (listed : List ListRow) → listed ≡ listed_on list t → (row : ReportRow) → row ≡ row_beside s listed t → row ≡ row_for banks s list t
theirs_row banks s list t theirs listed said row is =
    is ∙ ap (λ (l : List ListRow). row_beside s l t) said ∙ sym (row_theirs banks s list t theirs)

pub foreign_row : (banks : List (List ℕ)) (s : MessageSet) (list : List ListedRow) (t : TransferKey) → is_theirs banks s t ≡ false
    → (nothing : MessageSet) → nothing ≡ set.empty → (listed : List ListRow) → listed ≡ listed_on list t → (row : ReportRow) → row ≡ row_beside nothing listed t
    → row ≡ row_for banks s list t
foreign_row banks s list t foreign nothing none listed said row is =
    is ∙ (λ i. row_beside (none i) (said i) t) ∙ ap (λ (held : MessageSet). row_on held list t) (sym (seen_foreign banks s t foreign))

pub report_made : (banks : List (List ℕ)) (s : MessageSet) (bank : List ℕ) → is_one_of banks bank ≡ true → (day : List ℕ) (list : List ListedRow)
    → (keys : List TransferKey) → keys ≡ keys_reported s bank day list → (rows : List ReportRow) → rows ≡ map (row_for banks s list) keys
    → rows ≡ report_for banks s bank day list
unfolding report_for
report_made banks s bank ours day list keys these rows are =
    are ∙ ap (map (row_for banks s list)) (these ∙ sym (keys_told banks s bank ours day list))
