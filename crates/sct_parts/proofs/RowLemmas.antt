-- Rows of reports on parts that are apart. Proof plumbing.
use Rattle.std.specs.FinSet as set
use Rattle.std.specs.Prelude.{◌⊎◌, Contains, if◌then◌else◌}
use Rattle.std.proofs.Common.{◌≡◌, ◌∙◌, refl, sym, ap, inl, inr, ℕ, true, false, List, ◌++◌, map}
use Rattle.std.proofs.lemmas.List.Elements.{Contains-append_cases, Contains-append_left, Contains-append_right}
use Rattle.sct_message.specs.OrderLaws.{transfer_total, transfers_same}
use Rattle.sct_message.specs.Sets.{MessageSet}
use Rattle.sct_message.specs.Transfers.{instruction_of}
use Rattle.sct_message.specs.declared.keys.TransferKey.{TransferKey}
use Rattle.sct_case.proofs.Membership.{filtered_in, in_filter}
use Rattle.sct_view.specs.Answers.{transfers_of_bank}
use Rattle.sct_view.specs.Touched.{IsToldAlike}
use Rattle.sct_reconcile.specs.Reports.{amount_in, is_of_day, keys_reported, listed_on, report_of, row_from, row_on, transfers_on_day}
use Rattle.sct_case.specs.Words.{word_of}
use Rattle.sct_reconcile.specs.declared.rows.ListedRow.{ListedRow}
use Rattle.std.specs.Prelude.{◌≢◌, None, filter}
use Rattle.std.specs.List.{list_any}
use Rattle.std.proofs.Common.{Bool, arith}
use Rattle.std.proofs.lemmas.Bool.{false_from_ne_true, false≢true}
use Rattle.sct_message.specs.Keys.{transfers_of as transfers_named}
use Rattle.sct_message.specs.Transfers.{is_instruction, is_on, keys_of, sole}
use Rattle.sct_case.specs.Statuses.{Standing}
use Rattle.sct_case.proofs.Membership.{any_tie}
use Rattle.sct_view.specs.Answers.{status_of}
use Rattle.sct_view.specs.Kept.{case_of}
use Rattle.sct_view.proofs.ChangeLemmas.{nothing_kept}
use Rattle.sct_view.proofs.KeyLemmas.{same_key_is}
use Rattle.sct_view.proofs.SetKeys.{on_is}
use Rattle.sct_view.proofs.StandingLemmas.{is_known, key_known}
use Rattle.sct_view.proofs.TouchedLemmas.{found_held}
use Rattle.sct_reconcile.specs.Reports.{word_on}
use Rattle.sct_case.specs.declared.words.StatusWord.{StatusWord}
use Rattle.sct_case.specs.declared.words.StatusWord.TheVariants as word
use Rattle.sct_parts.specs.Parts.{ShareNothing, has_key}
use Rattle.sct_parts.proofs.Members.{same_members, key_held, key_there, key_away}
use Rattle.sct_parts.proofs.ApartLemmas.{by_messages, of_one}
use Rattle.sct_parts.proofs.TransferLemmas.{of_part, of_part_swapped, of_first_part, of_second_part, instruction_first, instruction_second, of_bank_either, of_bank_from, bank_key_of}
use Rattle.sct_parts.specs.PartsLaws.{RowsAreThoseOfTheirPart}
use Rattle.sct_parts.specs.Parts.{keys_reported_of_both, row_in_part}

-- answers that are alike have the same row
pub row_alike : (s later : MessageSet) (list : List ListedRow) (t : TransferKey) → IsToldAlike s later t → row_on later list t ≡ row_on s list t
row_alike s later list t same = λ i. row_from t (listed_on list t) (word_of (same.status i)) (amount_in (same.instruction i))

module _ (a b : MessageSet) (apart : ShareNothing a b) where
  row_there : (list : List ListedRow) (t : TransferKey) → row_on (set.union a b) list t ≡ row_in_part a b list t
  row_there list t =
      elim (has_key a t) as (λ x. has_key a t ≡ x → row_on (set.union a b) list t ≡ (if x then row_on a list t else row_on b list t)) [
        | true ↦ λ e. row_alike a (set.union a b) list t (of_part a b apart t (of_one a b apart t (key_there a t e))).answers
        | false ↦ λ e. row_alike b (set.union a b) list t (of_part_swapped a b apart t (key_away a t e)).answers
      ] refl

  module _ (bank day : List ℕ) (t : TransferKey) where
    pub on_day_either : Contains (transfers_on_day (set.union a b) bank day) t → Contains (transfers_on_day a bank day) t ⊎ Contains (transfers_on_day b bank day) t
    on_day_either h =
        let k = in_filter (λ key. is_of_day day (instruction_of (set.union a b) key)) (transfers_of_bank (set.union a b) bank) t h in
        elim (of_bank_either a b apart bank t k.0) as (λ _. Contains (transfers_on_day a bank day) t ⊎ Contains (transfers_on_day b bank day) t) [
          | inl p ↦ inl (filtered_in (λ key. is_of_day day (instruction_of a key)) (transfers_of_bank a bank) t p
              (sym (ap (is_of_day day) (instruction_first a b apart t (bank_key_of a bank t p))) ∙ k.1))
          | inr p ↦ inr (filtered_in (λ key. is_of_day day (instruction_of b key)) (transfers_of_bank b bank) t p
              (sym (ap (is_of_day day) (instruction_second a b apart t (bank_key_of b bank t p))) ∙ k.1))
        ]

    pub on_day_from : Contains (transfers_on_day a bank day) t ⊎ Contains (transfers_on_day b bank day) t → Contains (transfers_on_day (set.union a b) bank day) t
    on_day_from (inl h) =
        let k = in_filter (λ key. is_of_day day (instruction_of a key)) (transfers_of_bank a bank) t h in
        filtered_in (λ key. is_of_day day (instruction_of (set.union a b) key)) (transfers_of_bank (set.union a b) bank) t (of_bank_from a b apart bank t (inl k.0))
        (ap (is_of_day day) (instruction_first a b apart t (bank_key_of a bank t k.0)) ∙ k.1)
    on_day_from (inr h) =
        let k = in_filter (λ key. is_of_day day (instruction_of b key)) (transfers_of_bank b bank) t h in
        filtered_in (λ key. is_of_day day (instruction_of (set.union a b) key)) (transfers_of_bank (set.union a b) bank) t (of_bank_from a b apart bank t (inr k.0))
        (ap (is_of_day day) (instruction_second a b apart t (bank_key_of b bank t k.0)) ∙ k.1)

  module _ (bank day : List ℕ) (list : List ListedRow) where
    abbrev listed : List TransferKey
    listed = map (λ (row : ListedRow). row.key) list

    abbrev on_days : List TransferKey
    on_days = transfers_on_day a bank day ++ transfers_on_day b bank day

    to_parts : (t : TransferKey) → Contains (listed ++ transfers_on_day (set.union a b) bank day) t → Contains (listed ++ on_days) t
    to_parts t h = elim (Contains-append_cases listed (transfers_on_day (set.union a b) bank day) t h) as (λ _. Contains (listed ++ on_days) t) [
      | inl p ↦ Contains-append_left listed on_days t p
      | inr p ↦ Contains-append_right listed on_days t (elim (on_day_either bank day t p) as (λ _. Contains on_days t) [
        | inl q ↦ Contains-append_left (transfers_on_day a bank day) (transfers_on_day b bank day) t q
        | inr q ↦ Contains-append_right (transfers_on_day a bank day) (transfers_on_day b bank day) t q
      ])
    ]

    to_union : (t : TransferKey) → Contains (listed ++ on_days) t → Contains (listed ++ transfers_on_day (set.union a b) bank day) t
    to_union t h = elim (Contains-append_cases listed on_days t h) as (λ _. Contains (listed ++ transfers_on_day (set.union a b) bank day) t) [
      | inl p ↦ Contains-append_left listed (transfers_on_day (set.union a b) bank day) t p
      | inr p ↦ Contains-append_right listed (transfers_on_day (set.union a b) bank day) t
          (on_day_from bank day t (Contains-append_cases (transfers_on_day a bank day) (transfers_on_day b bank day) t p))
    ]

    keys_there : keys_reported (set.union a b) bank day list ≡ keys_reported_of_both a b bank day list
    keys_there = same_members transfer_total transfers_same (listed ++ transfers_on_day (set.union a b) bank day) (listed ++ on_days) to_parts to_union

    report_there : report_of (set.union a b) bank day list ≡ map (row_in_part a b list) (keys_reported_of_both a b bank day list)
    unfolding report_of
    report_there = λ i. map (λ t. row_there list t i) (keys_there i)

-- ---- rows of a transfer that no message names, and of one that some message names

-- a transfer that no message of the set is on has the row of an unknown transfer
pub row_elsewhere : (s : MessageSet) (list : List ListedRow) (t : TransferKey) → (Contains (keys_of s) t → ⊥)
    → row_on s list t ≡ row_from t (listed_on list t) word.Unknown None
unfolding case_of
row_elsewhere s list t away =
    let none = nothing_kept s t (ap (λ (E : TransferKey → TransferKey → Bool). list_any (E t) (keys_of s)) same_key_is ∙ false_from_ne_true _ (λ e. away (key_there s t e))) in
    λ i. row_from t (listed_on list t) (word_of (none i).stands) (amount_in (sole (filter is_instruction (none i).clean)))

abbrev is_known_word : StatusWord → Bool
is_known_word word.Unknown = false
is_known_word other = true

word_known : (stands : Standing) → is_known_word (word_of stands) ≡ is_known stands
word_known stands = grind arith

pub row_known : (s : MessageSet) (t : TransferKey) → Contains (keys_of s) t → word_on s t ≢ word.Unknown
row_known s t key unknown =
    let m = key_held s t key in
    let named = found_held s (is_on t) m.0 m.1 (on_is t m.0 ∙ any_tie transfer_total transfers_same (transfers_named m.0) t m.2) in
    false≢true (sym (ap is_known_word unknown) ∙ word_known (status_of s t) ∙ key_known s t named)

pub rows_of_parts : RowsAreThoseOfTheirPart
rows_of_parts = record {
  first = λ a b list t apart here. row_alike a (set.union a b) list t (of_first_part a b t (by_messages a b apart) here).answers;
  second = λ a b list t apart there. row_alike b (set.union a b) list t (of_second_part a b t (by_messages a b apart) there).answers;
  report = λ a b bank day list apart. report_there a b (by_messages a b apart) bank day list;
}
