-- Transfers of parts that are apart. Proof plumbing.
use Rattle.std.specs.FinSet as set
use Rattle.std.specs.FinSet.{contains-difference}
use Rattle.std.specs.Prelude.{◌⊎◌, Contains}
use Rattle.std.proofs.Common.{◌≡◌, ◌∙◌, refl, sym, ap, subst, inl, inr, ℕ, Bool, true, false, not, ◌&&◌, ◌||◌, List, ◌++◌, filter, Option}
use Rattle.std.specs.List.{flat_map}
use Rattle.std.specs.Prelude.{if◌then◌else◌}
use Rattle.std.proofs.lemmas.Bool.{and_parts, false_from_ne_true, false≢true, not-true}
use Rattle.std.proofs.lemmas.List.Elements.{Contains-append_cases, Contains-append_left, Contains-append_right}
use Rattle.std.specs.List.Sorted.{IsStrictlySortedBy}
use Rattle.std.proofs.lemmas.List.Kept.{IsStrictlySortedBy-filter}
use Rattle.sct_message.specs.Keys.{transfers_of}
use Rattle.sct_message.specs.Order.{transfer_order}
use Rattle.sct_message.specs.OrderLaws.{message_total, transfer_total, transfers_same}
use Rattle.sct_message.specs.Sets.{MessageSet, is_contradicted}
use Rattle.sct_message.specs.Transfers.{instruction_of, keys_of}
use Rattle.sct_message.specs.declared.draft.Draft.{Draft}
use Rattle.sct_message.specs.declared.keys.TransferKey.{TransferKey}
use Rattle.sct_message.proofs.AscendingLemmas.{ascending_rises, ascending-sorted}
use Rattle.sct_case.proofs.Membership.{filtered_in, in_ascending, in_filter, in_flat_map}
use Rattle.sct_set.proofs.LawLemmas.{commutative}
use Rattle.sct_view.specs.Answers.{is_beneficiary, is_originator, transfers_of_bank}
use Rattle.sct_view.specs.StatusText.{finding_line, lines_on, recall_line, status_line, status_text_of}
use Rattle.sct_view.specs.Touched.{IsToldAlike, fresh_of, is_newly_contradicted, touched_by}
use Rattle.sct_view.proofs.EvaluationLemmas.{contradicted_in_union}
use Rattle.sct_view.proofs.TouchedLemmas.{IsUntouched, same_case, untouched_stay}
use Rattle.sct_parts.specs.PartsLaws.{IsOfThePart, LinesAreThoseOfTheirPart, TransfersOfBanksAreThoseOfTheParts}
use Rattle.sct_parts.specs.Parts.{ShareNothing, has_key, keys_of_both, lines_in_part}
use Rattle.sct_parts.proofs.Members.{same_members, held_key, among, key_there, key_away, from_either, to_either, keys_of_union}
use Rattle.sct_case.proofs.Stays.{held_from}
use Rattle.sct_parts.proofs.ApartLemmas.{by_messages, swapped, of_one, not_contradicted}

never : (x : Bool) → ((x || false) && not x) ≡ false
never true = refl
never false = refl

-- answers that are alike have the same lines
pub lines_alike : (s later : MessageSet) (t : TransferKey) → IsToldAlike s later t → lines_on later t ≡ lines_on s t
unfolding lines_on
lines_alike s later t same = λ i.
    status_line t (same.status i)
    ++ flat_map (finding_line t) (same.findings i)
    ++ flat_map (λ cxl. recall_line t cxl (same.recall cxl i)) (same.recalls i)

module _ (a b : MessageSet) (apart : ShareNothing a b) (t : TransferKey) (away : Contains (keys_of b) t → ⊥) where
  -- no message of the other part changes anything of the transfer
  untouched : IsUntouched a b t
  untouched = record {
    not_fresh = λ m on. false_from_ne_true _ (λ held. away (held_key b t m held (among m t on)));
    not_newly = λ m on held.
        ap (λ (x : Bool). x && not (is_contradicted a m))
        (contradicted_in_union a b m ∙ ap (λ (x : Bool). is_contradicted a m || x) (not_contradicted a b apart m held))
        ∙ never (is_contradicted a m);
  }

  not_contradicted_by_fresh : (m : Draft) → set.contains a m ≡ true → is_contradicted (fresh_of a b) m ≡ false
  not_contradicted_by_fresh m held =
      not_contradicted a (fresh_of a b) (λ one other here there. apart one other here (and_parts _ _ (sym (contains-difference message_total b a other) ∙ there)).0) m held

  -- and so the transfer is none of those that the other part touches
  not_touched : Contains (touched_by a (fresh_of a b)) t → ⊥
  unfolding touched_by
  not_touched h =
      let fresh = fresh_of a b in
      let newly = filter (is_newly_contradicted a fresh) (set.items a) in
      elim (Contains-append_cases (flat_map transfers_of (set.items fresh)) (flat_map transfers_of newly) t (in_ascending transfer_total transfers_same _ t h)) as (λ _. ⊥) [
        | inl one ↦
            let r = in_flat_map transfers_of (set.items fresh) t one in
            away (held_key b t r.0 (and_parts _ _ (sym (contains-difference message_total b a r.0) ∙ held_from fresh r.0 r.1)).0 r.2)
        | inr other ↦
            let r = in_flat_map transfers_of newly t other in
            let m = in_filter (is_newly_contradicted a fresh) (set.items a) r.0 r.1 in
            let e = and_parts _ _ m.1 in
            false≢true
            (sym (ap (λ (x : Bool). x || false) (not-true _ e.1))
            ∙ sym (ap (λ (x : Bool). is_contradicted a r.0 || x) (not_contradicted_by_fresh r.0 (held_from a r.0 m.0)))
            ∙ sym (contradicted_in_union a fresh r.0)
            ∙ e.0)
      ]

  pub of_part : IsOfThePart a (set.union a b) t
  of_part =
      let answers = untouched_stay a b t not_touched in
      record { case = same_case a b t untouched; answers = answers; lines = lines_alike a (set.union a b) t answers }

-- in the other order
pub of_part_swapped : (a b : MessageSet) → ShareNothing a b → (t : TransferKey) → (Contains (keys_of a) t → ⊥) → IsOfThePart b (set.union a b) t
of_part_swapped a b apart t away = subst (λ (u : MessageSet). IsOfThePart b u t) (commutative b a) (of_part b a (swapped a b apart) t away)

-- the lines of each transfer
module _ (a b : MessageSet) (apart : ShareNothing a b) where
  lines_there : (t : TransferKey) → lines_on (set.union a b) t ≡ lines_in_part a b t
  lines_there t =
      elim (has_key a t) as (λ x. has_key a t ≡ x → lines_on (set.union a b) t ≡ (if x then lines_on a t else lines_on b t)) [
        | true ↦ λ e. (of_part a b apart t (of_one a b apart t (key_there a t e))).lines
        | false ↦ λ e. (of_part_swapped a b apart t (key_away a t e)).lines
      ] refl

  text_there : status_text_of (set.union a b) ≡ flat_map (lines_in_part a b) (keys_of_both a b)
  unfolding status_text_of
  text_there = λ i. flat_map (λ t. lines_there t i) (keys_of_union a b i)

pub of_first_part : (a b : MessageSet) (t : TransferKey) → ShareNothing a b → Contains (keys_of a) t → IsOfThePart a (set.union a b) t
of_first_part a b t apart here = of_part a b apart t (of_one a b apart t here)

pub of_second_part : (a b : MessageSet) (t : TransferKey) → ShareNothing a b → Contains (keys_of b) t → IsOfThePart b (set.union a b) t
of_second_part a b t apart there = of_part_swapped a b apart t (λ here. of_one a b apart t here there)

pub lines_of_parts : LinesAreThoseOfTheirPart
lines_of_parts = record {
  first = λ a b t apart. of_first_part a b t (by_messages a b apart);
  second = λ a b t apart. of_second_part a b t (by_messages a b apart);
  keys = keys_of_union;
  text = λ a b apart. text_there a b (by_messages a b apart);
}

-- ---- the transfers of a bank

abbrev is_of : MessageSet → List ℕ → TransferKey → Bool
is_of held bank t = is_originator bank t || is_beneficiary bank (instruction_of held t)

bank_key : (s : MessageSet) (bank : List ℕ) (t : TransferKey) → Contains (transfers_of_bank s bank) t → Contains (keys_of s) t × (is_of s bank t ≡ true)
unfolding transfers_of_bank
bank_key s bank t h = in_filter (is_of s bank) (keys_of s) t h

key_bank : (s : MessageSet) (bank : List ℕ) (t : TransferKey) → Contains (keys_of s) t → is_of s bank t ≡ true → Contains (transfers_of_bank s bank) t
unfolding transfers_of_bank
key_bank s bank t h e = filtered_in (is_of s bank) (keys_of s) t h e

pub banks_keys_rise : (s : MessageSet) (bank : List ℕ) → IsStrictlySortedBy transfer_order (transfers_of_bank s bank)
unfolding transfers_of_bank
banks_keys_rise s bank = IsStrictlySortedBy-filter transfer_order (is_of s bank) (keys_of s) (ascending_rises transfer_total transfers_same _)

module _ (a b : MessageSet) (apart : ShareNothing a b) where
  -- the instruction of a transfer is that of its part
  pub instruction_first : (t : TransferKey) → Contains (keys_of a) t → instruction_of (set.union a b) t ≡ instruction_of a t
  instruction_first t h = (of_part a b apart t (of_one a b apart t h)).answers.instruction

  pub instruction_second : (t : TransferKey) → Contains (keys_of b) t → instruction_of (set.union a b) t ≡ instruction_of b t
  instruction_second t h = (of_part_swapped a b apart t (λ here. of_one a b apart t here h)).answers.instruction

  module _ (bank : List ℕ) (t : TransferKey) where
    abbrev is_of_bank : Option Draft → Bool
    is_of_bank instruction = is_originator bank t || is_beneficiary bank instruction

    pub of_bank_either : Contains (transfers_of_bank (set.union a b) bank) t → Contains (transfers_of_bank a bank) t ⊎ Contains (transfers_of_bank b bank) t
    of_bank_either h =
        let k = bank_key (set.union a b) bank t h in
        elim (Contains-append_cases (keys_of a) (keys_of b) t (to_either a b t k.0)) as (λ _. Contains (transfers_of_bank a bank) t ⊎ Contains (transfers_of_bank b bank) t) [
          | inl p ↦ inl (key_bank a bank t p (sym (ap is_of_bank (instruction_first t p)) ∙ k.1))
          | inr p ↦ inr (key_bank b bank t p (sym (ap is_of_bank (instruction_second t p)) ∙ k.1))
        ]

    pub of_bank_from : Contains (transfers_of_bank a bank) t ⊎ Contains (transfers_of_bank b bank) t → Contains (transfers_of_bank (set.union a b) bank) t
    of_bank_from (inl h) =
        let k = bank_key a bank t h in
        key_bank (set.union a b) bank t (from_either a b t (inl k.0)) (ap is_of_bank (instruction_first t k.0) ∙ k.1)
    of_bank_from (inr h) =
        let k = bank_key b bank t h in
        key_bank (set.union a b) bank t (from_either a b t (inr k.0)) (ap is_of_bank (instruction_second t k.0) ∙ k.1)

    in_both_lists : Contains (transfers_of_bank a bank) t ⊎ Contains (transfers_of_bank b bank) t → Contains (transfers_of_bank a bank ++ transfers_of_bank b bank) t
    in_both_lists (inl h) = Contains-append_left (transfers_of_bank a bank) (transfers_of_bank b bank) t h
    in_both_lists (inr h) = Contains-append_right (transfers_of_bank a bank) (transfers_of_bank b bank) t h

-- a transfer of a bank in a part is a key of it
pub bank_key_of : (s : MessageSet) (bank : List ℕ) (t : TransferKey) → Contains (transfers_of_bank s bank) t → Contains (keys_of s) t
bank_key_of s bank t h = (bank_key s bank t h).0

pub transfers_of_parts : TransfersOfBanksAreThoseOfTheParts
transfers_of_parts a b bank apart =
    let u = set.union a b in
    let nothing_shared = by_messages a b apart in
    sym (ascending-sorted transfer_total transfers_same (transfers_of_bank u bank) (banks_keys_rise u bank))
    ∙ same_members transfer_total transfers_same (transfers_of_bank u bank) (transfers_of_bank a bank ++ transfers_of_bank b bank)
    (λ t h. in_both_lists a b nothing_shared bank t (of_bank_either a b nothing_shared bank t h))
    (λ t h. of_bank_from a b nothing_shared bank t (Contains-append_cases (transfers_of_bank a bank) (transfers_of_bank b bank) t h))
