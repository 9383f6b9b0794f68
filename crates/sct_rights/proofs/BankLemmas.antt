-- Transfers filed by the banks that messages on them name. Proof plumbing.
use Rattle.std.proofs.Common.{◌≡◌, ◌∙◌, ap, sym, arith, inl, inr, ℕ, ◌+◌, Bool, true, false, ◌&&◌, ◌||◌, refl, List, [], ◌∷◌, ◌++◌, filter, map, take, Option, None, Some}
use Rattle.std.specs.FinSet as set
use Rattle.std.specs.List.{list_any, slice_get}
use Rattle.std.specs.Prelude.{◌⊎◌, Contains}
use Rattle.std.proofs.lemmas.Bool.{and_from, and_parts, false≢true, or_left, or_right}
use Rattle.std.proofs.lemmas.List.Folds.{list_any-append}
use Rattle.std.proofs.lemmas.List.Elements.{Contains-append_cases, Contains-append_left, Contains-append_right}
use Rattle.std.proofs.lemmas.Map.Views.{Contains-from_any}
use Rattle.indexmap.specs.IndexMap.{IndexMap}
use Rattle.sct_element.specs.Text.{is_text}
use Rattle.sct_message.specs.Ascending.{ascending}
use Rattle.sct_message.specs.Keys.{transfers_of}
use Rattle.sct_message.specs.Order.{same_transfer, transfer_order}
use Rattle.sct_message.specs.OrderLaws.{transfer_total, transfers_same}
use Rattle.sct_message.specs.Sets.{MessageSet}
use Rattle.sct_message.specs.Transfers.{instruction_of, is_on, keys_of}
use Rattle.sct_message.specs.declared.draft.Draft.{Draft}
use Rattle.sct_message.specs.declared.keys.TransferKey.{TransferKey}
use Rattle.sct_message.proofs.SameValues.{transfer_is}
use Rattle.sct_case.proofs.Membership.{any_tie, filtered_in, in_filter}
use Rattle.sct_set.specs.Buckets.{bucket}
use Rattle.sct_set.proofs.ContentsLemmas.{any_items}
use Rattle.sct_view.specs.Answers.{is_beneficiary, is_originator, transfers_of_bank}
use Rattle.sct_view.proofs.TouchedLemmas.{found_held}
use Rattle.sct_view.proofs.SetKeys.{key-is_on, on_is}
use Rattle.sct_view.proofs.SlotLemmas.{one_read}
use Rattle.sct_reconcile.specs.Reports.{is_of_day, keys_reported, transfers_on_day}
use Rattle.sct_reconcile.specs.declared.rows.ListedRow.{ListedRow}
use Rattle.sct_parts.proofs.Members.{held_passing, key_held, key_there, same_members}
use Rattle.sct_rights.specs.ByBanks.{IsFiledByBanks, IsFiledForBanks, is_reported, names_bank}
use Rattle.sct_rights.proofs.ReportLemmas.{bank_key, is_of, key_bank}
use Rattle.sct_rights.proofs.TruthLemmas.{instruction_held}

-- ---- filing

-- a test of a key, at the keys that are a transfer
at_it : (t : TransferKey) (q : TransferKey → Bool) (ks : List TransferKey)
    → list_any (λ k. same_transfer t k && q k) ks ≡ (list_any (same_transfer t) ks && q t)
at_it t q [] = refl
at_it t q (k ∷ ks) =
    elim (same_transfer t k) as (λ b. same_transfer t k ≡ b → ((b && q k) || list_any (λ j. same_transfer t j && q j) ks) ≡ ((b || list_any (same_transfer t) ks) && q t)) [
      | true ↦ λ e. grind (arith, ap q (transfer_is t k e), at_it t q ks)
      | false ↦ λ _. at_it t q ks
    ] refl

module _ (d : Draft) where
  -- the message names the bank at one of its first transfers, so many of them
  abbrev pub named_by : ℕ → List ℕ → TransferKey → Bool
  named_by i bank t = list_any (λ k. same_transfer t k && names_bank bank k d) (take i (transfers_of d))

  -- some messages are filed, and one more by so many of its transfers
  abbrev pub IsFiledUpTo : {S : Type 0} → ℕ → IndexMap (List ℕ) (List TransferKey) S → List Draft → Type 0
  IsFiledUpTo i index ms = (bank : List ℕ) (t : TransferKey)
      → list_any (same_transfer t) (bucket is_text index bank) ≡ (list_any (λ m. is_on t m && names_bank bank t m) ms || named_by i bank t)

  named_more : (i : ℕ) (k : TransferKey) (bank : List ℕ) (t : TransferKey) → slice_get (transfers_of d) i ≡ Some k
      → named_by (i + 1) bank t ≡ (named_by i bank t || ((same_transfer t k && names_bank bank k d) || false))
  named_more i k bank t next =
      ap (list_any (λ j. same_transfer t j && names_bank bank j d)) (one_read (transfers_of d) i k next)
      ∙ list_any-append (λ j. same_transfer t j && names_bank bank j d) (take i (transfers_of d)) (k ∷ [])

  module _ {S : Type 0} (ms : List Draft) where
    pub filed_none : (index : IndexMap (List ℕ) (List TransferKey) S) → IsFiledByBanks index ms → IsFiledUpTo 0 index ms
    filed_none index filed bank t = grind (arith, filed bank t)

    pub filed_one : (index later : IndexMap (List ℕ) (List TransferKey) S) (i : ℕ) (k : TransferKey) → slice_get (transfers_of d) i ≡ Some k
        → ((bank : List ℕ) (t : TransferKey) → list_any (same_transfer t) (bucket is_text later bank)
        ≡ (list_any (same_transfer t) (bucket is_text index bank) || (same_transfer t k && names_bank bank k d)))
        → IsFiledUpTo i index ms → IsFiledUpTo (i + 1) later ms
    filed_one index later i k next made filed bank t = grind (arith, made bank t, filed bank t, named_more i k bank t next)

    pub filed_all : (index : IndexMap (List ℕ) (List TransferKey) S) (i : ℕ) → take i (transfers_of d) ≡ transfers_of d
        → IsFiledUpTo i index ms → IsFiledByBanks index (ms ++ d ∷ [])
    filed_all index i all filed bank t =
        grind (
          arith,
          filed bank t,
          ap (list_any (λ k. same_transfer t k && names_bank bank k d)) all,
          at_it t (λ k. names_bank bank k d) (transfers_of d),
          on_is t d,
          list_any-append (λ m. is_on t m && names_bank bank t m) ms (d ∷ []),
        )

-- ---- the transfers of a report

module _ {S : Type 0} (s : MessageSet) (index : IndexMap (List ℕ) (List TransferKey) S) (filed : IsFiledForBanks s index) (bank day : List ℕ) where
  abbrev under : List TransferKey
  under = bucket is_text index bank

  filed_is : (t : TransferKey) → list_any (same_transfer t) under ≡ list_any (λ m. is_on t m && names_bank bank t m) (set.items s)
  filed_is t =
      filed.2 bank t
      ∙ sym (any_items (λ m. is_on t m && names_bank bank t m) filed.0)
      ∙ ap (λ (held : MessageSet). list_any (λ m. is_on t m && names_bank bank t m) (set.items held)) filed.1

  to_key : (t : TransferKey) → Contains under t → Contains (keys_of s) t
  to_key t h =
      let m = held_passing s (λ d. is_on t d && names_bank bank t d) (sym (filed_is t) ∙ any_tie transfer_total transfers_same under t h) in
      key_there s t (key-is_on s t ∙ found_held s (is_on t) m.0 m.1 (and_parts _ _ m.2).0)

  by_instruction : (t : TransferKey) (o : Option Draft) → instruction_of s t ≡ o → is_beneficiary bank o ≡ true
      → list_any (λ m. is_on t m && names_bank bank t m) (set.items s) ≡ true
  by_instruction t None is e = absurd (false≢true e)
  by_instruction t (Some m) is e =
      let there = instruction_held s t m is in
      found_held s (λ d. is_on t d && names_bank bank t d) m there.0 (and_from _ _ there.1 (or_right (is_originator bank t) _ e))

  named_there : (t : TransferKey) → Contains (keys_of s) t → is_of s bank t ≡ true → list_any (λ m. is_on t m && names_bank bank t m) (set.items s) ≡ true
  named_there t h e =
      elim (is_originator bank t) as (λ b. is_originator bank t ≡ b → list_any (λ m. is_on t m && names_bank bank t m) (set.items s) ≡ true) [
        | true ↦ λ o.
            let m = key_held s t h in
            let on = on_is t m.0 ∙ any_tie transfer_total transfers_same (transfers_of m.0) t m.2 in
            found_held s (λ d. is_on t d && names_bank bank t d) m.0 m.1 (and_from _ _ on (or_left _ _ o))
        | false ↦ λ o. by_instruction t (instruction_of s t) refl (sym (ap (λ (b : Bool). b || is_beneficiary bank (instruction_of s t)) o) ∙ e)
      ] refl

  abbrev reported : List TransferKey
  reported = filter (is_reported s bank day) under

  to_day : (t : TransferKey) → Contains reported t → Contains (transfers_on_day s bank day) t
  to_day t h =
      let k = in_filter (is_reported s bank day) under t h in
      let both = and_parts _ _ k.1 in
      filtered_in (λ key. is_of_day day (instruction_of s key)) (transfers_of_bank s bank) t (key_bank s bank t (to_key t k.0) both.0) both.1

  from_day : (t : TransferKey) → Contains (transfers_on_day s bank day) t → Contains reported t
  from_day t h =
      let k = in_filter (λ key. is_of_day day (instruction_of s key)) (transfers_of_bank s bank) t h in
      let of = bank_key s bank t k.0 in
      filtered_in (is_reported s bank day) under t (Contains-from_any transfer_is t under (filed_is t ∙ named_there t of.0 of.1)) (and_from _ _ of.1 k.1)

  module _ (list : List ListedRow) where
    abbrev listed : List TransferKey
    listed = map (λ (row : ListedRow). row.key) list

    to_reported : (t : TransferKey) → Contains reported t ⊎ Contains listed t → Contains (listed ++ transfers_on_day s bank day) t
    to_reported t (inl h) = Contains-append_right listed (transfers_on_day s bank day) t (to_day t h)
    to_reported t (inr h) = Contains-append_left listed (transfers_on_day s bank day) t h

    from_reported : (t : TransferKey) → Contains listed t ⊎ Contains (transfers_on_day s bank day) t → Contains (reported ++ listed) t
    from_reported t (inl h) = Contains-append_right reported listed t h
    from_reported t (inr h) = Contains-append_left reported listed t (from_day t h)

    pub keys_filed : ascending transfer_order (reported ++ listed) ≡ keys_reported s bank day list
    keys_filed =
        same_members transfer_total transfers_same (reported ++ listed) (listed ++ transfers_on_day s bank day)
        (λ t h. to_reported t (Contains-append_cases reported listed t h))
        (λ t h. from_reported t (Contains-append_cases listed (transfers_on_day s bank day) t h))
