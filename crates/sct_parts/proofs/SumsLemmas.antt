-- Totals of parts that are apart. Proof plumbing.
use Rattle.std.specs.FinSet as set
use Rattle.std.specs.Prelude.{◌≢◌, ◌⊎◌, Contains}
use Rattle.std.proofs.Common.{◌≡◌, ◌∙◌, refl, sym, ap, inl, inr, ℕ, ◌+◌, Bool, true, false, cond, List, ◌++◌, filter, arith}
use Rattle.std.specs.Cmp.Lexicographic.{nat_list_cmp_total}
use Rattle.std.specs.List.{flat_map, list_any, sum_by}
use Rattle.std.specs.List.Sorted.{IsStrictlySortedBy}
use Rattle.std.proofs.lemmas.Bool.{false_from_ne_true, false≢true}
use Rattle.std.proofs.lemmas.List.Elements.{Contains-append_cases, Contains-append_left, Contains-append_right}
use Rattle.std.proofs.lemmas.List.Kept.{IsStrictlySortedBy-filter}
use Rattle.sct_message.specs.CellsBack.{texts_same}
use Rattle.sct_message.specs.Keys.{transfers_of}
use Rattle.sct_message.specs.Order.{text_order, transfer_order}
use Rattle.sct_message.specs.OrderLaws.{transfer_total, transfers_same}
use Rattle.sct_message.specs.Sets.{MessageSet}
use Rattle.sct_message.specs.Transfers.{keys_of}
use Rattle.sct_message.specs.declared.keys.TransferKey.{TransferKey}
use Rattle.sct_message.proofs.AscendingLemmas.{ascending_rises, ascending-sorted}
use Rattle.sct_case.proofs.Membership.{any_tie, filtered_in, in_filter}
use Rattle.sct_view.specs.Answers.{is_originator}
use Rattle.sct_view.specs.Kept.{case_of, no_messages, share_in}
use Rattle.sct_view.specs.Totals.{banks_of, is_nothing, nothing, plus, share, share_of, totals_of}
use Rattle.sct_view.specs.TotalsText.{totals_line, totals_text_of}
use Rattle.sct_view.specs.declared.totals.Totals.{Totals}
use Rattle.sct_view.proofs.BankLemmas.{banks_have_totals, candidates, has_totals_told, is_nothing-is, number_of}
use Rattle.sct_view.proofs.ChangeLemmas.{nothing_kept}
use Rattle.sct_view.proofs.KeyLemmas.{same_key_is}
use Rattle.sct_view.proofs.SumLemmas.{sum_both, sum_kept}
use Rattle.sct_view.proofs.TotalsLemmas.{IsNumber, by_numbers, totals_same}
use Rattle.sct_view.proofs.ShareLemmas.{plus_nothing}
use Rattle.sct_view.proofs.CommitLemmas.{no_share}
use Rattle.sct_view.proofs.ListedLemmas.{banks_rise}
use Rattle.sct_parts.specs.Parts.{ShareNothing, has_key}
use Rattle.sct_parts.proofs.Members.{same_members, key_there, key_away, from_either}
use Rattle.sct_parts.proofs.ApartLemmas.{by_messages, of_one}
use Rattle.sct_parts.proofs.TransferLemmas.{of_part, of_part_swapped}
use Rattle.sct_parts.specs.PartsLaws.{TotalsAddUp}
use Rattle.sct_parts.specs.Parts.{banks_of_both}

-- ---- sums with nothing

nothing_plus : (t : Totals) → plus nothing t ≡ t
nothing_plus t = totals_same (plus nothing t) t (omega arith) (omega arith) (omega arith) (omega arith) (omega arith) (omega arith) (omega arith) (omega arith) (omega arith) (omega arith)

-- ---- transfers without messages

-- a transfer that no message of the set is on has no share
pub elsewhere : (s : MessageSet) (bank : List ℕ) (t : TransferKey) → has_key s t ≡ false → share_of s bank t ≡ nothing
unfolding case_of
elsewhere s bank t away =
    ap (share_in bank t) (nothing_kept s t (ap (λ (E : TransferKey → TransferKey → Bool). list_any (E t) (keys_of s)) same_key_is ∙ away))
    ∙ no_share bank t

-- ---- the sums

module _ (a b : MessageSet) (apart : ShareNothing a b) where
  -- the share of each transfer is the sum of its shares in the parts, of which one is nothing
  shares_add : (bank : List ℕ) (t : TransferKey) → share_of (set.union a b) bank t ≡ plus (share_of a bank t) (share_of b bank t)
  shares_add bank t =
      elim (has_key a t) as (λ x. has_key a t ≡ x → share_of (set.union a b) bank t ≡ plus (share_of a bank t) (share_of b bank t)) [
        | true ↦ λ e.
            let away = of_one a b apart t (key_there a t e) in
            (of_part a b apart t away).answers.shares bank
            ∙ sym (plus_nothing (share_of a bank t))
            ∙ ap (plus (share_of a bank t)) (sym (elsewhere b bank t (false_from_ne_true _ (λ h. away (key_there b t h)))))
        | false ↦ λ e.
            (of_part_swapped a b apart t (key_away a t e)).answers.shares bank
            ∙ sym (nothing_plus (share_of b bank t))
            ∙ ap (λ (x : Totals). plus x (share_of b bank t)) (sym (elsewhere a bank t e))
      ] refl

-- the keys of a part, picked from more keys
pub picked : (s : MessageSet) (ks : List TransferKey) → IsStrictlySortedBy transfer_order ks → ((t : TransferKey) → Contains (keys_of s) t → Contains ks t)
    → filter (has_key s) ks ≡ keys_of s
picked s ks rises within =
    sym (ascending-sorted transfer_total transfers_same (filter (has_key s) ks) (IsStrictlySortedBy-filter transfer_order (has_key s) ks rises))
    ∙ same_members transfer_total transfers_same (filter (has_key s) ks) (keys_of s)
    (λ t h. key_there s t (in_filter (has_key s) ks t h).1)
    (λ t h. filtered_in (has_key s) ks t (within t h) (any_tie transfer_total transfers_same (keys_of s) t h))
    ∙ ascending-sorted transfer_total transfers_same (keys_of s) (ascending_rises transfer_total transfers_same _)

-- a number of a part, summed over more keys
over_more : (n : Totals → ℕ) → IsNumber n → (s : MessageSet) (bank : List ℕ) (ks : List TransferKey) → IsStrictlySortedBy transfer_order ks
    → ((t : TransferKey) → Contains (keys_of s) t → Contains ks t) → sum_by (λ t. n (share_of s bank t)) ks ≡ n (totals_of s bank)
over_more n is s bank ks rises within =
    sym (sum_kept (λ t. n (share_of s bank t)) (has_key s) (λ t e. ap n (elsewhere s bank t e) ∙ is.none) ks)
    ∙ ap (sum_by (λ t. n (share_of s bank t))) (picked s ks rises within)
    ∙ sym (number_of n is s bank)

module _ (a b : MessageSet) (bank : List ℕ) (apart : ShareNothing a b) where
  pub add_up : totals_of (set.union a b) bank ≡ plus (totals_of a bank) (totals_of b bank)
  add_up =
      let u = set.union a b in
      let rises = ascending_rises transfer_total transfers_same (flat_map transfers_of (set.items u)) in
      by_numbers (totals_of u bank) (plus (totals_of a bank) (totals_of b bank)) (λ n is.
      number_of n is u bank
      ∙ (λ i. sum_by (λ t. n (shares_add a b apart bank t i)) (keys_of u))
      ∙ (λ i. sum_by (λ t. is.both (share_of a bank t) (share_of b bank t) i) (keys_of u))
      ∙ sum_both (λ t. n (share_of a bank t)) (λ t. n (share_of b bank t)) (keys_of u)
      ∙ (λ i. over_more n is a bank (keys_of u) rises (λ t h. from_either a b t (inl h)) i + over_more n is b bank (keys_of u) rises (λ t h. from_either a b t (inr h)) i)
      ∙ sym (is.both (totals_of a bank) (totals_of b bank)))

-- ---- the banks

-- a sum is nothing just where both parts are
first_nothing : (x y : Totals) → plus x y ≡ nothing → x ≡ nothing
first_nothing x y e =
    let zero_of = λ (n : Totals → ℕ). ap n e in
    totals_same x nothing (omega (arith, zero_of (λ t. t.sent))) (omega (arith, zero_of (λ t. t.sent_cents))) (omega (arith, zero_of (λ t. t.returned_in)))
    (omega (arith, zero_of (λ t. t.rejected))) (omega (arith, zero_of (λ t. t.waiting))) (omega (arith, zero_of (λ t. t.missing)))
    (omega (arith, zero_of (λ t. t.contradicted))) (omega (arith, zero_of (λ t. t.received))) (omega (arith, zero_of (λ t. t.received_cents)))
    (omega (arith, zero_of (λ t. t.returned_out)))

second_nothing : (x y : Totals) → plus x y ≡ nothing → y ≡ nothing
second_nothing x y e =
    let zero_of = λ (n : Totals → ℕ). ap n e in
    totals_same y nothing (omega (arith, zero_of (λ t. t.sent))) (omega (arith, zero_of (λ t. t.sent_cents))) (omega (arith, zero_of (λ t. t.returned_in)))
    (omega (arith, zero_of (λ t. t.rejected))) (omega (arith, zero_of (λ t. t.waiting))) (omega (arith, zero_of (λ t. t.missing)))
    (omega (arith, zero_of (λ t. t.contradicted))) (omega (arith, zero_of (λ t. t.received))) (omega (arith, zero_of (λ t. t.received_cents)))
    (omega (arith, zero_of (λ t. t.returned_out)))

-- of two totals that do not come to nothing one is not nothing
one_has_some : (x y : Totals) → plus x y ≢ nothing → (x ≢ nothing) ⊎ (y ≢ nothing)
one_has_some x y some =
    elim (is_nothing x) as (λ c. is_nothing x ≡ c → (x ≢ nothing) ⊎ (y ≢ nothing)) [
      | true ↦ λ e. inr (λ none. some ((λ i. plus (is_nothing-is x e i) (none i)) ∙ plus_nothing nothing))
      | false ↦ λ e. inl (λ none. false≢true (sym e ∙ ap is_nothing none))
    ] refl

module _ (a b : MessageSet) (apart : ShareNothing a b) where
  told_in_part : (bank : List ℕ) → (totals_of a bank ≢ nothing) ⊎ (totals_of b bank ≢ nothing) → Contains (banks_of a ++ banks_of b) bank
  told_in_part bank (inl some) = Contains-append_left (banks_of a) (banks_of b) bank ((banks_have_totals a bank).1 some)
  told_in_part bank (inr some) = Contains-append_right (banks_of a) (banks_of b) bank ((banks_have_totals b bank).1 some)

  told_in_union : (bank : List ℕ) → Contains (banks_of a) bank ⊎ Contains (banks_of b) bank → totals_of (set.union a b) bank ≢ nothing
  told_in_union bank (inl h) none = (banks_have_totals a bank).0 h (first_nothing (totals_of a bank) (totals_of b bank) (sym (add_up a b bank apart) ∙ none))
  told_in_union bank (inr h) none = (banks_have_totals b bank).0 h (second_nothing (totals_of a bank) (totals_of b bank) (sym (add_up a b bank apart) ∙ none))

  same_banks : banks_of (set.union a b) ≡ banks_of_both a b
  same_banks =
      let u = set.union a b in
      sym (ascending-sorted nat_list_cmp_total texts_same (banks_of u) (banks_rise u))
      ∙ same_members nat_list_cmp_total texts_same (banks_of u) (banks_of a ++ banks_of b)
      (λ bank h. told_in_part bank (one_has_some (totals_of a bank) (totals_of b bank) (λ none. (banks_have_totals u bank).0 h (add_up a b bank apart ∙ none))))
      (λ bank h. (banks_have_totals u bank).1 (told_in_union bank (Contains-append_cases (banks_of a) (banks_of b) bank h)))

  same_text : totals_text_of (set.union a b) ≡ flat_map (λ bank. totals_line bank (plus (totals_of a bank) (totals_of b bank))) (banks_of_both a b)
  unfolding totals_text_of
  same_text = λ i. flat_map (λ bank. totals_line bank (add_up a b bank apart i)) (same_banks i)

pub totals_add_up : TotalsAddUp
totals_add_up = record {
  each = λ a b bank apart. add_up a b bank (by_messages a b apart);
  banks = λ a b apart. same_banks a b (by_messages a b apart);
  text = λ a b apart. same_text a b (by_messages a b apart);
}
