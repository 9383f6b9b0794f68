-- A transfer that is in two sets is counted twice. Proof plumbing.
use Rattle.std.specs.FinSet as set
use Rattle.std.specs.Prelude.{Contains, if◌then◌else◌}
use Rattle.std.proofs.Common.{◌≡◌, ◌∙◌, refl, sym, ap, subst, inl, inr, ℕ, ◌+◌, ◌<◌, ◌≤◌, Bool, true, ◌&&◌, ◌||◌, List, length, filter, arith}
use Rattle.std.specs.List.{flat_map, sum_by}
use Rattle.std.specs.List.Sorted.{IsStrictlySortedBy}
use Rattle.std.proofs.lemmas.List.Sums.{length-filter}
use Rattle.sct_message.specs.Keys.{transfers_of}
use Rattle.sct_message.specs.Order.{same_transfer, transfer_order}
use Rattle.sct_message.specs.OrderLaws.{transfer_total, transfers_same}
use Rattle.sct_message.specs.Sets.{MessageSet}
use Rattle.sct_message.specs.Transfers.{keys_of}
use Rattle.sct_message.specs.declared.keys.TransferKey.{TransferKey}
use Rattle.sct_message.proofs.Tests.{and_false, and_true}
use Rattle.std.proofs.lemmas.Bool.{or_right}
use Rattle.sct_message.proofs.AscendingLemmas.{ascending_rises}
use Rattle.sct_message.proofs.SameValues.{text_itself, transfer_is, transfer_itself}
use Rattle.sct_case.proofs.Membership.{any_tie}
use Rattle.sct_view.specs.Answers.{is_originator}
use Rattle.sct_view.specs.Laws.{counted_in}
use Rattle.sct_view.specs.Totals.{plus, totals_of}
use Rattle.sct_view.specs.declared.totals.Totals.{Totals}
use Rattle.sct_view.proofs.LawLemmas.{counted_once}
use Rattle.sct_view.proofs.SumLemmas.{part_of_sum, sum_alike_on, sum_both, sum_kept}
use Rattle.std.proofs.lemmas.List.Elements.{Contains-append_cases}
use Rattle.sct_parts.specs.Parts.{has_key}
use Rattle.sct_parts.proofs.Members.{key_there, from_either, to_either}
use Rattle.sct_parts.specs.PartsLaws.{SharedTransfersAreCountedTwice}
use Rattle.sct_parts.proofs.SumsLemmas.{picked}

counted_plus : (x y : Totals) → counted_in (plus x y) ≡ counted_in x + counted_in y
counted_plus x y = omega arith

-- one, if a test is passed
abbrev one_if : Bool → ℕ
one_if b = if b then 1 else 0

-- of two tests of which one is passed, both are passed where they count twice
twice : (p a b : Bool) → (a || b) ≡ true → one_if (p && a) + one_if (p && b) ≡ one_if p + one_if (p && (a && b))
twice p a b some = grind arith

-- how many transfers of a bank a set has, counted among more keys
among_more : (s : MessageSet) (p : TransferKey → Bool) (ks : List TransferKey) → IsStrictlySortedBy transfer_order ks
    → ((t : TransferKey) → Contains (keys_of s) t → Contains ks t)
    → length (filter p (keys_of s)) ≡ sum_by (λ t. one_if (p t && has_key s t)) ks
among_more s p ks rises within =
    length-filter p (keys_of s)
    ∙ sum_alike_on same_transfer transfer_itself (λ t. one_if (p t)) (λ t. one_if (p t && has_key s t)) (keys_of s)
    (λ t h. ap one_if (sym (and_true (p t)) ∙ ap (λ (x : Bool). p t && x) (sym h)))
    ∙ ap (sum_by (λ t. one_if (p t && has_key s t))) (sym (picked s ks rises within))
    ∙ sum_kept (λ t. one_if (p t && has_key s t)) (has_key s) (λ t e. ap one_if (ap (λ (x : Bool). p t && x) e ∙ and_false (p t))) ks

has_it_from : (s : MessageSet) (t : TransferKey) → Contains (keys_of s) t → has_key s t ≡ true
has_it_from s t h = any_tie transfer_total transfers_same (keys_of s) t h

in_one : (a b : MessageSet) (t : TransferKey) → has_key (set.union a b) t ≡ true → (has_key a t || has_key b t) ≡ true
in_one a b t h =
    elim (Contains-append_cases (keys_of a) (keys_of b) t (to_either a b t (key_there (set.union a b) t h))) as (λ _. (has_key a t || has_key b t) ≡ true) [
      | inl p ↦ ap (λ (x : Bool). x || has_key b t) (has_it_from a t p)
      | inr p ↦ ap (λ (x : Bool). has_key a t || x) (has_it_from b t p) ∙ or_right (has_key a t) true refl
    ]

module _ (a b : MessageSet) (t : TransferKey) (here : Contains (keys_of a) t) (there : Contains (keys_of b) t) where
  one_here : one_if (is_originator t.debtor_agent t && (has_key a t && has_key b t)) ≡ 1
  one_here = λ i. one_if (text_itself t.debtor_agent i && (has_it_from a t here i && has_it_from b t there i))

  more : length (filter (is_originator t.debtor_agent) (keys_of (set.union a b)))
      < length (filter (is_originator t.debtor_agent) (keys_of a)) + length (filter (is_originator t.debtor_agent) (keys_of b))
  more =
      let p = is_originator t.debtor_agent in
      let u = set.union a b in
      let ks = keys_of u in
      let rises = ascending_rises transfer_total transfers_same (flat_map transfers_of (set.items u)) in
      let first = among_more a p ks rises (λ k h. from_either a b k (inl h)) in
      let second = among_more b p ks rises (λ k h. from_either a b k (inr h)) in
      let all = length-filter p ks in
      let added : sum_by (λ k. one_if (p k && has_key a k) + one_if (p k && has_key b k)) ks ≡ sum_by (λ k. one_if (p k) + one_if (p k && (has_key a k && has_key b k))) ks = sum_alike_on same_transfer transfer_itself (λ k. one_if (p k && has_key a k) + one_if (p k && has_key b k)) (λ k. one_if (p k) + one_if (p k && (has_key a k && has_key b k))) ks
      (λ k h. twice (p k) (has_key a k) (has_key b k) (in_one a b k h)) in
      let at : 1 ≤ sum_by (λ k. one_if (p k && (has_key a k && has_key b k))) ks = subst (λ (n : ℕ). n ≤ sum_by (λ k. one_if (p k && (has_key a k && has_key b k))) ks) one_here
      (part_of_sum same_transfer transfer_is (λ k. one_if (p k && (has_key a k && has_key b k))) t ks (has_it_from u t (from_either a b t (inl here)))) in
      omega (arith, first, second, all, added, at, sum_both (λ k. one_if (p k && has_key a k)) (λ k. one_if (p k && has_key b k)) ks, sum_both (λ k. one_if (p k)) (λ k. one_if (p k && (has_key a k && has_key b k))) ks)

pub counted_twice : SharedTransfersAreCountedTwice
counted_twice a b t here there e =
    let bank = t.debtor_agent in
    let all = λ (s : MessageSet). counted_once.all s bank in
    absurd (omega (arith, more a b t here there, all (set.union a b), all a, all b, ap counted_in e, counted_plus (totals_of a bank) (totals_of b bank)))
