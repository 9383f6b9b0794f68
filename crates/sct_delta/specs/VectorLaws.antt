-- Proof plumbing: the test for equal vectors is an equivalence, and holds exactly if they count the same.
use Rattle.std.proofs.Common.{ℕ, ◌≡◌, ◌∷◌, [], List, Bool, true, false, cond, Some, None, ◌==◌, ◌⊎◌, inl, inr, refl, sym, ap, ◌∙◌, eqb-true}
use Rattle.std.specs.Prelude.{nat_lt, nat_eq}
use Rattle.std.specs.BTreeMap.{keys, is_at}
use Rattle.std.specs.Cmp.{IsEquivalence, both_ways}
use Rattle.std.specs.List.{list_all}
use Rattle.std.specs.Map.{lookup, keys_of}
use Rattle.std.specs.Ordering.{nat_cmp, is_eq}
use Rattle.std.specs.declared.cmp.Ordering.TheVariants.{Less, Equal, Greater}
use Rattle.std.proofs.lemmas.Bool.{and_parts, and_from, eq-eqb}
use Rattle.std.proofs.Math.Bool.{and_comm}
use Rattle.sct_delta.specs.declared.vector.Vector.{Vector}
use Rattle.sct_delta.specs.Vectors.{count_in, count_or_0, counted_alike, same_counts, CountAlike}

-- ---- from counts to the test

all_alike : (f g : ℕ → ℕ) → ((origin : ℕ) → f origin ≡ g origin) → (origins : List ℕ)
    → list_all (λ origin. nat_eq (f origin) (g origin)) origins ≡ true
all_alike f g same [] = refl
all_alike f g same (origin ∷ origins) = rw (same origin, eq-eqb (g origin) (g origin) refl, all_alike f g same origins) refl

pub same_from_alike : (a b : Vector) → CountAlike a b → same_counts a b ≡ true
unfolding same_counts
same_from_alike a b same =
    and_from _ _ (all_alike (count_in a) (count_in b) same (keys a.counts))
    (all_alike (count_in b) (count_in a) (λ origin. sym (same origin)) (keys b.counts))

-- ---- from the test to counts

pub same_key : (k q : ℕ) → is_eq (nat_cmp k q) ≡ true → k ≡ q
same_key k q tied =
    (elim (nat_lt k q) as (λ below. is_eq (cond below Less (cond (k == q) Equal Greater)) ≡ true → k ≡ q) [
      | true ↦ λ h. cc
      | false ↦ (elim (k == q) as (λ same. (k == q) ≡ same → is_eq (cond same Equal Greater) ≡ true → k ≡ q) [
        | true ↦ λ same h. eqb-true k q same
        | false ↦ λ other h. cc
      ]) refl
    ]) tied

-- a key passes a test that all keys pass, or it has no value
named_passes : (P : ℕ → Bool) (k : ℕ) (es : List (ℕ × ℕ)) → list_all P (keys_of es) ≡ true
    → (P k ≡ true) ⊎ (lookup (is_at (nat_cmp k)) es ≡ None)
named_passes P k [] all = inr refl
named_passes P k (e ∷ es) all =
    let parts : (P e.0 ≡ true) × (list_all P (keys_of es) ≡ true) = and_parts (P e.0) (list_all P (keys_of es)) all in
    (elim (is_eq (nat_cmp k e.0)) as (λ here. is_eq (nat_cmp k e.0) ≡ here → (P k ≡ true) ⊎ (cond here (Some e.1) (lookup (is_at (nat_cmp k)) es) ≡ None)) [
      | true ↦ λ here. inl (rw (same_key k e.0 here) parts.0)
      | false ↦ λ other. named_passes P k es parts.1
    ]) refl

alike_at : (a b : Vector) (k : ℕ) → counted_alike a b ≡ true → counted_alike b a ≡ true → count_in a k ≡ count_in b k
alike_at a b k there back =
    elim (named_passes (λ origin. nat_eq (count_in a origin) (count_in b origin)) k a.counts.entries there) [
      | inl same ↦ eqb-true (count_in a k) (count_in b k) same
      | inr none_a ↦ elim (named_passes (λ origin. nat_eq (count_in b origin) (count_in a origin)) k b.counts.entries back) [
        | inl same ↦ sym (eqb-true (count_in b k) (count_in a k) same)
        | inr none_b ↦ ap count_or_0 none_a ∙ sym (ap count_or_0 none_b)
      ]
    ]

pub alike_from_same : (a b : Vector) → same_counts a b ≡ true → CountAlike a b
unfolding same_counts
alike_from_same a b same =
    let parts : (counted_alike a b ≡ true) × (counted_alike b a ≡ true) = and_parts (counted_alike a b) (counted_alike b a) same in
    λ origin. alike_at a b origin parts.0 parts.1

-- ---- an equivalence

same_back : (a b : Vector) → same_counts a b ≡ same_counts b a
unfolding same_counts
same_back a b = and_comm (counted_alike a b) (counted_alike b a)

pub same_counts_equiv : IsEquivalence same_counts
same_counts_equiv = record {
  refl = λ a. same_from_alike a a (λ origin. refl);
  symm = same_back;
  congr = λ a b c same. both_ways (same_counts a c) (same_counts b c)
      (λ there. same_from_alike b c (λ origin. sym (alike_from_same a b same origin) ∙ alike_from_same a c there origin))
      (λ there. same_from_alike a c (λ origin. alike_from_same a b same origin ∙ alike_from_same b c there origin));
}
