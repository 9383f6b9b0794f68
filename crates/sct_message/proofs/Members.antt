-- Lists with the same members pass the same tests, for keys of any type.
-- It serves what is told of a set of messages: archives, cases, views and the texts of sites, whose crates cite it.
use Rattle.std.proofs.Common.{◌≡◌, Bool, true, false, cond, ◌&&◌, ◌||◌, List, [], ◌∷◌, map, refl, sym, ap, ◌∙◌, Ordering, filter}
use Rattle.std.specs.List.{list_any}
use Rattle.std.specs.Ordering.{eq_by_cmp, is_eq}
use Rattle.std.specs.Cmp.{IsTotalOrder, Equal-is, both_ways, tied_itself}
use Rattle.std.specs.FinSet.{IsAntisymmetric}
use Rattle.std.proofs.lemmas.Bool.{false≢true, or_right}

module _ {K : Type 0} where
  -- a member that passes a test is found by it
  pub list_any-found : (E : K → K → Bool) → ((x y : K) → E x y ≡ true → x ≡ y)
      → (p : K → Bool) (q : K) (ks : List K) → list_any (E q) ks ≡ true → p q ≡ true → list_any p ks ≡ true
  list_any-found E apart p q [] among passes = absurd (false≢true among)
  list_any-found E apart p q (k ∷ ks) among passes =
      elim (E q k) as (λ b. E q k ≡ b → (b || list_any (E q) ks) ≡ true → (p k || list_any p ks) ≡ true) [
        | true ↦ λ here _. ap (λ b. b || list_any p ks) (sym (ap p (apart q k here)) ∙ passes)
        | false ↦ λ _ later. ap (λ b. p k || b) (list_any-found E apart p q ks later passes) ∙ or_right (p k) true refl
      ] refl among

  -- a test that is passed is passed by every longer list of members
  pub list_any-covered : (E : K → K → Bool) → ((x : K) → E x x ≡ true)
      → ((x y : K) → E x y ≡ true → x ≡ y) → (p : K → Bool) (ks js : List K)
      → ((q : K) → list_any (E q) ks ≡ true → list_any (E q) js ≡ true) → list_any p ks ≡ true → list_any p js ≡ true
  list_any-covered E itself apart p [] js covers passes = absurd (false≢true passes)
  list_any-covered E itself apart p (k ∷ ks) js covers passes =
      let here = covers k (ap (λ b. b || list_any (E k) ks) (itself k)) in
      let rest = λ (q : K) (among : list_any (E q) ks ≡ true). covers q (ap (λ b. E q k || b) among ∙ or_right (E q k) true refl) in
      elim (p k) as (λ b. p k ≡ b → (b || list_any p ks) ≡ true → list_any p js ≡ true) [
        | true ↦ λ first _. list_any-found E apart p k js here first
        | false ↦ λ _ later. list_any-covered E itself apart p ks js rest later
      ] refl passes

  -- lists with the same members pass the same tests
  pub list_any-same : (E : K → K → Bool) → ((x : K) → E x x ≡ true)
      → ((x y : K) → E x y ≡ true → x ≡ y) → (p : K → Bool) (ks js : List K)
      → ((q : K) → list_any (E q) ks ≡ list_any (E q) js) → list_any p ks ≡ list_any p js
  list_any-same E itself apart p ks js same =
      both_ways _ _
      (list_any-covered E itself apart p ks js (λ q among. sym (same q) ∙ among))
      (list_any-covered E itself apart p js ks (λ q among. same q ∙ among))

  -- the members that pass a test
  pub list_any-filter : (q p : K → Bool) (ks : List K) → list_any q (filter p ks) ≡ list_any (λ k. p k && q k) ks
  list_any-filter q p [] = refl
  list_any-filter q p (k ∷ ks) =
      elim (p k) as (λ b. list_any q (cond b (k ∷ filter p ks) (filter p ks)) ≡ ((b && q k) || list_any (λ k. p k && q k) ks)) [
        | true ↦ ap (λ b. q k || b) (list_any-filter q p ks)
        | false ↦ list_any-filter q p ks
      ]

pub list_any-map : {K J : Type 0} (q : J → Bool) (f : K → J) (ks : List K)
    → list_any q (map f ks) ≡ list_any (λ k. q (f k)) ks
list_any-map q f [] = refl
list_any-map q f (k ∷ ks) = ap (λ b. q (f k) || b) (list_any-map q f ks)

module _ {K : Type 0} {R : K → K → Ordering} (o : IsTotalOrder R) (same : IsAntisymmetric R) where
  pub tie_is : (x y : K) → eq_by_cmp R x y ≡ true → x ≡ y
  tie_is x y e = same x y ((Equal-is (R x y)).0 e)

  pub ties_itself : (x : K) → eq_by_cmp R x x ≡ true
  ties_itself x = ap is_eq (tied_itself o x)

  -- lists with the same members, by an order that tells all keys apart, pass the same tests
  pub same_any : (p : K → Bool) (ks js : List K)
      → ((q : K) → list_any (eq_by_cmp R q) ks ≡ list_any (eq_by_cmp R q) js) → list_any p ks ≡ list_any p js
  same_any p ks js = list_any-same (eq_by_cmp R) ties_itself tie_is p ks js
