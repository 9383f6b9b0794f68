-- What lists made of others contain, and what tests of lists decide.
use Rattle.std.proofs.Common.{◌≡◌, ◌∙◌, refl, sym, ap, subst, arith, inl, inr, zero, suc, Bool, true, false, cond, not, List, [], ◌∷◌, map, filter, find, Option, Some, None, option_map, Ordering}
use Rattle.std.specs.Prelude.{◌⊎◌, ◌≢◌, Contains}
use Rattle.std.specs.Bool.{Decides}
use Rattle.std.specs.List.{list_any, flat_map}
use Rattle.std.specs.Ordering.{eq_by_cmp}
use Rattle.std.specs.Cmp.{IsTotalOrder}
use Rattle.std.specs.FinSet.{IsAntisymmetric}
use Rattle.std.proofs.lemmas.Bool.{false≢true, true_from_ne_false}
use Rattle.std.proofs.lemmas.Bool.Decides.{Decides-and, Decides-like, Decides-not, not_from_Decides}
use Rattle.std.proofs.lemmas.List.{get_or-map, length-map}
use Rattle.std.proofs.lemmas.List.Elements.{All-contains, All-contains_itself, All-filter, All-map, Contains-append_cases, Contains-append_left, Contains-append_right, Contains-get_or, filter_passes}
use Rattle.std.proofs.lemmas.List.Folds.{Any-from_list_any, list_any-from_Any}
pub use Rattle.sct_message.proofs.AscendingLemmas.{in_ascending, ascending_in}
use Rattle.sct_message.proofs.Members.{tie_is, ties_itself}
use Rattle.sct_message.specs.declared.draft.Draft.{Draft}
use Rattle.sct_case.specs.Said.{IsSaid}
use Rattle.sct_case.specs.Told.{differ_from, differ_among, has_some}
use Rattle.sct_case.proofs.Judged.{some}

-- a proof of a fact, and one of the facts after it
pub both : {A B : Type 0} → A → B → A × B
both a b = (a, b)

-- ---- one of the items

module _ {X : Type 0} where
  pub nothing : (x : X) → Contains [] x → ⊥
  nothing x h = omega arith

  pub here : (x : X) (xs : List X) → Contains (x ∷ xs) x
  here x xs = (0, omega arith, refl)

  pub later : (y : X) (xs : List X) (x : X) → Contains xs x → Contains (y ∷ xs) x
  later y xs x (k, within, is) = (suc k, omega arith, is)

  pub first_or_later : (y : X) (xs : List X) (x : X) → Contains (y ∷ xs) x → (y ≡ x) ⊎ Contains xs x
  first_or_later y xs x (zero, within, is) = inl is
  first_or_later y xs x (suc k, within, is) = inr (k, omega arith, is)

  pub only : (y x : X) → Contains (y ∷ []) x → y ≡ x
  only y x h = elim (first_or_later y [] x h) as (λ _. y ≡ x) [ inl e ↦ e | inr k ↦ absurd (nothing x k) ]

  pub empty : (xs : List X) → ((x : X) → Contains xs x → ⊥) → xs ≡ []
  empty [] none = refl
  empty (x ∷ xs) none = absurd (none x (here x xs))

module _ {X Y : Type 0} (f : X → Y) where
  pub in_map : (xs : List X) (y : Y) → Contains (map f xs) y → (x : X) × Contains xs x × (f x ≡ y)
  in_map xs y h =
      All-contains (λ z. (x : X) × Contains xs x × (f x ≡ z)) (map f xs) y
      (All-map (λ z. (x : X) × Contains xs x × (f x ≡ z)) f xs (λ k d within. (_, Contains-get_or xs k d within, refl))) h

  pub mapped_in : (xs : List X) (x : X) → Contains xs x → Contains (map f xs) (f x)
  mapped_in xs x (k, within, is) = (k, rw length-map within, get_or-map f xs k x (f x) within ∙ ap f is)

module _ {X : Type 0} (p : X → Bool) where
  pub in_filter : (xs : List X) (x : X) → Contains (filter p xs) x → Contains xs x × (p x ≡ true)
  in_filter xs x h = (
    All-contains (Contains xs) (filter p xs) x (All-filter p (Contains xs) xs (All-contains_itself xs)) h,
    All-contains (λ y. p y ≡ true) (filter p xs) x (filter_passes p xs) h,
  )

  pub filtered_in : (xs : List X) (x : X) → Contains xs x → p x ≡ true → Contains (filter p xs) x
  filtered_in [] x h passes = absurd (nothing x h)
  filtered_in (y ∷ ys) x h passes = elim (first_or_later y ys x h) as (λ _. Contains (cond (p y) (y ∷ filter p ys) (filter p ys)) x) [
    | inl e ↦ subst (λ b. Contains (cond b (y ∷ filter p ys) (filter p ys)) x) (sym (ap p e ∙ passes)) (subst (Contains (y ∷ filter p ys)) e (here y (filter p ys)))
    | inr k ↦
        let rest = filtered_in ys x k passes in
        elim (p y) as (λ b. Contains (cond b (y ∷ filter p ys) (filter p ys)) x) [ true ↦ later y (filter p ys) x rest | false ↦ rest ]
  ]

module _ {X Y : Type 0} (f : X → List Y) where
  pub in_flat_map : (xs : List X) (y : Y) → Contains (flat_map f xs) y → (x : X) × Contains xs x × Contains (f x) y
  in_flat_map [] y h = absurd (nothing y h)
  in_flat_map (x ∷ xs) y h = elim (Contains-append_cases (f x) (flat_map f xs) y h) as (λ _. (z : X) × Contains (x ∷ xs) z × Contains (f z) y) [
    | inl a ↦ (x, here x xs, a)
    | inr b ↦ let r = in_flat_map xs y b in (r.0, later x xs r.0 r.1, r.2)
  ]

  pub flat_mapped_in : (xs : List X) (x : X) (y : Y) → Contains xs x → Contains (f x) y → Contains (flat_map f xs) y
  flat_mapped_in [] x y h says = absurd (nothing x h)
  flat_mapped_in (z ∷ zs) x y h says = elim (first_or_later z zs x h) as (λ _. Contains (flat_map f (z ∷ zs)) y) [
    | inl e ↦ Contains-append_left (f z) (flat_map f zs) y (subst (λ w. Contains (f w) y) (sym e) says)
    | inr k ↦ Contains-append_right (f z) (flat_map f zs) y (flat_mapped_in zs x y k says)
  ]

-- ---- equality under an order

module _ {K : Type 0} {R : K → K → Ordering} (o : IsTotalOrder R) (apart : IsAntisymmetric R) where
  pub ties-Decides : (x y : K) → Decides (eq_by_cmp R x y) (x ≡ y)
  ties-Decides x y = (tie_is o apart x y, λ e. subst (λ z. eq_by_cmp R x z ≡ true) e (ties_itself o apart x))

  pub any_tie : (ks : List K) (q : K) → Contains ks q → list_any (eq_by_cmp R q) ks ≡ true
  any_tie ks q (k, within, is) = list_any-from_Any (eq_by_cmp R q) ks (k, q, within, is, ties_itself o apart q)

-- values that cannot differ are equal
pub equal_unless : {X : Type 0} {x y : X} (b : Bool) → Decides b (x ≡ y) → (x ≢ y → ⊥) → x ≡ y
equal_unless b d none = d.0 (true_from_ne_false b (λ e. none (not_from_Decides b d e)))

-- ---- tests of a list

pub some-Decides : {X : Type 0} (xs : List X) → Decides (has_some xs) ((x : X) × Contains xs x)
some-Decides [] = (λ h. absurd (false≢true h), λ s. absurd (nothing s.0 s.1))
some-Decides (x ∷ xs) = (λ _. (x, here x xs), λ _. ap not (some x xs))

-- P holds of the item that was found, or of no item if none was
abbrev pub Finds : {X : Type 0} → (X → Type 0) → List X → Option X → Type 0
Finds P xs None = (x : _) → Contains xs x → P x → ⊥
Finds P xs (Some x) = Contains xs x × P x

module _ {X : Type 0} (p : X → Bool) (P : X → Type 0) (each : (x : X) → Decides (p x) (P x)) where
  pub any-Decides : (xs : List X) → Decides (list_any p xs) ((x : X) × Contains xs x × P x)
  any-Decides xs = (
    λ h. let a = Any-from_list_any p xs h in (a.1, (a.0, a.2, a.3), (each a.1).0 a.4),
    λ s. list_any-from_Any p xs (s.1.0, s.0, s.1.1, s.1.2, (each s.0).1 s.2),
  )

  finds_later : (x : X) (xs : List X) → (P x → ⊥) → (found : Option X) → Finds P xs found → Finds P (x ∷ xs) found
  finds_later x xs fails None none = λ y h is. elim (first_or_later x xs y h) as (λ _. ⊥) [ inl e ↦ fails (subst P (sym e) is) | inr k ↦ none y k is ]
  finds_later x xs fails (Some y) f = (later x xs y f.0, f.1)

  pub finds : (xs : List X) → Finds P xs (find p xs)
  finds [] = λ x h _. nothing x h
  finds (x ∷ xs) = elim (p x) as (λ b. p x ≡ b → Finds P (x ∷ xs) (cond b (Some x) (find p xs))) [
    | true ↦ λ e. (here x xs, (each x).0 e)
    | false ↦ λ e. finds_later x xs (not_from_Decides (p x) (each x) e) (find p xs) (finds xs)
  ] refl

-- ---- what messages say

-- P holds of the value in the option, or of no value if there is none
abbrev pub Picks : {Y : Type 0} → Option Y → (Y → Type 0) → Type 0
Picks None P = (y : _) × P y → ⊥
Picks (Some y) P = P y

module _ {Y : Type 0} (P : Y → Type 0) where
  pub picks_none : (o : Option Y) → Picks o P → ((y : Y) × P y → ⊥) → o ≡ None
  picks_none None p none = refl
  picks_none (Some y) p none = absurd (none (y, p))

  pub picks_some : (o : Option Y) → Picks o P → (y : Y) → P y → ((z : Y) → P z → z ≡ y) → o ≡ Some y
  picks_some None p y is one = absurd (p (y, is))
  picks_some (Some z) p y is one = ap Some (one z p)

  pub picks_like : (Q : Y → Type 0) (o : Option Y) → ((y : Y) → P y → Q y) → ((y : Y) → Q y → P y) → Picks o P → Picks o Q
  picks_like Q None to from p = λ s. p (s.0, from s.0 s.1)
  picks_like Q (Some y) to from p = to y p

-- P holds of two statements that differ
pub record SaidDiffer {X : Type 0} (by : Draft → List X) (clean : List Draft) (P : X → Type 0) : Type 0 where
  pub one : X
  pub other : X
  pub one_said : IsSaid by clean one
  pub other_said : IsSaid by clean other
  pub one_is : P one
  pub other_is : P other
  pub different : one ≢ other

module _ {X : Type 0} (by : Draft → List X) (clean : List Draft) where
  pub said_in : (x : X) → IsSaid by clean x → Contains (flat_map by clean) x
  said_in x s = flat_mapped_in by clean s.message x s.held s.says

  pub in_said : (x : X) → Contains (flat_map by clean) x → IsSaid by clean x
  in_said x h = let r = in_flat_map by clean x h in record { message = r.0; held = r.1; says = r.2 }

  pub some_said-Decides : Decides (has_some (flat_map by clean)) ((x : X) × IsSaid by clean x)
  some_said-Decides = Decides-like _ (λ s. (s.0, in_said s.0 s.1)) (λ s. (s.0, said_in s.0 s.1)) (some-Decides (flat_map by clean))

  module _ (p : X → Bool) (P : X → Type 0) (each : (x : X) → Decides (p x) (P x)) where
    pub any_said-Decides : Decides (list_any p (flat_map by clean)) ((x : X) × IsSaid by clean x × P x)
    any_said-Decides = Decides-like _ (λ s. (s.0, in_said s.0 s.1, s.2)) (λ s. (s.0, said_in s.0 s.1, s.2)) (any-Decides p P each (flat_map by clean))

    picks_said : {Y : Type 0} (f : X → Y) (found : Option X) → Finds P (flat_map by clean) found → Picks (option_map f found) (λ y. (x : X) × IsSaid by clean x × P x × (f x ≡ y))
    picks_said f None none = λ s. none s.1.0 (said_in s.1.0 s.1.1) s.1.2
    picks_said f (Some x) h = (x, in_said x h.0, h.1, refl)

    pub said_picks : {Y : Type 0} (f : X → Y) → Picks (option_map f (find p (flat_map by clean))) (λ y. (x : X) × IsSaid by clean x × P x × (f x ≡ y))
    said_picks f = picks_said f (find p (flat_map by clean)) (finds p P each (flat_map by clean))

    module _ (same : X → X → Bool) (equal : (x y : X) → Decides (same x y) (x ≡ y)) where
      differ_from-Decides : (first : Option X) → Finds P (flat_map by clean) first → Decides (differ_from p same first (flat_map by clean)) (SaidDiffer by clean P)
      differ_from-Decides None none = (λ h. absurd (false≢true h), λ d. absurd (none d.one (said_in d.one d.one_said) d.one_is))
      differ_from-Decides (Some one) f = Decides-like _
          (λ s. record { one = one; other = s.0; one_said = in_said one f.0; other_said = s.1; one_is = f.1; other_is = s.2.0; different = s.2.1 })
          (λ d. elim (same one d.one) as (λ b. same one d.one ≡ b → (x : X) × IsSaid by clean x × (P x × (one ≢ x))) [
            | true ↦ λ e. (d.other, d.other_said, (d.other_is, λ k. d.different (sym ((equal one d.one).0 e) ∙ k)))
            | false ↦ λ e. (d.one, d.one_said, (d.one_is, not_from_Decides _ (equal one d.one) e))
          ] refl)
          (Decides-like _ (λ s. (s.0, in_said s.0 s.1, s.2)) (λ s. (s.0, said_in s.0 s.1, s.2))
          (any-Decides _ (λ x. P x × (one ≢ x)) (λ x. Decides-and _ _ (each x) (Decides-not _ (equal one x))) (flat_map by clean)))

      pub differ_said-Decides : Decides (differ_among p same (flat_map by clean)) (SaidDiffer by clean P)
      differ_said-Decides = differ_from-Decides (find p (flat_map by clean)) (finds p P each (flat_map by clean))
