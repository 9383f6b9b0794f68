-- Lists by their places. Proof plumbing.
use Rattle.std.proofs.Common.{◌≡◌, ◌∙◌, ◌⊎◌, ◌<◌, refl, sym, ap, subst, inl, inr, ℕ, zero, suc, List, [], ◌∷◌, ◌++◌, map, length, length-append, arith}
use Rattle.std.specs.Prelude.{Some}
use Rattle.std.specs.List.{slice_get}
use Rattle.std.proofs.lemmas.Option.{same_Some, slice_get_within}
use Rattle.sct_workers.specs.Each.{AtEach}

-- what stands at a place of a list with one element more
pub get_pushed : {X : Type 0} (xs : List X) (y : X) (at : ℕ) (x : X) → slice_get (xs ++ y ∷ []) at ≡ Some x
    → (slice_get xs at ≡ Some x) ⊎ ((at ≡ length xs) × (y ≡ x))
get_pushed [] y zero x is = inr (refl, same_Some y x is)
get_pushed [] y (suc at) x is = inl is
get_pushed (z ∷ xs) y zero x is = inl is
get_pushed (z ∷ xs) y (suc at) x is =
    elim (get_pushed xs y at x is) as (λ c. (slice_get (z ∷ xs) (suc at) ≡ Some x) ⊎ ((suc at ≡ length (z ∷ xs)) × (y ≡ x))) [
      | inl before ↦ inl before
      | inr last ↦ inr (ap suc last.0, last.1)
    ]

pub each_pushed : {X : Type 0} (P : ℕ → X → Type 0) (xs ys : List X) (y : X) → ys ≡ xs ++ y ∷ [] → AtEach P xs → P (length xs) y → AtEach P ys
each_pushed {X} P xs ys y is each one =
    subst (AtEach P) (sym is) (λ at x there.
    elim (get_pushed xs y at x there) as (λ c. P at x) [
      | inl before ↦ each at x before
      | inr last ↦ subst (λ (n : ℕ). P n x) (sym last.0) (subst (P (length xs)) last.1 one)
    ])

pub get_mapped : {X Y : Type 0} (f : X → Y) (xs : List X) (at : ℕ) (x : X) → slice_get xs at ≡ Some x → slice_get (map f xs) at ≡ Some (f x)
get_mapped f [] zero x is = absurd (omega (arith, slice_get_within [] zero x is))
get_mapped f [] (suc at) x is = absurd (omega (arith, slice_get_within [] (suc at) x is))
get_mapped f (y ∷ xs) zero x is = ap Some (ap f (same_Some y x is))
get_mapped f (y ∷ xs) (suc at) x is = get_mapped f xs at x is

get_middle : {X : Type 0} (xs : List X) (y : X) (ys : List X) → slice_get (xs ++ y ∷ ys) (length xs) ≡ Some y
get_middle [] y ys = refl
get_middle (x ∷ xs) y ys = get_middle xs y ys

-- what stands behind some elements
pub get_behind : {X : Type 0} (xs : List X) (y : X) (ys all : List X) → xs ++ y ∷ ys ≡ all → slice_get all (length xs) ≡ Some y
get_behind xs y ys all is = ap (λ (l : List _). slice_get l (length xs)) (sym is) ∙ get_middle xs y ys

-- some elements with another one behind them are fewer than all
pub fewer_than_all : {X : Type 0} (xs : List X) (y : X) (ys all : List X) → xs ++ y ∷ ys ≡ all → length xs < length all
fewer_than_all xs y ys all is = omega (arith, ap length is, length-append xs (y ∷ ys))

-- two lists are one where they are as long and have the same at each place
pub same_by_places : {X Y : Type 0} (f : X → Y) (xs : List X) (ys : List Y) → length xs ≡ length ys
    → ((at : ℕ) (x : X) → slice_get xs at ≡ Some x → slice_get ys at ≡ Some (f x)) → map f xs ≡ ys
same_by_places f [] [] many each = refl
same_by_places f [] (y ∷ ys) many each = absurd (omega (arith, many))
same_by_places f (x ∷ xs) [] many each = absurd (omega (arith, many))
same_by_places f (x ∷ xs) (y ∷ ys) many each =
    let first : f x ≡ y = sym (same_Some y (f x) (each 0 x refl)) in
    let rest = same_by_places f xs ys (omega (arith, many)) (λ at z there. each (suc at) z there) in
    (λ i. first i ∷ rest i)

nothing : {X : Type 0} (xs : List X) → length xs ≡ 0 → xs ≡ []
nothing [] none = refl
nothing (x ∷ xs) none = absurd (omega (arith, none))
