-- Lists that are read item by item. Proof plumbing.
use Rattle.std.proofs.Common.{◌≡◌, ◌∙◌, sym, ap, ℕ, ◌+◌, ◌≤◌, List, [], ◌∷◌, ◌++◌, length, take, inl, inr, Some, None, append-nil, append_assoc}
use Rattle.std.specs.List.{flat_map, slice_get}
use Rattle.std.proofs.lemmas.Grind.{flat_map-append, take_at_read}
use Rattle.std.proofs.lemmas.List.{take_all}
use Rattle.std.proofs.lemmas.Option.{get_or_from_slice_get, slice_get_cases, slice_get_within}

module _ {X : Type 0} (xs : List X) (i : ℕ) where
  -- one item more
  pub one_read : (x : X) → slice_get xs i ≡ Some x → take (i + 1) xs ≡ take i xs ++ x ∷ []
  one_read x is =
      (take_at_read xs i x (slice_get_within xs i x is)).1 ∙ ap (λ (y : X). take i xs ++ y ∷ []) (get_or_from_slice_get xs i x x is)

  past : slice_get xs i ≡ None → length xs ≤ i
  past none =
      elim (slice_get_cases xs i).1 as (λ _. length xs ≤ i) [
        | inl there ↦ let e : Some there.0 ≡ None = sym there.2 ∙ none in absurd (cc)
        | inr after ↦ after.0
      ]

  -- where there is no more, all have been read
  pub all_read : slice_get xs i ≡ None → take i xs ≡ xs
  all_read none = take_all i xs (past none)

  -- behind what was there
  pub one_added : (old so_far : List X) (x : X) → so_far ≡ old ++ take i xs → slice_get xs i ≡ Some x
      → so_far ++ x ∷ [] ≡ old ++ take (i + 1) xs
  one_added old so_far x is next =
      ap (λ ys. ys ++ x ∷ []) is ∙ append_assoc old (take i xs) (x ∷ []) ∙ ap (λ ys. old ++ ys) (sym (one_read x next))

module _ {X Y : Type 0} (f : X → List Y) (xs : List X) (i : ℕ) where
  -- what one item more gives
  pub one_gives : (x : X) → slice_get xs i ≡ Some x → flat_map f (take (i + 1) xs) ≡ flat_map f (take i xs) ++ f x
  one_gives x is =
      ap (flat_map f) (one_read xs i x is) ∙ flat_map-append f (take i xs) (x ∷ []) ∙ ap (λ ys. flat_map f (take i xs) ++ ys) (append-nil (f x))

  -- behind what was there
  pub one_given : (old so_far : List Y) (x : X) → so_far ≡ old ++ flat_map f (take i xs) → slice_get xs i ≡ Some x
      → so_far ++ f x ≡ old ++ flat_map f (take (i + 1) xs)
  one_given old so_far x is next =
      ap (λ ys. ys ++ f x) is ∙ append_assoc old (flat_map f (take i xs)) (f x) ∙ ap (λ ys. old ++ ys) (sym (one_gives x next))
