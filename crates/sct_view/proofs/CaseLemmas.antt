-- The one message of a list that passes a test, found among shared messages. Proof plumbing.
use Rattle.std.specs.Prelude.{◌≢◌}
use Rattle.std.proofs.Common.{◌≡◌, ◌∙◌, refl, sym, ap, ℕ, Bool, true, List, [], ◌∷◌, length, map, filter, find, None, option_map, arith}
use Rattle.std.specs.List.{count_by}
use Rattle.std.proofs.lemmas.List.Sums.{length-filter}
use Rattle.sct_message.specs.Transfers.{sole}

module _ {X Y : Type 0} (f : X → Y) where
  sole_first : (xs : List X) → length xs ≡ 1 → option_map f (find (λ x. true) xs) ≡ sole (map f xs)
  sole_first [] e = absurd (omega (arith, e))
  sole_first (x ∷ []) e = refl
  sole_first (x ∷ (y ∷ ys)) e = absurd (omega (arith, e))

  no_sole : (xs : List X) → length xs ≢ 1 → None ≡ sole (map f xs)
  no_sole [] e = refl
  no_sole (x ∷ []) e = absurd (e (omega arith))
  no_sole (x ∷ (y ∷ ys)) e = refl

  filter-mapped : (p : Y → Bool) (xs : List X) → filter p (map f xs) ≡ map f (filter (λ x. p (f x)) xs)
  filter-mapped p [] = refl
  filter-mapped p (x ∷ xs) = grind (arith, filter-mapped p xs)

first_kept : {X : Type 0} (q : X → Bool) (xs : List X) → find q xs ≡ find (λ x. true) (filter q xs)
first_kept q [] = refl
first_kept q (x ∷ xs) = grind (arith, first_kept q xs)

module _ {X Y : Type 0} (f : X → Y) (p : Y → Bool) where
  -- the first that passes is the one that passes, where there is one
  pub sole_found : (xs : List X) (n : ℕ) → n ≡ count_by (λ x. p (f x)) xs → n ≡ 1
      → option_map f (find (λ x. p (f x)) xs) ≡ sole (filter p (map f xs))
  sole_found xs n is one =
      ap (option_map f) (first_kept (λ x. p (f x)) xs)
      ∙ sole_first f (filter (λ x. p (f x)) xs) (length-filter (λ x. p (f x)) xs ∙ sym is ∙ one)
      ∙ ap sole (sym (filter-mapped f p xs))

  pub sole_absent : (xs : List X) (n : ℕ) → n ≡ count_by (λ x. p (f x)) xs → n ≢ 1 → None ≡ sole (filter p (map f xs))
  sole_absent xs n is other =
      no_sole f (filter (λ x. p (f x)) xs) (λ e. other (is ∙ sym (length-filter (λ x. p (f x)) xs) ∙ e))
      ∙ ap sole (sym (filter-mapped f p xs))
