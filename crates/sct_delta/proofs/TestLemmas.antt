-- Tests over lists: what a filter keeps. It serves logs, and the sites and worlds above.
use Rattle.std.proofs.Common.{◌≡◌, ◌∙◌, refl, ap, sym, Bool, true, false, cond, ◌||◌, ◌&&◌, List, [], ◌∷◌, filter}
use Rattle.std.specs.List.{list_all, list_any, AllByRecursion}
use Rattle.std.proofs.lemmas.Bool.{and_parts, or_parts}

module _ {X : Type 0} where
  through : (p : X → Bool) (b : Bool) (x : X) (ys : List X)
      → filter p (cond b (x ∷ ys) ys) ≡ cond b (cond (p x) (x ∷ filter p ys) (filter p ys)) (filter p ys)
  through p true x ys = refl
  through p false x ys = refl

  swap : (a b : Bool) (u v : List X) → cond b (cond a u v) v ≡ cond a (cond b u v) v
  swap true true u v = refl
  swap true false u v = refl
  swap false true u v = refl
  swap false false u v = refl

  -- what two tests pick does not depend on which is asked first
  pub filter_comm : (p q : X → Bool) (xs : List X) → filter p (filter q xs) ≡ filter q (filter p xs)
  filter_comm p q [] = refl
  filter_comm p q (x ∷ xs) =
      through p (q x) x (filter q xs)
      ∙ ap (λ (ys : List X). cond (q x) (cond (p x) (x ∷ ys) ys) ys) (filter_comm p q xs)
      ∙ swap (p x) (q x) (x ∷ filter q (filter p xs)) (filter q (filter p xs))
      ∙ sym (through q (p x) x (filter p xs))

  pub filter_agree : (p q : X → Bool) (xs : List X) → AllByRecursion (λ x. p x ≡ q x) xs → filter p xs ≡ filter q xs
  filter_agree p q [] agree = refl
  filter_agree p q (x ∷ xs) agree = λ i. cond (agree.0 i) (x ∷ filter_agree p q xs agree.1 i) (filter_agree p q xs agree.1 i)

  pub none_kept : (p q : X → Bool) (xs : List X) → list_any p xs ≡ false → list_any p (filter q xs) ≡ false
  none_kept p q [] none = refl
  none_kept p q (x ∷ xs) none =
      let parts : (p x ≡ false) × (list_any p xs ≡ false) = or_parts (p x) (list_any p xs) none in
      elim (q x) as (λ b. list_any p (cond b (x ∷ filter q xs) (filter q xs)) ≡ false) [
        | true ↦ (λ i. parts.0 i || list_any p (filter q xs)) ∙ none_kept p q xs parts.1
        | false ↦ none_kept p q xs parts.1
      ]

  pub none_also : (p q : X → Bool) → ((x : X) → p x ≡ false → q x ≡ false) → (xs : List X) → list_any p xs ≡ false → list_any q xs ≡ false
  none_also p q also [] none = refl
  none_also p q also (x ∷ xs) none =
      let parts : (p x ≡ false) × (list_any p xs ≡ false) = or_parts (p x) (list_any p xs) none in
      λ i. also x parts.0 i || none_also p q also xs parts.1 i

  pub all_kept : (p q : X → Bool) (xs : List X) → list_all p xs ≡ true → list_all p (filter q xs) ≡ true
  all_kept p q [] all = refl
  all_kept p q (x ∷ xs) all =
      let parts : (p x ≡ true) × (list_all p xs ≡ true) = and_parts (p x) (list_all p xs) all in
      elim (q x) as (λ b. list_all p (cond b (x ∷ filter q xs) (filter q xs)) ≡ true) [
        | true ↦ λ i. parts.0 i && all_kept p q xs parts.1 i
        | false ↦ all_kept p q xs parts.1
      ]
