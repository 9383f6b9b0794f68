-- What a change of the list at one key does to the lists of a map. Proof plumbing.
use Rattle.std.proofs.Common.{◌≡◌, Bool, true, false, cond, List, [], ◌∷◌, ◌++◌, length, refl, sym, ap, subst, ◌∙◌, is_some, nat_eq, nat_lt, Option, arith}
use Rattle.std.specs.Cmp.{IsEquivalence}
use Rattle.indexmap.specs.IndexMap.{IndexMap, get, get_by}
use Rattle.sct_set.specs.Buckets.{bucket, items_in, HasNoEmptyList}

-- the second map has w at the key, and at each other key what the first has
abbrev pub HasAt : {K V S : Type 0} → (K → K → Bool) → IndexMap K (List V) S → IndexMap K (List V) S → K → Option (List V) → Type 0
HasAt {K} E m n key w = (k : K) → get E n k ≡ cond (E key k) w (get E m k)

module _ {K V S : Type 0} {E : K → K → Bool} (laws : IsEquivalence E) (m n : IndexMap K (List V) S) (key : K) (w : Option (List V)) where
  -- equal keys have one list
  same_list : (k : K) → E key k ≡ true → bucket E m key ≡ bucket E m k
  same_list k e = ap (λ (test : K → Bool). items_in (get_by test m)) (λ i z. laws.congr key k z e i)

  -- the same of a map that is the second
  pub HasAt-of : (made : IndexMap K (List V) S) → made ≡ n → HasAt E m made key w → HasAt E m n key w
  HasAt-of made is became = subst (λ (o : IndexMap K (List V) S). HasAt E m o key w) is became

  -- the list at the key became what f makes of it
  pub HasAt-lists : (f : List V → List V) → HasAt E m n key w → items_in w ≡ f (bucket E m key)
      → (k : K) → bucket E n k ≡ cond (E key k) (f (bucket E m k)) (bucket E m k)
  HasAt-lists f became is k =
      ap items_in (became k)
      ∙ elim (E key k) as (λ b. E key k ≡ b → items_in (cond b w (get E m k)) ≡ cond b (f (bucket E m k)) (bucket E m k)) [
        | true ↦ λ e. is ∙ ap f (same_list k e)
        | false ↦ λ _. refl
      ] refl

  -- the list at the key stayed
  pub HasAt-stays : HasAt E m n key w → items_in w ≡ bucket E m key → (k : K) → bucket E n k ≡ bucket E m k
  HasAt-stays became is k =
      HasAt-lists (λ xs. xs) became is k
      ∙ elim (E key k) as (λ b. cond b (bucket E m k) (bucket E m k) ≡ bucket E m k) [ true ↦ refl | false ↦ refl ]

  -- no key is left with an empty list
  pub HasAt-no_empty : HasAt E m n key w → is_some w ≡ nat_lt 0 (length (items_in w)) → HasNoEmptyList E m → HasNoEmptyList E n
  HasAt-no_empty became filled was k =
      subst (λ (o : Option (List V)). is_some o ≡ nat_lt 0 (length (items_in o))) (sym (became k))
      (elim (E key k) as (λ b. is_some (cond b w (get E m k)) ≡ nat_lt 0 (length (items_in (cond b w (get E m k))))) [
        | true ↦ filled
        | false ↦ was k
      ])

  -- a second change at the key
  pub HasAt-again : (o : IndexMap K (List V) S) (v : Option (List V)) → HasAt E m n key w → HasAt E n o key v → HasAt E m o key v
  HasAt-again o v became later k =
      later k
      ∙ elim (E key k) as (λ b. E key k ≡ b → cond b v (get E n k) ≡ cond b v (get E m k)) [
        | true ↦ λ _. refl
        | false ↦ λ e. became k ∙ ap (λ (b : Bool). cond b w (get E m k)) e
      ] refl

-- a list with an item behind it is not empty
pub filled_push : {V : Type 0} (xs : List V) (x : V) → true ≡ nat_lt 0 (length (xs ++ x ∷ []))
filled_push [] x = grind arith
filled_push (y ∷ ys) x = grind arith

-- a list of no items
pub nil_from : {V : Type 0} (xs : List V) → nat_eq (length xs) 0 ≡ true → [] ≡ xs
nil_from [] e = refl
nil_from (x ∷ xs) e = grind (arith, e)

-- and of some
pub filled_from : {V : Type 0} (xs : List V) → nat_eq (length xs) 0 ≡ false → true ≡ nat_lt 0 (length xs)
filled_from [] e = grind (arith, e)
filled_from (x ∷ xs) e = grind arith
