-- Sums over lists of keys. Proof plumbing; it serves the totals of a view.
use Rattle.std.proofs.Common.{◌≡◌, ℕ, ◌+◌, ◌*◌, ◌≤◌, Bool, true, false, List, [], ◌∷◌, length, refl, filter, arith}
use Rattle.std.specs.Prelude.{⊤, if◌then◌else◌}
use Rattle.std.specs.List.{list_any, sum_by}
use Rattle.std.proofs.lemmas.Bool.{false≢true}
use Rattle.std.proofs.lemmas.List.Folds.{fold_stays}
use Rattle.std.proofs.lemmas.List.Sums.{sum_by-cons}

module _ {K : Type 0} where
  -- a sum of nothings
  pub sum_none : (f : K → ℕ) → ((k : K) → f k ≡ 0) → (ks : List K) → sum_by f ks ≡ 0
  sum_none f none ks = fold_stays (λ s x. s + f x) 0 (λ x. omega (arith, none x)) ks

  -- the sum of two functions is the sum of both sums
  pub sum_both : (f g : K → ℕ) (ks : List K) → sum_by (λ k. f k + g k) ks ≡ sum_by f ks + sum_by g ks
  sum_both f g [] = refl
  sum_both f g (k ∷ ks) = omega (arith, sum_both f g ks, sum_by-cons f k ks, sum_by-cons g k ks, sum_by-cons (λ k. f k + g k) k ks)

  -- the sum stays below the bound of each, as often as there are keys
  pub sum_bounded : (f : K → ℕ) (m : ℕ) → ((k : K) → f k ≤ m) → (ks : List K) → sum_by f ks ≤ length ks * m
  sum_bounded f m small [] = omega arith
  sum_bounded f m small (k ∷ ks) = omega (arith, small k, sum_bounded f m small ks, sum_by-cons f k ks)

  -- keys whose part is nothing can be left out
  pub sum_kept : (f : K → ℕ) (p : K → Bool) → ((k : K) → p k ≡ false → f k ≡ 0) → (ks : List K)
      → sum_by f (filter p ks) ≡ sum_by f ks
  sum_kept f p none [] = refl
  sum_kept f p none (k ∷ ks) = grind (arith, none k, sum_kept f p none ks, sum_by-cons f k ks, sum_by-cons f k (filter p ks))

  -- no key stands twice
  abbrev pub AreApart : (K → K → Bool) → List K → Type 0
  AreApart E [] = ⊤
  AreApart E (k ∷ ks) = (list_any (E k) ks ≡ false) × AreApart E ks

  -- functions that agree on the keys of a list have one sum over it
  pub sum_alike_on : (E : K → K → Bool) → ((k : K) → E k k ≡ true) → (f g : K → ℕ) (ks : List K)
      → ((k : K) → list_any (E k) ks ≡ true → f k ≡ g k) → sum_by f ks ≡ sum_by g ks
  sum_alike_on E itself f g [] same = refl
  sum_alike_on E itself f g (k ∷ ks) same =
      let rest : sum_by f ks ≡ sum_by g ks = sum_alike_on E itself f g ks (λ j among. same j (grind arith)) in
      omega (arith, same k (grind (arith, itself k)), sum_by-cons f k ks, sum_by-cons g k ks)

  -- functions that agree where a test fails have one sum over keys that all fail it
  pub sum_elsewhere : (p : K → Bool) (f g : K → ℕ) → ((k : K) → p k ≡ false → g k ≡ f k) → (ks : List K)
      → list_any p ks ≡ false → sum_by g ks ≡ sum_by f ks
  sum_elsewhere p f g alike [] away = refl
  sum_elsewhere p f g alike (k ∷ ks) away = grind (arith, alike k, sum_elsewhere p f g alike ks, sum_by-cons f k ks, sum_by-cons g k ks)

  module _ (E : K → K → Bool) (same : (x y : K) → E x y ≡ true → x ≡ y) where
    -- the part of a key that is in the list is within the sum
    pub part_of_sum : (f : K → ℕ) (t : K) (ks : List K) → list_any (E t) ks ≡ true → f t ≤ sum_by f ks
    part_of_sum f t [] among = absurd (false≢true among)
    part_of_sum f t (k ∷ ks) among = grind (arith, part_of_sum f t ks, same t k, sum_by-cons f k ks)

    -- where the part of one key changes, the sum changes by as much
    pub sum_changed : (f g : K → ℕ) (t : K) (ks : List K) → AreApart E ks → list_any (E t) ks ≡ true
        → ((k : K) → E t k ≡ false → g k ≡ f k) → sum_by g ks + f t ≡ sum_by f ks + g t
    sum_changed f g t [] apart among alike = absurd (false≢true among)
    sum_changed f g t (k ∷ ks) apart among alike =
        grind (arith, apart.0, same t k, alike k, sum_elsewhere (E t) f g alike ks, sum_changed f g t ks apart.1, sum_by-cons f k ks, sum_by-cons g k ks)

    -- of keys of which none stands twice, the part of one that is among them
    pub sum_at_one : ((k : K) → E k k ≡ true) → (t : K) (n : ℕ) (ks : List K) → AreApart E ks → list_any (E t) ks ≡ true
        → sum_by (λ k. if E t k then n else 0) ks ≡ n
    sum_at_one itself t n ks apart among =
        grind (arith, itself t, sum_none (λ k. 0) (λ k. refl) ks, sum_changed (λ k. 0) (λ k. if E t k then n else 0) t ks apart among (λ k e. grind arith))

-- sums over two lists can change places
pub sum_exchanged : {J K : Type 0} (f : J → K → ℕ) (js : List J) (ks : List K)
    → sum_by (λ j. sum_by (f j) ks) js ≡ sum_by (λ k. sum_by (λ j. f j k) js) ks
sum_exchanged f [] ks = omega (arith, sum_none (λ k. 0) (λ k. refl) ks)
sum_exchanged f (j ∷ js) ks =
    let last : sum_by (λ k. sum_by (λ j. f j k) (j ∷ js)) ks ≡ sum_by (λ k. f j k + sum_by (λ j. f j k) js) ks = λ i. sum_by (λ k. sum_by-cons (λ j. f j k) j js i) ks in
    omega (arith, sum_by-cons (λ j. sum_by (f j) ks) j js, sum_exchanged f js ks, sum_both (f j) (λ k. sum_by (λ j. f j k) js) ks)
