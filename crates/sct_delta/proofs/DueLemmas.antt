-- What is kept under keys of which something is to come, though nothing is there yet. It serves shelves and vectors. Proof plumbing.
use Rattle.std.proofs.Common.{ℕ, ◌≡◌, ◌≤◌, ◌+◌, List, [], ◌∷◌, true, false, cond, All, refl, ap, sym, subst, arith, nat_eq}
use Rattle.std.specs.BTreeMap.{is_at, insert_entry}
use Rattle.std.specs.List.{AllByRecursion}
use Rattle.std.specs.List.Sorted.{IsStrictlySortedBy}
use Rattle.std.specs.Map.{keys_of, set_value}
use Rattle.std.specs.Ordering.{nat_cmp, is_eq, match_ordering}
use Rattle.std.specs.declared.cmp.Ordering.TheVariants.{Less, Equal, Greater}
use Rattle.std.proofs.lemmas.Bool.Decides.{nat_tests}
use Rattle.std.proofs.lemmas.List.Elements.{All-cons, All-head, All-nil, All-tail}
use Rattle.sct_delta.specs.VectorLaws.{same_key}

later_key : (k q : ℕ) → nat_cmp k q ≡ Less → nat_eq k q ≡ false
later_key k q less = grind (arith, nat_tests, less)

other_key : (k q : ℕ) → is_eq (nat_cmp k q) ≡ false → nat_eq k q ≡ false
other_key k q apart = grind (arith, nat_tests, apart)

module _ {X : Type 0} (size : X → ℕ) where
  -- an entry has something, or something is to come under its key
  abbrev pub IsDue : (ℕ → ℕ) → ℕ × X → Type 0
  IsDue due e = 1 ≤ size e.1 + due e.0

  -- a new key of which something is to come
  pub due-insert : (due : ℕ → ℕ) (k : ℕ) (v : X) (es : List (ℕ × X)) → 1 ≤ due k → All (IsDue due) es → All (IsDue due) (insert_entry nat_cmp es k v)
  due-insert due k v [] some all = All-cons (IsDue due) (k, v) [] (omega (arith, some)) (All-nil (IsDue due))
  due-insert due k v (e ∷ es) some all =
      elim (nat_cmp k e.0) as (λ r. nat_cmp k e.0 ≡ r → All (IsDue due) (match_ordering r ((k, v) ∷ e ∷ es) ((e.0, v) ∷ es) (e ∷ insert_entry nat_cmp es k v))) [
        | Less ↦ λ t. All-cons (IsDue due) (k, v) (e ∷ es) (omega (arith, some)) all
        | Equal ↦ λ t.
            let there : 1 ≤ due e.0 = subst (λ (q : ℕ). 1 ≤ due q) (same_key k e.0 (ap is_eq t)) some in
            All-cons (IsDue due) (e.0, v) es (omega (arith, there)) (All-tail (IsDue due) e es all)
        | Greater ↦ λ t. All-cons (IsDue due) e (insert_entry nat_cmp es k v) (All-head (IsDue due) e es all) (due-insert due k v es some (All-tail (IsDue due) e es all))
      ] refl

  -- another value under a key of which something is to come
  pub due-set : (due : ℕ → ℕ) (k : ℕ) (w : X) (es : List (ℕ × X)) → 1 ≤ due k → All (IsDue due) es → All (IsDue due) (set_value (is_at (nat_cmp k)) es w)
  due-set due k w [] some all = all
  due-set due k w (e ∷ es) some all =
      elim (is_eq (nat_cmp k e.0)) as (λ here. is_eq (nat_cmp k e.0) ≡ here → All (IsDue due) (cond here ((e.0, w) ∷ es) (e ∷ set_value (is_at (nat_cmp k)) es w))) [
        | true ↦ λ t.
            let there : 1 ≤ due e.0 = subst (λ (q : ℕ). 1 ≤ due q) (same_key k e.0 t) some in
            All-cons (IsDue due) (e.0, w) es (omega (arith, there)) (All-tail (IsDue due) e es all)
        | false ↦ λ t. All-cons (IsDue due) e (set_value (is_at (nat_cmp k)) es w) (All-head (IsDue due) e es all) (due-set due k w es some (All-tail (IsDue due) e es all))
      ] refl

  -- behind a key it does not come again
  behind : (due later : ℕ → ℕ) (k : ℕ) (es : List (ℕ × X)) → AllByRecursion (λ q. nat_cmp k q ≡ Less) (keys_of es)
      → ((o : ℕ) → nat_eq k o ≡ false → due o ≤ later o) → All (IsDue due) es → All (IsDue later) es
  behind due later k [] above less all = All-nil (IsDue later)
  behind due later k (e ∷ es) above less all =
      let some : 1 ≤ size e.1 + due e.0 = All-head (IsDue due) e es all in
      let more : due e.0 ≤ later e.0 = less e.0 (later_key k e.0 above.0) in
      All-cons (IsDue later) e es (omega (arith, some, more)) (behind due later k es above.1 less (All-tail (IsDue due) e es all))

  -- what was to come under a key is there
  pub due-put : (due later : ℕ → ℕ) (k : ℕ) (w : X) (es : List (ℕ × X)) → IsStrictlySortedBy nat_cmp (keys_of es) → 1 ≤ size w
      → ((o : ℕ) → nat_eq k o ≡ false → due o ≤ later o) → All (IsDue due) es → All (IsDue later) (set_value (is_at (nat_cmp k)) es w)
  unfolding IsStrictlySortedBy
  due-put due later k w [] sorted some less all = All-nil (IsDue later)
  due-put due later k w (e ∷ es) sorted some less all =
      elim (is_eq (nat_cmp k e.0)) as (λ here. is_eq (nat_cmp k e.0) ≡ here → All (IsDue later) (cond here ((e.0, w) ∷ es) (e ∷ set_value (is_at (nat_cmp k)) es w))) [
        | true ↦ λ t.
            let above : AllByRecursion (λ q. nat_cmp k q ≡ Less) (keys_of es)
            = subst (λ (p : ℕ). AllByRecursion (λ q. nat_cmp p q ≡ Less) (keys_of es)) (sym (same_key k e.0 t)) sorted.0 in
            All-cons (IsDue later) (e.0, w) es (omega (arith, some)) (behind due later k es above less (All-tail (IsDue due) e es all))
        | false ↦ λ t.
            let was : 1 ≤ size e.1 + due e.0 = All-head (IsDue due) e es all in
            let more : due e.0 ≤ later e.0 = less e.0 (other_key k e.0 t) in
            All-cons (IsDue later) e (set_value (is_at (nat_cmp k)) es w) (omega (arith, was, more)) (due-put due later k w es sorted.1 some less (All-tail (IsDue due) e es all))
      ] refl
