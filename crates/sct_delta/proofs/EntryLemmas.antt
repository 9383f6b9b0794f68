-- Laws of lists of entries. They serve logs, and the sites and worlds above, whose crates cite them.
use Rattle.std.proofs.Common.{◌≡◌, ◌∙◌, refl, ap, sym, ℕ, ◌+◌, ◌<◌, ◌≤◌, true, false, List, [], ◌∷◌, ◌++◌, map, length, drop, get_or, arith, add-one, nat_eq}
use Rattle.std.proofs.lemmas.Bool.Decides.{nat_tests}
use Rattle.std.specs.Ordering.{nat_cmp, ordering_then}
use Rattle.std.specs.declared.cmp.Ordering.{Ordering}
use Rattle.std.specs.declared.cmp.Ordering.TheVariants.{Less}
use Rattle.std.specs.List.{AllByRecursion}
use Rattle.std.specs.List.Sorted.{IsStrictlySortedBy}
use Rattle.std.proofs.Math.Seq.{drop-cons}
use Rattle.std.proofs.Math.ListN.{get_or-map}
use Rattle.std.proofs.lemmas.List.{length-map, map-append}
use Rattle.std.proofs.lemmas.List.Elements.{filter-append}
use Rattle.std.specs.Arc.{arc_value}
use Rattle.std.specs.declared.sync.Arc.{Arc}
use Rattle.std.specs.Global.{Global}
use Rattle.std.proofs.lemmas.Bool.{eq-eqb}
use Rattle.sct_message.specs.declared.draft.Draft.{Draft}
use Rattle.sct_delta.specs.Entries.{Placed, is_from, entries_from, log_of, numbered, place_order, HasNoHole}

-- ---- tests of numbers

pub same_number : (n : ℕ) → nat_eq n n ≡ true
same_number n = eq-eqb n n refl

pub not_zero : (n : ℕ) → 1 ≤ n → nat_eq n 0 ≡ false
not_zero n above = grind (arith, nat_tests)

-- ---- messages as the entries of one origin

pub length-numbered : (o n : ℕ) (ms : List Draft) → length (numbered o n ms) ≡ length ms
length-numbered o n [] = refl
length-numbered o n (m ∷ ms) = omega (arith, length-numbered o (n + 1) ms)

pub messages-numbered : (o n : ℕ) (ms : List Draft) → map (λ entry. entry.message) (numbered o n ms) ≡ ms
messages-numbered o n [] = refl
messages-numbered o n (m ∷ ms) = ap (λ (l : List Draft). m ∷ l) (messages-numbered o (n + 1) ms)

pub from-numbered : (o n : ℕ) (ms : List Draft) → entries_from o (numbered o n ms) ≡ numbered o n ms
from-numbered o n [] = refl
from-numbered o n (m ∷ ms) = rw (same_number o) (ap (λ (l : List Placed). record { origin = o; n = n; message = m } ∷ l) (from-numbered o (n + 1) ms))

pub from-numbered_other : (o p n : ℕ) (ms : List Draft) → nat_eq p o ≡ false → entries_from o (numbered p n ms) ≡ []
from-numbered_other o p n [] other = refl
from-numbered_other o p n (m ∷ ms) other = rw other (from-numbered_other o p (n + 1) ms other)

pub numbered-append : (o n : ℕ) (xs ys : List Draft) → numbered o n (xs ++ ys) ≡ numbered o n xs ++ numbered o (n + length xs) ys
numbered-append o n [] ys = ap (λ (k : ℕ). numbered o k ys) (omega arith)
numbered-append o n (a ∷ xs) ys =
    ap (λ (l : List Placed). record { origin = o; n = n; message = a } ∷ l)
    (numbered-append o (n + 1) xs ys ∙ ap (λ (k : ℕ). numbered o (n + 1) xs ++ numbered o k ys) (omega arith))

-- the entry at a place, and those after it
pub numbered-step : (o i : ℕ) (ms : List Draft) (d : Draft) → i < length ms
    → numbered o (i + 1) (drop i ms) ≡ record { origin = o; n = i + 1; message = get_or ms i d } ∷ numbered o (i + 1 + 1) (drop (i + 1) ms)
numbered-step o i ms d inside = ap (numbered o (i + 1)) (drop-cons ms i d inside) ∙ ap (λ (k : ℕ). record { origin = o; n = i + 1; message = get_or ms i d } ∷ numbered o (i + 1 + 1) (drop k ms)) (sym (add-one i))

-- ---- lists that follow each other

pub from-append : (o : ℕ) (xs ys : List Placed) → entries_from o (xs ++ ys) ≡ entries_from o xs ++ entries_from o ys
from-append o xs ys = filter-append (is_from o) xs ys

pub log-append : (o : ℕ) (xs ys : List Placed) → log_of o (xs ++ ys) ≡ log_of o xs ++ log_of o ys
log-append o xs ys = ap (map (λ entry. entry.message)) (from-append o xs ys) ∙ map-append (λ (entry : Placed). entry.message) (entries_from o xs) (entries_from o ys)

-- ---- runs

-- what of an origin is some messages in turn is a run of them
pub log_is : (o n : ℕ) (ms : List Draft) (es : List Placed) → entries_from o es ≡ numbered o n ms → log_of o es ≡ ms
log_is o n ms es is = ap (map (λ entry. entry.message)) is ∙ messages-numbered o n ms

pub run_is : (o n : ℕ) (ms : List Draft) (es : List Placed) → 1 ≤ n → entries_from o es ≡ numbered o n ms → HasNoHole o es
run_is o n ms es above is = record {
  first = n;
  above_0 = above;
  follow = is ∙ ap (numbered o n) (sym (log_is o n ms es is));
}

-- ---- the order of places

module _ {K : Type 0} (R : K → K → Ordering) where
  pub all-append : (x : K) (xs ys : List K) → AllByRecursion (λ y. R x y ≡ Less) xs → AllByRecursion (λ y. R x y ≡ Less) ys → AllByRecursion (λ y. R x y ≡ Less) (xs ++ ys)
  all-append x [] ys p q = q
  all-append x (a ∷ xs) ys p q = (p.0, all-append x xs ys p.1 q)

  -- lists that rise, the second above the first, rise as one
  pub rises-append : (xs ys : List K) → IsStrictlySortedBy R xs → IsStrictlySortedBy R ys → AllByRecursion (λ x. AllByRecursion (λ y. R x y ≡ Less) ys) xs → IsStrictlySortedBy R (xs ++ ys)
  unfolding IsStrictlySortedBy
  rises-append [] ys p q below = q
  rises-append (a ∷ xs) ys p q below = (all-append a xs ys p.0 below.0, rises-append xs ys p.1 q below.1)

-- ---- shared messages

arcs-step : (log : List (Arc Draft Global)) (i : ℕ) (r : Arc Draft Global) → i < length log → r ≡ get_or log i r → get_or (map arc_value log) i (arc_value r) ≡ arc_value r
arcs-step log i r inside is = get_or-map arc_value log i r ∙ ap arc_value (sym is)

-- the entry of a message that was read at a place of a log, and those after it
pub shared-step : (o i : ℕ) (log : List (Arc Draft Global)) (r : Arc Draft Global) (m : Draft) → i < length log → r ≡ get_or log i r → m ≡ arc_value r
    → numbered o (i + 1) (drop i (map arc_value log)) ≡ record { origin = o; n = i + 1; message = m } ∷ numbered o (i + 1 + 1) (drop (i + 1) (map arc_value log))
shared-step o i log r m inside is same =
    numbered-step o i (map arc_value log) (arc_value r) (rw length-map inside)
    ∙ ap (λ (d : Draft). record { origin = o; n = i + 1; message = d } ∷ numbered o (i + 1 + 1) (drop (i + 1) (map arc_value log))) (arcs-step log i r inside is ∙ sym same)

-- ---- runs rise

tied_less : (o k n : ℕ) → k < n → ordering_then (nat_cmp o o) (nat_cmp k n) ≡ Less
tied_less o k n less = grind (arith, nat_tests)

first_less : (o p k n : ℕ) → o < p → ordering_then (nat_cmp o p) (nat_cmp k n) ≡ Less
first_less o p k n less = grind (arith, nat_tests)

numbered_after : (o k : ℕ) (m : Draft) (n : ℕ) (ms : List Draft) → k < n → AllByRecursion (λ y. place_order (record { origin = o; n = k; message = m }) y ≡ Less) (numbered o n ms)
numbered_after o k m n [] less = tt
numbered_after o k m n (x ∷ ms) less = (tied_less o k n less, numbered_after o k m (n + 1) ms (omega arith))

pub rises-numbered : (o n : ℕ) (ms : List Draft) → IsStrictlySortedBy place_order (numbered o n ms)
unfolding IsStrictlySortedBy
rises-numbered o n [] = tt
rises-numbered o n (m ∷ ms) = (numbered_after o n m (n + 1) ms (omega arith), rises-numbered o (n + 1) ms)

-- what is numbered at a later origin comes after
pub numbered_later : (entry : Placed) (p n : ℕ) (ms : List Draft) → entry.origin < p → AllByRecursion (λ y. place_order entry y ≡ Less) (numbered p n ms)
numbered_later entry p n [] less = tt
numbered_later entry p n (m ∷ ms) less = (first_less entry.origin p entry.n n less, numbered_later entry p (n + 1) ms less)
