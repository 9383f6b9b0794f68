-- Which entries lists and logs hold. It serves the laws of logs, and the sites and worlds above.
use Rattle.std.proofs.Common.{◌≡◌, ◌∙◌, refl, ap, sym, ℕ, ◌+◌, ◌-◌, Bool, true, false, cond, ◌&&◌, ◌||◌, List, [], ◌∷◌, drop, arith, nat_eq, nat_lt, Option, Some, None, zero, suc}
use Rattle.std.specs.List.{list_any, slice_get}
use Rattle.std.proofs.Math.Bool.{and-false, and-true, or-false, or-true}
use Rattle.std.proofs.lemmas.Bool.{and_parts, eqb-true, false≢true, or_parts}
use Rattle.std.proofs.lemmas.Bool.Decides.{nat_tests}
use Rattle.sct_message.specs.declared.draft.Draft.{Draft}
use Rattle.sct_message.specs.Order.{same_message}
use Rattle.sct_message.proofs.SameValues.{message_is, message_itself}
use Rattle.sct_delta.specs.Entries.{Placed, entries_from, log_of, numbered, same_entry, holds, IsArrivals}
use Rattle.sct_delta.specs.Refusals.{message_at, is_same_as, is_held, IsCut}
use Rattle.sct_delta.proofs.EntryLemmas.{same_number}

pub and_first : (a b : Bool) → (a && b) ≡ true → a ≡ true
and_first a b e = (and_parts a b e).0

-- ---- one entry

pub some_there : (m : Draft) (x : Option Draft) → is_same_as m x ≡ true → x ≡ Some m
some_there m None e = absurd (false≢true e)
some_there m (Some d) e = ap (λ (a : Draft). Some a) (message_is d m e)

pub one_entry : (a b : Placed) → same_entry a b ≡ true → a ≡ b
one_entry a b e =
    let first : (nat_eq a.origin b.origin ≡ true) × ((nat_eq a.n b.n && same_message a.message b.message) ≡ true) = and_parts _ _ e in
    let rest : (nat_eq a.n b.n ≡ true) × (same_message a.message b.message ≡ true) = and_parts _ _ first.1 in
    λ i. record { origin = eqb-true a.origin b.origin first.0 i; n = eqb-true a.n b.n rest.0 i; message = message_is a.message b.message rest.1 i }

pub entry_itself : (a : Placed) → same_entry a a ≡ true
entry_itself a = (λ i. same_number a.origin i && (same_number a.n i && message_itself a.message i))

-- what no member passes no entry of the list passes, and the other way about
pub none_passes : (p : Placed → Bool) (es : List Placed) → list_any p es ≡ false → (e : Placed) → holds es e ≡ true → p e ≡ false
none_passes p [] none e among = absurd (false≢true among)
none_passes p (x ∷ es) none e among =
    elim (same_entry x e) as (λ b. same_entry x e ≡ b → (b || holds es e) ≡ true → p e ≡ false) [
      | true ↦ λ is _. ap p (sym (one_entry x e is)) ∙ (or_parts _ _ none).0
      | false ↦ λ _ later. none_passes p es (or_parts _ _ none).1 e later
    ] refl among

pub passes_none : (p : Placed → Bool) (es : List Placed) → ((e : Placed) → holds es e ≡ true → p e ≡ false) → list_any p es ≡ false
passes_none p [] none = refl
passes_none p (x ∷ es) none =
    (λ i. none x (ap (λ (b : Bool). b || holds es x) (entry_itself x)) i || passes_none p es (λ e among. none e (ap (λ (b : Bool). same_entry x e || b) among ∙ or-true (same_entry x e))) i)

-- ---- entries of one origin

pub holds_from : (e : Placed) (es : List Placed) → holds es e ≡ holds (entries_from e.origin es) e
holds_from e [] = refl
holds_from e (x ∷ es) =
    elim (nat_eq x.origin e.origin) as (λ b. nat_eq x.origin e.origin ≡ b → (same_entry x e || holds es e) ≡ holds (cond b (x ∷ entries_from e.origin es) (entries_from e.origin es)) e) [
      | true ↦ λ t. ap (λ (b : Bool). same_entry x e || b) (holds_from e es)
      | false ↦ λ t. (λ i. (t i && (nat_eq x.n e.n && same_message x.message e.message)) || holds es e) ∙ holds_from e es
    ] refl

first_same : (o f : ℕ) (m : Draft) (e : Placed) → e.origin ≡ o
    → same_entry (record { origin = o; n = f; message = m }) e ≡ (nat_eq f e.n && same_message m e.message)
first_same o f m e is =
    ap (λ (p : ℕ). nat_eq o p && (nat_eq f e.n && same_message m e.message)) is
    ∙ ap (λ (b : Bool). b && (nat_eq f e.n && same_message m e.message)) (same_number o)

next_place : (k n : ℕ) (m : Draft) (ms : List Draft) (j : ℕ) → k ≡ suc j → slice_get (m ∷ ms) k ≡ slice_get ms j
next_place k n m ms j is = ap (slice_get (m ∷ ms)) is

-- a number below another, at it, or above it, by the tests that runs are read by
below_it : (n f : ℕ) → nat_lt n f ≡ true → nat_lt n (f + 1) ≡ true
below_it n f e = grind (arith, nat_tests)

not_it : (n f : ℕ) → nat_lt n f ≡ true → nat_eq f n ≡ false
not_it n f e = grind (arith, nat_tests)

next_above : (n f : ℕ) → nat_eq f n ≡ true → nat_lt n (f + 1) ≡ true
next_above n f e = grind (arith, nat_tests)

above_next : (n f : ℕ) → nat_lt n f ≡ false → nat_eq f n ≡ false → nat_lt n (f + 1) ≡ false
above_next n f e g = grind (arith, nat_tests)

first_place : (n f : ℕ) → nat_eq f n ≡ true → n - f ≡ 0
first_place n f e = grind (arith, nat_tests)

later_place : (n f : ℕ) → nat_lt n f ≡ false → nat_eq f n ≡ false → n - f ≡ suc (n - (f + 1))
later_place n f e g = grind (arith, nat_tests)

-- An entry stands in a run where its message stands at the place of its number.
pub holds_run : (o f : ℕ) (ms : List Draft) (e : Placed) → e.origin ≡ o
    → holds (numbered o f ms) e ≡ cond (nat_lt e.n f) false (is_same_as e.message (slice_get ms (e.n - f)))
holds_run o f [] e is = elim (nat_lt e.n f) as (λ b. false ≡ cond b false false) [ true ↦ refl | false ↦ refl ]
holds_run o f (m ∷ ms) e is =
    (λ i. first_same o f m e is i || holds_run o (f + 1) ms e is i)
    ∙ elim (nat_lt e.n f) as (λ b. nat_lt e.n f ≡ b → ((nat_eq f e.n && same_message m e.message) || cond (nat_lt e.n (f + 1)) false (is_same_as e.message (slice_get ms (e.n - (f + 1)))))
    ≡ cond b false (is_same_as e.message (slice_get (m ∷ ms) (e.n - f)))) [
      | true ↦ λ t. λ i. (not_it e.n f t i && same_message m e.message) || cond (below_it e.n f t i) false (is_same_as e.message (slice_get ms (e.n - (f + 1))))
      | false ↦ λ t.
          elim (nat_eq f e.n) as (λ b. nat_eq f e.n ≡ b → ((b && same_message m e.message) || cond (nat_lt e.n (f + 1)) false (is_same_as e.message (slice_get ms (e.n - (f + 1)))))
          ≡ is_same_as e.message (slice_get (m ∷ ms) (e.n - f))) [
            | true ↦ λ u. (λ i. same_message m e.message || cond (next_above e.n f u i) false (is_same_as e.message (slice_get ms (e.n - (f + 1)))))
                ∙ or-false (same_message m e.message)
                ∙ ap (λ (k : ℕ). is_same_as e.message (slice_get (m ∷ ms) k)) (sym (first_place e.n f u))
            | false ↦ λ u. (λ i. cond (above_next e.n f t u i) false (is_same_as e.message (slice_get ms (e.n - (f + 1)))))
                ∙ ap (λ (k : ℕ). is_same_as e.message (slice_get (m ∷ ms) k)) (sym (later_place e.n f t u))
          ] refl
    ] refl

-- ---- what logs hold

from_1 : (n : ℕ) → nat_lt n 1 ≡ nat_eq n 0
from_1 n = grind (arith, nat_tests)

pub held_as_run : (log : ℕ → List Draft) (e : Placed) → is_held log e ≡ holds (numbered e.origin 1 (log e.origin)) e
held_as_run log e =
    sym (
    holds_run e.origin 1 (log e.origin) e refl
    ∙ ap (λ (b : Bool). cond b false (is_same_as e.message (slice_get (log e.origin) (e.n - 1)))) (from_1 e.n)
    ∙ elim (nat_eq e.n 0) as (λ b. cond b false (is_same_as e.message (slice_get (log e.origin) (e.n - 1))) ≡ is_same_as e.message (cond b None (slice_get (log e.origin) (e.n - 1)))) [ true ↦ refl | false ↦ refl ]
    )

-- what arrivals hold is what their logs hold
pub held_in_logs : (es : List Placed) → IsArrivals es → (e : Placed) → holds es e ≡ is_held (λ o. log_of o es) e
held_in_logs es arrive e = holds_from e es ∙ ap (λ (l : List Placed). holds l e) (arrive e.origin) ∙ sym (held_as_run (λ o. log_of o es) e)

-- ---- what is cut

after_drop : (k : ℕ) (ms : List Draft) (i : ℕ) → slice_get (drop k ms) i ≡ slice_get ms (k + i)
after_drop zero ms i = ap (slice_get ms) (omega arith)
after_drop (suc k) [] i = refl
after_drop (suc k) (m ∷ ms) i = after_drop k ms i ∙ sym (next_place (suc k + i) i m ms (k + i) (omega arith))

past_it : (c n : ℕ) → nat_lt c n ≡ true → nat_lt n (c + 1) ≡ false
past_it c n e = grind (arith, nat_tests)

up_to_it : (c n : ℕ) → nat_lt c n ≡ false → nat_lt n (c + 1) ≡ true
up_to_it c n e = grind (arith, nat_tests)

not_0 : (c n : ℕ) → nat_lt c n ≡ true → nat_eq n 0 ≡ false
not_0 c n e = grind (arith, nat_tests)

same_place : (c n : ℕ) → nat_lt c n ≡ true → c + (n - (c + 1)) ≡ n - 1
same_place c n e = grind (arith, nat_tests)

cut_at : (ms : List Draft) (c n : ℕ) (m : Draft)
    → cond (nat_lt n (c + 1)) false (is_same_as m (slice_get (drop c ms) (n - (c + 1)))) ≡ (is_same_as m (message_at ms n) && nat_lt c n)
cut_at ms c n m =
    elim (nat_lt c n) as (λ b. nat_lt c n ≡ b → cond (nat_lt n (c + 1)) false (is_same_as m (slice_get (drop c ms) (n - (c + 1)))) ≡ (is_same_as m (message_at ms n) && b)) [
      | true ↦ λ t.
          (λ i. cond (past_it c n t i) false (is_same_as m (slice_get (drop c ms) (n - (c + 1)))))
          ∙ ap (is_same_as m) (after_drop c ms (n - (c + 1)) ∙ ap (slice_get ms) (same_place c n t))
          ∙ (λ i. is_same_as m (cond (sym (not_0 c n t) i) None (slice_get ms (n - 1))))
          ∙ sym (and-true (is_same_as m (message_at ms n)))
      | false ↦ λ t.
          (λ i. cond (up_to_it c n t i) false (is_same_as m (slice_get (drop c ms) (n - (c + 1)))))
          ∙ sym (and-false (is_same_as m (message_at ms n)))
    ] refl

pub cut_holds : (log : ℕ → List Draft) (count : ℕ → ℕ) (delta : List Placed) → IsCut log count delta
    → (e : Placed) → holds delta e ≡ (is_held log e && nat_lt (count e.origin) e.n)
cut_holds log count delta is e =
    holds_from e delta
    ∙ ap (λ (l : List Placed). holds l e) (is e.origin)
    ∙ holds_run e.origin (count e.origin + 1) (drop (count e.origin) (log e.origin)) e refl
    ∙ cut_at (log e.origin) (count e.origin) e.n e.message
