-- A delta is refused exactly where it does not fit. Proof plumbing.
use Rattle.std.proofs.Common.{◌≡◌, ◌∙◌, refl, ap, sym, ℕ, ◌+◌, ◌-◌, ◌<◌, ◌≤◌, Bool, true, false, not, cond, ◌&&◌, ◌||◌, List, [], ◌∷◌, length, arith, nat_eq, nat_lt, Option, Some, None, suc}
use Rattle.std.specs.List.{list_any, slice_get}
use Rattle.std.specs.List.Sorted.{IsStrictlySortedBy}
use Rattle.std.proofs.lemmas.Bool.{eqb-true, false≢true, not-false, ltb-false, le-ltb, eq-eqb, ltb-true}
use Rattle.std.proofs.lemmas.Bool.Decides.{nat_tests}
use Rattle.std.proofs.lemmas.Option.{slice_get_past}
use Rattle.std.proofs.lemmas.Map.Keys.{sorted_tail}
use Rattle.sct_message.specs.declared.draft.Draft.{Draft}
use Rattle.sct_delta.specs.Entries.{Placed, entries_from, held_from, log_of, numbered, holds, place_order, IsDelta}
use Rattle.sct_delta.specs.Refusals.{message_at, is_same_as, is_other_than, is_held, is_outside, is_ahead, is_past, is_fork, has_site, firsts_after, vector_of}
use Rattle.sct_delta.specs.Laws.{Held, IsFitting, IsReached, IsRefusedWhereItDoesNotFit}
use Rattle.sct_delta.proofs.EntryLemmas.{same_number}
use Rattle.sct_delta.proofs.HeldLemmas.{entry_itself, none_passes, passes_none, holds_from, holds_run}
use Rattle.sct_delta.proofs.JoinLemmas.{IsPassed, passed, unrefused, fresh_at, first_reached, not_past, swapped, is_the_first}
use Rattle.sct_delta.proofs.RoomLemmas.{none_of_earlier, first_rises}

-- ---- an entry and the run of its origin

from_false : (b : Bool) (x : Bool) → cond b false x ≡ true → b ≡ false
from_false true x e = absurd (false≢true e)
from_false false x e = refl

-- an entry of a run has no lower number than the first
pub at_least_first : (delta : List Placed) (o f : ℕ) (ms : List Draft) (e : Placed) → entries_from o delta ≡ numbered o f ms → e.origin ≡ o → holds delta e ≡ true → f ≤ e.n
at_least_first delta o f ms e is from among =
    ltb-false e.n f (from_false (nat_lt e.n f) (is_same_as e.message (slice_get ms (e.n - f)))
    (sym (holds_run o f ms e from) ∙ ap (λ (l : List Placed). holds l e) (sym is) ∙ ap (λ (p : ℕ). holds (entries_from p delta) e) (sym from) ∙ sym (holds_from e delta) ∙ among))

pub first_among : (delta : List Placed) (e : Placed) (rest : List Placed) → entries_from e.origin delta ≡ e ∷ rest → holds delta e ≡ true
first_among delta e rest is = holds_from e delta ∙ ap (λ (l : List Placed). holds l e) is ∙ ap (λ (b : Bool). b || holds rest e) (entry_itself e)

-- ---- from the tests to the sentences

site_not_0 : (group o : ℕ) → has_site group o ≡ true → nat_eq o 0 ≡ false
site_not_0 group o e = grind (arith, nat_tests)

reached_in : (group : ℕ) (log : Held) (delta : List Placed) (o f : ℕ) (ms : List Draft) (e : Placed) → has_site group o ≡ true
    → list_any (is_past log) (firsts_after 0 delta) ≡ false → entries_from o delta ≡ numbered o f ms → e.origin ≡ o → holds delta e ≡ true → IsReached log delta o
reached_in group log delta o f [] e site none is from among =
    absurd (false≢true (ap (λ (l : List Placed). holds l e) (sym is) ∙ ap (λ (p : ℕ). holds (entries_from p delta) e) (sym from) ∙ sym (holds_from e delta) ∙ among))
reached_in group log delta o f (m ∷ ms) e site none is from among =
    let first : Placed = record { origin = o; n = f; message = m } in
    record {
      entry = first;
      among = first_among delta first (numbered o (f + 1) ms) is;
      from = refl;
      reached = not_past (vector_of log o) f (first_reached log o 0 delta first (numbered o (f + 1) ms) (site_not_0 group o site) none is);
    }

fitting : (own group : ℕ) (log : Held) (delta : List Placed) → IsDelta delta → IsPassed own group log delta → IsFitting own group log delta
fitting own group log delta shape p =
    let inside = λ (e : Placed) (among : holds delta e ≡ true). not-false (has_site group e.origin) (none_passes (is_outside group) delta p.inside e among) in
    record {
      inside = inside;
      known = λ e among is. ltb-false (vector_of log own) e.n
          (ap (λ (b : Bool). b && nat_lt (vector_of log own) e.n) (sym (eq-eqb e.origin own is)) ∙ none_passes (is_ahead own log) delta p.known e among);
      no_gap = λ e among. let run = shape.runs e.origin in reached_in group log delta e.origin run.first (log_of e.origin delta) e (inside e among) p.no_gap run.follow refl among;
      no_fork = λ e among held.
          let run = shape.runs e.origin in
          let from_1 : 1 ≤ e.n = let a = run.above_0 in let b = at_least_first delta e.origin run.first (log_of e.origin delta) e run.follow refl among in omega (arith, a, b) in
          not-false (is_held log e) (fresh_at (log e.origin) e.n e.message from_1 (none_passes (is_fork log) delta p.no_fork e among) ∙ le-ltb (vector_of log e.origin) e.n held);
    }

-- ---- and back

pub none_in_tail : (o : ℕ) (x : Placed) (es : List Placed) → held_from o (x ∷ es) ≡ 0 → held_from o es ≡ 0
none_in_tail o x es none =
    elim (nat_eq x.origin o) as (λ b. length (cond b (x ∷ entries_from o es) (entries_from o es)) ≡ 0 → held_from o es ≡ 0) [
      | true ↦ λ f. absurd (omega (arith, f))
      | false ↦ λ f. f
    ] none

pub skip : (o : ℕ) (x : Placed) (es fs : List Placed) → nat_eq x.origin o ≡ false → entries_from o es ≡ fs → entries_from o (x ∷ es) ≡ fs
skip o x es fs other is = (λ i. cond (other i) (x ∷ entries_from o es) (entries_from o es)) ∙ is

pub apart : (x p o : ℕ) → nat_eq x p ≡ true → nat_eq o p ≡ false → nat_eq x o ≡ false
apart x p o e f = grind (arith, nat_tests)

pub not_before : (x o n k : ℕ) → (o < x → n ≡ 0) → n ≡ suc k → x ≤ o
not_before x o n k none count = grind arith

pub above_last : (p x n k : ℕ) → n ≡ suc k → (x < p → n ≡ 0) → nat_eq x p ≡ false → p < x
above_last p x n k count none other = grind (arith, nat_tests)

pub later_differs : (p x o : ℕ) → p < x → x ≤ o → nat_eq o p ≡ false
later_differs p x o up on = grind (arith, nat_tests)

pub first_number : (o f : ℕ) (ms : List Draft) (e : Placed) (rest : List Placed) → numbered o f ms ≡ e ∷ rest → e.n ≡ f
first_number o f [] e rest is = cc
first_number o f (m ∷ ms) e rest is = ap (λ (x : Placed). x.n) (sym (is_the_first (record { origin = o; n = f; message = m }) e (numbered o (f + 1) ms) rest is))

same_not_other : (m : Draft) (x : Option Draft) → is_same_as m x ≡ true → is_other_than m x ≡ false
same_not_other m None e = refl
same_not_other m (Some d) e = ap not e

none_above : (ms : List Draft) (n : ℕ) → length ms < n → message_at ms n ≡ None
none_above ms n above =
    elim (nat_eq n 0) as (λ b. cond b None (slice_get ms (n - 1)) ≡ None) [
      | true ↦ refl
      | false ↦ slice_get_past ms (n - 1) (omega (arith, above))
    ]

-- where the first entry of each origin passes no test, no entry that begins an origin does
firsts_pass : (log : Held) (previous : ℕ) (es : List Placed) → IsStrictlySortedBy place_order es → ((o : ℕ) → o < previous → held_from o es ≡ 0)
    → ((e : Placed) (rest : List Placed) → nat_eq e.origin previous ≡ false → entries_from e.origin es ≡ e ∷ rest → is_past log e ≡ false)
    → list_any (is_past log) (firsts_after previous es) ≡ false
firsts_pass log previous [] rises low first = refl
firsts_pass log previous (x ∷ es) rises low first =
    elim (nat_eq x.origin previous) as (λ b. nat_eq x.origin previous ≡ b → list_any (is_past log) (cond b (firsts_after previous es) (x ∷ firsts_after x.origin es)) ≡ false) [
      | true ↦ λ t.
          firsts_pass log previous es (sorted_tail place_order x es rises) (λ o below. none_in_tail o x es (low o below))
          (λ e rest new is. first e rest new (skip e.origin x es (e ∷ rest) (apart x.origin previous e.origin t new) is))
      | false ↦ λ t.
          λ i. first x (entries_from x.origin es) t (λ j. cond (same_number x.origin j) (x ∷ entries_from x.origin es) (entries_from x.origin es)) i
          || firsts_pass log x.origin es (sorted_tail place_order x es rises) (λ o below. none_of_earlier o x es (first_rises x es rises) below)
          (λ e rest new is.
          let count : held_from e.origin es ≡ suc (length rest) = ap length is in
          let on = not_before x.origin e.origin (held_from e.origin es) (length rest) (none_of_earlier e.origin x es (first_rises x es rises)) count in
          let up = above_last previous x.origin (held_from x.origin (x ∷ es)) (held_from x.origin es) (λ j. length (cond (same_number x.origin j) (x ∷ entries_from x.origin es) (entries_from x.origin es))) (low x.origin) t in
          first e rest (later_differs previous x.origin e.origin up on) (skip e.origin x es (e ∷ rest) (swapped e.origin x.origin new) is)) i
    ] refl

back : (own group : ℕ) (log : Held) (delta : List Placed) → IsDelta delta → IsFitting own group log delta → IsPassed own group log delta
back own group log delta shape f = record {
  inside = passes_none (is_outside group) delta (λ e among. ap not (f.inside e among));
  known = passes_none (is_ahead own log) delta (λ e among.
      elim (nat_eq e.origin own) as (λ b. nat_eq e.origin own ≡ b → (b && nat_lt (vector_of log own) e.n) ≡ false) [
        | true ↦ λ t. le-ltb (vector_of log own) e.n (f.known e among (eqb-true e.origin own t))
        | false ↦ λ t. refl
      ] refl);
  no_gap = firsts_pass log 0 delta shape.rises (λ o below. absurd (omega (arith, below))) (λ e rest new is.
      let run = shape.runs e.origin in
      let r = f.no_gap e (first_among delta e rest is) in
      let number : e.n ≡ run.first = first_number e.origin run.first (log_of e.origin delta) e rest (sym run.follow ∙ is) in
      let least = at_least_first delta e.origin run.first (log_of e.origin delta) r.entry run.follow r.from r.among in
      let reached = r.reached in
      le-ltb (vector_of log e.origin + 1) e.n (omega (arith, number, least, reached)));
  no_fork = passes_none (is_fork log) delta (λ e among.
      elim (nat_lt (vector_of log e.origin) e.n) as (λ b. nat_lt (vector_of log e.origin) e.n ≡ b → is_fork log e ≡ false) [
        | true ↦ λ t. ap (is_other_than e.message) (none_above (log e.origin) e.n (ltb-true (vector_of log e.origin) e.n t))
        | false ↦ λ t. same_not_other e.message (message_at (log e.origin) e.n) (f.no_fork e among (ltb-false (vector_of log e.origin) e.n t))
      ] refl);
}

pub refused_where_it_does_not_fit : IsRefusedWhereItDoesNotFit
refused_where_it_does_not_fit own group log delta shape = (
  λ none. fitting own group log delta shape (passed own group log delta none),
  λ fits. unrefused own group log delta (back own group log delta shape fits),
)
