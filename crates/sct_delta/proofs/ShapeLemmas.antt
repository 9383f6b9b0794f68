-- Entries without a first break are a delta, and a delta has no first break. Proof plumbing.
use Rattle.std.proofs.Common.{ℕ, ◌≡◌, ◌+◌, ◌<◌, ◌≤◌, ◌∷◌, [], List, Bool, true, false, cond, Option, Some, None, ◌==◌, ◌&&◌, map, refl, sym, ap, ◌∙◌, arith, if◌then◌else◌, eqb-true}
use Rattle.std.specs.Prelude.{nat_lt, nat_le, nat_eq, option_map}
use Rattle.std.specs.List.{AllByRecursion}
use Rattle.std.specs.List.Sorted.{IsStrictlySortedBy}
use Rattle.std.specs.Ordering.{nat_cmp, ordering_then}
use Rattle.std.specs.declared.cmp.Ordering.TheVariants.{Less, Equal, Greater}
use Rattle.std.proofs.lemmas.Bool.{and_parts}
use Rattle.std.proofs.lemmas.Bool.Decides.{nat_tests}
use Rattle.sct_delta.specs.Entries.{Placed, entries_from, log_of, numbered, HasNoHole, IsDelta, place_order}
use Rattle.sct_delta.specs.declared.fault.DeltaFault.TheVariants as fault
use Rattle.sct_delta.specs.Sites.{is_site}
use Rattle.sct_delta.proofs.EntryLemmas.{same_number}
use Rattle.sct_delta.specs.Shapes.{may_be_next, first_break, are_of_sites, delta_refusal}

-- ---- an entry behind another

-- what it is to stand there
pub record Behind (origin n : ℕ) (entry : Placed) : Type 0 where
  pub above_0 : 1 ≤ entry.n
  pub not_before : origin ≤ entry.origin
  pub next : origin ≡ entry.origin → entry.n ≡ n + 1

abbrev is_behind : ℕ → ℕ → ℕ → ℕ → Bool
is_behind origin n o m = nat_le 1 m && (if nat_eq origin o then nat_eq (n + 1) m else nat_lt origin o)

numbered_from_1 : (origin n o m : ℕ) → is_behind origin n o m ≡ true → 1 ≤ m
numbered_from_1 origin n o m h = grind (arith, nat_tests, h)

not_earlier : (origin n o m : ℕ) → is_behind origin n o m ≡ true → origin ≤ o
not_earlier origin n o m h = grind (arith, nat_tests, h)

the_next : (origin n o m : ℕ) → is_behind origin n o m ≡ true → origin ≡ o → m ≡ n + 1
the_next origin n o m h e = grind (arith, nat_tests, h, e)

passes : (origin n o m : ℕ) → 1 ≤ m → origin ≤ o → (origin ≡ o → m ≡ n + 1) → is_behind origin n o m ≡ true
passes origin n o m above before next =
    elim (nat_eq origin o) as (λ same. nat_eq origin o ≡ same → (nat_le 1 m && (if same then nat_eq (n + 1) m else nat_lt origin o)) ≡ true) [
      | true ↦ λ e. let m_is : m ≡ n + 1 = next (eqb-true origin o e) in grind (arith, nat_tests, m_is)
      | false ↦ λ e. grind (arith, nat_tests, e)
    ] refl

pub behind_from : (origin n : ℕ) (entry : Placed) → may_be_next origin n entry ≡ true → Behind origin n entry
behind_from origin n entry h = record {
  above_0 = numbered_from_1 origin n entry.origin entry.n h;
  not_before = not_earlier origin n entry.origin entry.n h;
  next = the_next origin n entry.origin entry.n h;
}

pub behind_passes : (origin n : ℕ) (entry : Placed) → Behind origin n entry → may_be_next origin n entry ≡ true
behind_passes origin n entry b = passes origin n entry.origin entry.n b.above_0 b.not_before b.next

-- ---- a list without a break, entry by entry

pub unbroken : (b : Bool) (rest : Option ℕ) (place : ℕ) → cond b rest (Some place) ≡ None → (b ≡ true) × (rest ≡ None)
unbroken true rest place h = (refl, h)
unbroken false rest place h = cc

first_of : (place origin n : ℕ) (entry : Placed) (entries : List Placed) → first_break place origin n (entry ∷ entries) ≡ None → Behind origin n entry
first_of place origin n entry entries none = behind_from origin n entry (unbroken _ _ _ none).0

others_of : (place origin n : ℕ) (entry : Placed) (entries : List Placed) → first_break place origin n (entry ∷ entries) ≡ None → first_break (place + 1) entry.origin entry.n entries ≡ None
others_of place origin n entry entries none = (unbroken _ _ _ none).1

-- ---- runs

-- The entries of an origin, where an entry of some origin and number stands before the list.
pub record RunAfter (origin n of : ℕ) (entries : List Placed) : Type 0 where
  pub run : HasNoHole of entries
  pub here : origin ≡ of → run.first ≡ n + 1
  pub before : of < origin → entries_from of entries ≡ []

from_it : (of : ℕ) (entry : Placed) (entries : List Placed) → nat_eq entry.origin of ≡ true → entries_from of (entry ∷ entries) ≡ entry ∷ entries_from of entries
from_it of entry entries same = rw same refl

from_other : (of : ℕ) (entry : Placed) (entries : List Placed) → nat_eq entry.origin of ≡ false → entries_from of (entry ∷ entries) ≡ entries_from of entries
from_other of entry entries other = rw other refl

numbered_of : (of first : ℕ) (entries all : List Placed) → entries_from of all ≡ entries_from of entries → entries_from of entries ≡ numbered of first (log_of of entries) → entries_from of all ≡ numbered of first (log_of of all)
numbered_of of first entries all same follow = same ∙ follow ∙ ap (λ (es : List Placed). numbered of first (map (λ entry. entry.message) es)) (sym same)

placed : (entry : Placed) (of : ℕ) → entry.origin ≡ of → entry ≡ record { origin = of; n = entry.n; message = entry.message }
placed entry of same = ap (λ (o : ℕ). record { origin = o; n = entry.n; message = entry.message }) same

numbered_with : (of : ℕ) (entry : Placed) (entries : List Placed) → nat_eq entry.origin of ≡ true → entries_from of entries ≡ numbered of (entry.n + 1) (log_of of entries) → entries_from of (entry ∷ entries) ≡ numbered of entry.n (log_of of (entry ∷ entries))
numbered_with of entry entries same follow =
    from_it of entry entries same
    ∙ ap (λ (es : List Placed). entry ∷ es) follow
    ∙ ap (λ (e : Placed). e ∷ numbered of (entry.n + 1) (log_of of entries)) (placed entry of (eqb-true entry.origin of same))
    ∙ ap (λ (es : List Placed). numbered of entry.n (map (λ e. e.message) es)) (sym (from_it of entry entries same))

none_from : (of first : ℕ) (entries : List Placed) → entries_from of entries ≡ [] → entries_from of entries ≡ numbered of first (log_of of entries)
none_from of first entries none = none ∙ ap (λ (es : List Placed). numbered of first (map (λ e. e.message) es)) (sym none)

-- where nothing of an origin is left, its run begins where it likes
empty_run : (origin n of : ℕ) (entries : List Placed) → entries_from of entries ≡ [] → RunAfter origin n of entries
empty_run origin n of entries none =
    elim (nat_eq origin of) as (λ same. nat_eq origin of ≡ same → RunAfter origin n of entries) [
      | true ↦ λ e. record { run = record { first = n + 1; above_0 = omega arith; follow = none_from of (n + 1) entries none }; here = λ same. refl; before = λ below. none }
      | false ↦ λ e. record { run = record { first = 1; above_0 = omega arith; follow = none_from of 1 entries none }; here = λ same. absurd (grind (arith, nat_tests, e, same)); before = λ below. none }
    ] refl

run_with : (origin n of : ℕ) (entry : Placed) (entries : List Placed) → Behind origin n entry → nat_eq entry.origin of ≡ true → RunAfter entry.origin entry.n of entries → RunAfter origin n of (entry ∷ entries)
run_with origin n of entry entries b same rest =
    let it : entry.origin ≡ of = eqb-true entry.origin of same in
    let follow : entries_from of entries ≡ numbered of (entry.n + 1) (log_of of entries) =
    rw (← (rest.here it)) rest.run.follow in
    record {
      run = record { first = entry.n; above_0 = b.above_0; follow = numbered_with of entry entries same follow };
      here = λ e. b.next (e ∙ sym it);
      before = λ below. absurd (omega (arith, b.not_before, it));
    }

run_past : (origin n of : ℕ) (entry : Placed) (entries : List Placed) → Behind origin n entry → nat_eq entry.origin of ≡ false → RunAfter entry.origin entry.n of entries → RunAfter origin n of (entry ∷ entries)
run_past origin n of entry entries b other rest =
    let past : entries_from of (entry ∷ entries) ≡ entries_from of entries = from_other of entry entries other in
    elim (nat_lt of entry.origin) as (λ below. nat_lt of entry.origin ≡ below → RunAfter origin n of (entry ∷ entries)) [
      | true ↦ λ e. empty_run origin n of (entry ∷ entries) (past ∙ rest.before (grind (arith, nat_tests, e)))
      | false ↦ λ e. record {
        run = record { first = rest.run.first; above_0 = rest.run.above_0; follow = numbered_of of rest.run.first entries (entry ∷ entries) past rest.run.follow };
        here = λ same. absurd (grind (arith, nat_tests, e, other, same, b.not_before));
        before = λ below. absurd (grind (arith, nat_tests, e, other, below, b.not_before));
      }
    ] refl

pub run_after : (place origin n of : ℕ) (entries : List Placed) → first_break place origin n entries ≡ None → RunAfter origin n of entries
run_after place origin n of [] none = empty_run origin n of [] refl
run_after place origin n of (entry ∷ entries) none =
    let b : Behind origin n entry = first_of place origin n entry entries none in
    let rest : RunAfter entry.origin entry.n of entries = run_after (place + 1) entry.origin entry.n of entries (others_of place origin n entry entries none) in
    elim (nat_eq entry.origin of) as (λ same. nat_eq entry.origin of ≡ same → RunAfter origin n of (entry ∷ entries)) [
      | true ↦ λ e. run_with origin n of entry entries b e rest
      | false ↦ λ e. run_past origin n of entry entries b e rest
    ] refl

-- ---- order

abbrev order_of : ℕ → ℕ → Placed → Type 0
order_of origin n entry = ordering_then (nat_cmp origin entry.origin) (nat_cmp n entry.n) ≡ Less

lesser : (a b o m : ℕ) → a ≤ o → (a ≡ o → b < m) → ordering_then (nat_cmp a o) (nat_cmp b m) ≡ Less
lesser a b o m le lt =
    elim (nat_lt a o) as (λ below. nat_lt a o ≡ below → ordering_then (cond below Less (cond (a == o) Equal Greater)) (nat_cmp b m) ≡ Less) [
      | true ↦ λ e. refl
      | false ↦ λ e.
          let same : (a == o) ≡ true = grind (arith, nat_tests, e, le) in
          let less : nat_lt b m ≡ true = let below : b < m = lt (eqb-true a o same) in grind (arith, nat_tests, below) in
          rw (same, less) refl
    ] refl

-- what stands behind a list's start is above whatever is not above that start
all_above : (place origin n a b : ℕ) (entries : List Placed) → first_break place origin n entries ≡ None → a ≤ origin → (a ≡ origin → b ≤ n) → AllByRecursion (λ y. ordering_then (nat_cmp a y.origin) (nat_cmp b y.n) ≡ Less) entries
all_above place origin n a b [] none le below = tt
all_above place origin n a b (entry ∷ entries) none le below =
    let first : Behind origin n entry = first_of place origin n entry entries none in (
      lesser a b entry.origin entry.n (omega (arith, first.not_before)) (λ same.
          let here : origin ≡ entry.origin = omega (arith, first.not_before, same, le) in
          let there : a ≡ origin = omega (arith, here, same) in
          omega (arith, first.next here, below there)),
      all_above (place + 1) entry.origin entry.n a b entries (others_of place origin n entry entries none) (omega (arith, first.not_before)) (λ same.
          let here : origin ≡ entry.origin = omega (arith, first.not_before, same, le) in
          let there : a ≡ origin = omega (arith, here, same) in
          omega (arith, first.next here, below there)),
    )

pub rises_after : (place origin n : ℕ) (entries : List Placed) → first_break place origin n entries ≡ None → IsStrictlySortedBy place_order entries
unfolding IsStrictlySortedBy
rises_after place origin n [] none = tt
rises_after place origin n (entry ∷ entries) none =
    let others : first_break (place + 1) entry.origin entry.n entries ≡ None = others_of place origin n entry entries none in
    (all_above (place + 1) entry.origin entry.n entry.origin entry.n entries others (omega arith) (λ same. omega arith), rises_after (place + 1) entry.origin entry.n entries others)

-- ---- and back

not_earlier_from_order : (a b o m : ℕ) → ordering_then (nat_cmp a o) (nat_cmp b m) ≡ Less → a ≤ o
not_earlier_from_order a b o m less =
    (elim (nat_lt a o) as (λ below. nat_lt a o ≡ below → ordering_then (cond below Less (cond (a == o) Equal Greater)) (nat_cmp b m) ≡ Less → a ≤ o) [
      | true ↦ λ e h. grind (arith, nat_tests, e)
      | false ↦ λ e. (elim (a == o) as (λ same. (a == o) ≡ same → ordering_then (cond same Equal Greater) (nat_cmp b m) ≡ Less → a ≤ o) [
        | true ↦ λ same h. omega (arith, eqb-true a o same)
        | false ↦ λ other h. cc
      ]) refl
    ]) refl less

none_earlier : (origin n of : ℕ) (entries : List Placed) → AllByRecursion (λ y. ordering_then (nat_cmp origin y.origin) (nat_cmp n y.n) ≡ Less) entries → of < origin → entries_from of entries ≡ []
none_earlier origin n of [] all below = refl
none_earlier origin n of (entry ∷ entries) all below =
    let le : origin ≤ entry.origin = not_earlier_from_order origin n entry.origin entry.n all.0 in
    let other : nat_eq entry.origin of ≡ false = grind (arith, nat_tests, le, below) in
    from_other of entry entries other ∙ none_earlier origin n of entries all.1 below

-- the first entry has the number that the run of its origin begins with
run_at_head : (of : ℕ) (entry : Placed) (entries : List Placed) → nat_eq entry.origin of ≡ true → (run : HasNoHole of (entry ∷ entries))
    → (entry.n ≡ run.first) × (entries_from of entries ≡ numbered of (run.first + 1) (log_of of entries))
run_at_head of entry entries same run =
    let head : entry ∷ entries_from of entries ≡ record { origin = of; n = run.first; message = entry.message } ∷ numbered of (run.first + 1) (log_of of entries) =
    sym (from_it of entry entries same) ∙ run.follow ∙ ap (λ (es : List Placed). numbered of run.first (map (λ e. e.message) es)) (from_it of entry entries same) in
    let one : entry ≡ record { origin = of; n = run.first; message = entry.message } = cc in
    let others : entries_from of entries ≡ numbered of (run.first + 1) (log_of of entries) = cc in
    (ap (λ (e : Placed). e.n) one, others)

head_behind : (origin n : ℕ) (entry : Placed) (entries : List Placed) → RunAfter origin n entry.origin (entry ∷ entries) → Behind origin n entry
head_behind origin n entry entries after =
    let head = run_at_head entry.origin entry entries (same_number entry.origin) after.run in
    record {
      above_0 = omega (arith, head.0, after.run.above_0);
      not_before =
          elim (nat_lt entry.origin origin) as (λ below. nat_lt entry.origin origin ≡ below → origin ≤ entry.origin) [
            | true ↦ λ e.
                let none : entries_from entry.origin (entry ∷ entries) ≡ [] = after.before (grind (arith, nat_tests, e)) in
                let some : entries_from entry.origin (entry ∷ entries) ≡ entry ∷ entries_from entry.origin entries = from_it entry.origin entry entries (same_number entry.origin) in
                cc
            | false ↦ λ e. grind (arith, nat_tests, e)
          ] refl;
      next = λ same. omega (arith, head.0, after.here same);
    }

run_left : (origin n of : ℕ) (entry : Placed) (entries : List Placed) → RunAfter origin n of (entry ∷ entries) → IsStrictlySortedBy place_order (entry ∷ entries) → RunAfter entry.origin entry.n of entries
unfolding IsStrictlySortedBy
run_left origin n of entry entries after rises =
    elim (nat_eq entry.origin of) as (λ same. nat_eq entry.origin of ≡ same → RunAfter entry.origin entry.n of entries) [
      | true ↦ λ e.
          let head = run_at_head of entry entries e after.run in
          record {
            run = record { first = after.run.first + 1; above_0 = omega arith; follow = head.1 };
            here = λ same. omega (arith, head.0);
            before = λ below. absurd (omega (arith, eqb-true entry.origin of e));
          }
      | false ↦ λ e. record {
        run = record {
          first = after.run.first;
          above_0 = after.run.above_0;
          follow = numbered_of of after.run.first (entry ∷ entries) entries (sym (from_other of entry entries e)) after.run.follow;
        };
        here = λ same. absurd (grind (arith, nat_tests, e, same));
        before = λ below. none_earlier entry.origin entry.n of entries rises.0 below;
      }
    ] refl

rises_left : (entry : Placed) (entries : List Placed) → IsStrictlySortedBy place_order (entry ∷ entries) → IsStrictlySortedBy place_order entries
unfolding IsStrictlySortedBy
rises_left entry entries rises = rises.1

pub unbroken_from : (place origin n : ℕ) (entries : List Placed) → ((of : ℕ) → RunAfter origin n of entries) → IsStrictlySortedBy place_order entries → first_break place origin n entries ≡ None
unbroken_from place origin n [] after rises = refl
unbroken_from place origin n (entry ∷ entries) after rises =
    let first : may_be_next origin n entry ≡ true = behind_passes origin n entry (head_behind origin n entry entries (after entry.origin)) in
    let rest : first_break (place + 1) entry.origin entry.n entries ≡ None =
    unbroken_from (place + 1) entry.origin entry.n entries (λ of. run_left origin n of entry entries (after of) rises) (rises_left entry entries rises) in
    rw (first, rest) refl

-- ---- deltas

pub none_of_0 : (entries : List Placed) → are_of_sites entries ≡ true → entries_from 0 entries ≡ []
none_of_0 [] sites = refl
none_of_0 (entry ∷ entries) sites =
    let parts : (is_site entry.origin ≡ true) × (are_of_sites entries ≡ true) = and_parts (is_site entry.origin) (are_of_sites entries) sites in
    let other : nat_eq entry.origin 0 ≡ false = grind (arith, nat_tests, parts.0) in
    from_other 0 entry entries other ∙ none_of_0 entries parts.1

from_start : (entries : List Placed) → IsDelta entries → (of : ℕ) → RunAfter 0 0 of entries
from_start entries delta of =
    elim (nat_eq 0 of) as (λ none. nat_eq 0 of ≡ none → RunAfter 0 0 of entries) [
      | true ↦ λ e. empty_run 0 0 of entries (rw (← (eqb-true 0 of e)) (none_of_0 entries delta.sites))
      | false ↦ λ e. record { run = delta.runs of; here = λ same. absurd (grind (arith, nat_tests, e, same)); before = λ below. absurd (omega arith) }
    ] refl

pub delta_unbroken : (entries : List Placed) → IsDelta entries → first_break 1 0 0 entries ≡ None
delta_unbroken entries delta = unbroken_from 1 0 0 entries (from_start entries delta) delta.rises

pub delta_from_unbroken : (entries : List Placed) → are_of_sites entries ≡ true → first_break 1 0 0 entries ≡ None → IsDelta entries
delta_from_unbroken entries sites none = record {
  runs = λ of. (run_after 1 0 0 of entries none).run;
  rises = rises_after 1 0 0 entries none;
  sites = sites;
}

pub refused_nowhere : (sites : Bool) (break : Option ℕ) → cond sites (option_map (λ place. fault.BadDelta place) break) (Some fault.BadSite) ≡ None → (sites ≡ true) × (break ≡ None)
refused_nowhere true None h = (refl, refl)
refused_nowhere true (Some place) h = cc
refused_nowhere false break h = cc

pub delta_from_no_refusal : (entries : List Placed) → delta_refusal entries ≡ None → IsDelta entries
unfolding delta_refusal
delta_from_no_refusal entries none =
    let parts : (are_of_sites entries ≡ true) × (first_break 1 0 0 entries ≡ None) = refused_nowhere _ _ none in
    delta_from_unbroken entries parts.0 parts.1

pub delta_not_refused : (entries : List Placed) → IsDelta entries → delta_refusal entries ≡ None
unfolding delta_refusal
delta_not_refused entries delta = rw (delta.sites, delta_unbroken entries delta) refl
