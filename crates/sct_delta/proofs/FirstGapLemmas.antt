-- The gap that is reported of a delta is that of the least origin that has one. Proof plumbing.
use Rattle.std.proofs.Common.{◌≡◌, ◌∙◌, refl, ap, sym, subst, ℕ, ◌+◌, ◌<◌, ◌≤◌, true, false, cond, List, [], ◌∷◌, length, arith, nat_eq, nat_lt, Option, Some, None, suc}
use Rattle.std.specs.List.{find, list_any}
use Rattle.std.specs.List.Sorted.{IsStrictlySortedBy}
use Rattle.std.proofs.Math.Nat.{le_antisymm}
use Rattle.std.proofs.lemmas.Bool.{eqb-true, false≢true, lt-ltb, ltb-false, ltb-true}
use Rattle.std.proofs.lemmas.Bool.Decides.{nat_tests}
use Rattle.std.proofs.lemmas.Option.{same_Some}
use Rattle.std.proofs.lemmas.Map.Keys.{sorted_tail}
use Rattle.sct_message.specs.declared.draft.Draft.{Draft}
use Rattle.sct_delta.specs.Entries.{Placed, entries_from, held_from, log_of, numbered, holds, place_order, IsDelta}
use Rattle.sct_delta.specs.Refusals.{firsts_after, gap_refusal, is_past, fault_of_entry, vector_of}
use Rattle.sct_delta.specs.Laws.{Held, IsFirstGap, IsGap, ReportsTheFirstGap}
use Rattle.sct_delta.specs.Shapes.{are_of_sites}
use Rattle.sct_delta.specs.declared.fault.DeltaFault.{DeltaFault}
use Rattle.sct_delta.specs.declared.fault.DeltaFault.TheVariants as fault
use Rattle.sct_delta.proofs.EntryLemmas.{same_number}
use Rattle.sct_delta.proofs.FittingLemmas.{above_last, apart, at_least_first, first_among, first_number, later_differs, none_in_tail, not_before, skip}
use Rattle.sct_delta.proofs.HeldLemmas.{holds_from}
use Rattle.sct_delta.proofs.JoinLemmas.{first_reached, is_the_first, swapped, told_none}
use Rattle.sct_delta.proofs.RoomLemmas.{none_of_earlier, first_rises}
use Rattle.sct_delta.proofs.ShapeLemmas.{none_of_0}
use Rattle.sct_delta.proofs.CutLemmas.{lower_differs}

-- ---- the entry that the search finds

-- The entry begins its origin and is past the next number, and no entry that begins a lower origin is.
record Found (log : Held) (previous : ℕ) (es : List Placed) (e : Placed) : Type 0 where
  pub new : nat_eq e.origin previous ≡ false
  pub past : is_past log e ≡ true
  pub rest : List Placed
  pub head : entries_from e.origin es ≡ e ∷ rest
  pub before : (x : Placed) (others : List Placed) → nat_eq x.origin previous ≡ false → x.origin < e.origin → entries_from x.origin es ≡ x ∷ others → is_past log x ≡ false

none_is_some : (e : Placed) → None ≡ Some e → ⊥
none_is_some e is = cc

unskip : (o : ℕ) (x : Placed) (es fs : List Placed) → nat_eq x.origin o ≡ false → entries_from o (x ∷ es) ≡ fs → entries_from o es ≡ fs
unskip o x es fs other is = sym (λ i. cond (other i) (x ∷ entries_from o es) (entries_from o es)) ∙ is

none_there : (n k : ℕ) → n ≡ 0 → n ≡ suc k → ⊥
none_there n k none some = omega (arith, none, some)

found : (log : Held) (previous : ℕ) (es : List Placed) (e : Placed) → IsStrictlySortedBy place_order es → ((o : ℕ) → o < previous → held_from o es ≡ 0)
    → find (is_past log) (firsts_after previous es) ≡ Some e → Found log previous es e
found log previous [] e rises low is = absurd (none_is_some e is)
found log previous (x ∷ es) e rises low is =
    elim (nat_eq x.origin previous) as (λ b. nat_eq x.origin previous ≡ b → find (is_past log) (cond b (firsts_after previous es) (x ∷ firsts_after x.origin es)) ≡ Some e → Found log previous (x ∷ es) e) [
      | true ↦ λ t is.
          let r : Found log previous es e = found log previous es e (sorted_tail place_order x es rises) (λ o below. none_in_tail o x es (low o below)) is in
          record {
            new = r.new;
            past = r.past;
            rest = r.rest;
            head = skip e.origin x es (e ∷ r.rest) (apart x.origin previous e.origin t r.new) r.head;
            before = λ y others fresh lower is. r.before y others fresh lower (unskip y.origin x es (y ∷ others) (apart x.origin previous y.origin t fresh) is);
          }
      | false ↦ λ t is.
          elim (is_past log x) as (λ b. is_past log x ≡ b → cond b (Some x) (find (is_past log) (firsts_after x.origin es)) ≡ Some e → Found log previous (x ∷ es) e) [
            | true ↦ λ u here.
                subst (λ (y : Placed). Found log previous (x ∷ es) y) (same_Some x e here)
                (record {
                  new = t;
                  past = u;
                  rest = entries_from x.origin es;
                  head = λ j. cond (same_number x.origin j) (x ∷ entries_from x.origin es) (entries_from x.origin es);
                  before = λ y others fresh lower is.
                      absurd (none_there (held_from y.origin es) (length others) (none_of_earlier y.origin x es (first_rises x es rises) lower)
                      (ap length (unskip y.origin x es (y ∷ others) (lower_differs y.origin x.origin lower) is)));
                })
            | false ↦ λ u later.
                let r : Found log x.origin es e = found log x.origin es e (sorted_tail place_order x es rises) (λ o below. none_of_earlier o x es (first_rises x es rises) below) later in
                let on : x.origin ≤ e.origin = not_before x.origin e.origin (held_from e.origin es) (length r.rest) (none_of_earlier e.origin x es (first_rises x es rises)) (ap length r.head) in
                let up : previous < x.origin
                = above_last previous x.origin (held_from x.origin (x ∷ es)) (held_from x.origin es) (λ j. length (cond (same_number x.origin j) (x ∷ entries_from x.origin es) (entries_from x.origin es))) (low x.origin) t in
                record {
                  new = later_differs previous x.origin e.origin up on;
                  past = r.past;
                  rest = r.rest;
                  head = skip e.origin x es (e ∷ r.rest) (swapped e.origin x.origin r.new) r.head;
                  before = λ y others fresh lower is.
                      elim (nat_eq x.origin y.origin) as (λ b. nat_eq x.origin y.origin ≡ b → is_past log y ≡ false) [
                        | true ↦ λ v. ap (is_past log) (sym (is_the_first x y (entries_from y.origin es) others (sym (λ j. cond (v j) (x ∷ entries_from y.origin es) (entries_from y.origin es)) ∙ is))) ∙ u
                        | false ↦ λ v. r.before y others (swapped x.origin y.origin v) lower (unskip y.origin x es (y ∷ others) v is)
                      ] refl;
                }
          ] refl is
    ] refl is

-- ---- a gap and the first entry of its origin

-- an origin of which a delta has an entry is a site
not_0 : (delta : List Placed) (o : ℕ) (e : Placed) (rest : List Placed) → are_of_sites delta ≡ true → entries_from o delta ≡ e ∷ rest → nat_eq o 0 ≡ false
not_0 delta o e rest sites is =
    elim (nat_eq o 0) as (λ b. nat_eq o 0 ≡ b → b ≡ false) [
      | true ↦ λ t. absurd (none_there (held_from o delta) (length rest) (ap (λ (p : ℕ). held_from p delta) (eqb-true o 0 t) ∙ ap length (none_of_0 delta sites)) (ap length is))
      | false ↦ λ t. refl
    ] refl

-- The first entry of an origin that has a gap.
record FirstPast (log : Held) (delta : List Placed) (origin : ℕ) : Type 0 where
  pub first : Placed
  pub rest : List Placed
  pub from : first.origin ≡ origin
  pub head : entries_from origin delta ≡ first ∷ rest
  pub past : is_past log first ≡ true

first_past : (log : Held) (delta : List Placed) (origin least k : ℕ) (ms : List Draft) → entries_from origin delta ≡ numbered origin k ms → IsGap log delta origin least → FirstPast log delta origin
first_past log delta origin least k [] is gap =
    let x : Placed = record { origin = origin; n = least; message = gap.message } in
    absurd (false≢true (ap (λ (l : List Placed). holds l x) (sym is) ∙ sym (holds_from x delta) ∙ gap.among))
first_past log delta origin least k (m ∷ ms) is gap =
    let x : Placed = record { origin = origin; n = k; message = m } in
    let low : least ≤ k = gap.none_below x (first_among delta x (numbered origin (k + 1) ms) is) refl in
    let over : vector_of log origin + 1 < least = gap.past in
    record {
      first = x;
      rest = numbered origin (k + 1) ms;
      from = refl;
      head = is;
      past = lt-ltb (vector_of log origin + 1) k (omega (arith, over, low));
    }

begins : (log : Held) (delta : List Placed) (origin least : ℕ) → IsDelta delta → IsGap log delta origin least → FirstPast log delta origin
begins log delta origin least shape gap = let run = shape.runs origin in first_past log delta origin least run.first (log_of origin delta) run.follow gap

-- ---- from what is reported to the first gap, and back

gap_found : (log : Held) (delta : List Placed) (e : Placed) → IsDelta delta → Found log 0 delta e → IsFirstGap log delta e.origin e.n
gap_found log delta e shape f =
    let run = shape.runs e.origin in
    let number : e.n ≡ run.first = first_number e.origin run.first (log_of e.origin delta) e f.rest (sym run.follow ∙ f.head) in
    record {
      gap = record {
        message = e.message;
        among = first_among delta e f.rest f.head;
        none_below = λ x among from.
            let low : run.first ≤ x.n = at_least_first delta e.origin run.first (log_of e.origin delta) x run.follow from among in
            omega (arith, number, low);
        past = ltb-true (vector_of log e.origin + 1) e.n f.past;
      };
      first = λ other number gap.
          let p : FirstPast log delta other = begins log delta other number shape gap in
          elim (nat_lt other e.origin) as (λ b. nat_lt other e.origin ≡ b → e.origin ≤ other) [
            | true ↦ λ t.
                let head : entries_from p.first.origin delta ≡ p.first ∷ p.rest = ap (λ (o : ℕ). entries_from o delta) p.from ∙ p.head in
                let lower : p.first.origin < e.origin = subst (λ (o : ℕ). o < e.origin) (sym p.from) (ltb-true other e.origin t) in
                absurd (false≢true (sym (f.before p.first p.rest (not_0 delta p.first.origin p.first p.rest shape.sites head) lower head) ∙ p.past))
            | false ↦ λ t. ltb-false other e.origin t
          ] refl;
    }

abbrev gap_at : Held → Placed → DeltaFault
gap_at log entry = fault.Gap entry.origin (vector_of log entry.origin) entry.n

-- What a report of a gap says of the entry that was found.
record Reported (log : Held) (found : Option Placed) (origin have least : ℕ) : Type 0 where
  pub entry : Placed
  pub is_found : found ≡ Some entry
  pub of : origin ≡ entry.origin
  pub count : have ≡ vector_of log entry.origin
  pub number : least ≡ entry.n

reported : (log : Held) (found : Option Placed) (origin have least : ℕ) → fault_of_entry (gap_at log) found ≡ Some (fault.Gap origin have least) → Reported log found origin have least
reported log None origin have least is = cc
reported log (Some e) origin have least is = record { entry = e; is_found = refl; of = cc; count = cc; number = cc }

to_first : (log : Held) (delta : List Placed) (origin have least : ℕ) → IsDelta delta → gap_refusal log delta ≡ Some (fault.Gap origin have least) → (have ≡ vector_of log origin) × IsFirstGap log delta origin least
to_first log delta origin have least shape is =
    let r : Reported log (find (is_past log) (firsts_after 0 delta)) origin have least = reported log (find (is_past log) (firsts_after 0 delta)) origin have least is in
    let first : IsFirstGap log delta r.entry.origin r.entry.n = gap_found log delta r.entry shape (found log 0 delta r.entry shape.rises (λ o below. absurd (omega (arith, below))) r.is_found) in
    (r.count ∙ ap (vector_of log) (sym r.of), subst (λ (o : ℕ). IsFirstGap log delta o least) (sym r.of) (subst (λ (n : ℕ). IsFirstGap log delta r.entry.origin n) (sym r.number) first))

same_gap : (log : Held) (delta : List Placed) (origin a b : ℕ) → IsGap log delta origin a → IsGap log delta origin b → a ≡ b
same_gap log delta origin a b p q =
    le_antisymm (p.none_below (record { origin = origin; n = b; message = q.message }) q.among refl) (q.none_below (record { origin = origin; n = a; message = p.message }) p.among refl)

from_first : (log : Held) (delta : List Placed) (origin have least : ℕ) → IsDelta delta → have ≡ vector_of log origin → IsFirstGap log delta origin least → gap_refusal log delta ≡ Some (fault.Gap origin have least)
from_first log delta origin have least shape count g =
    elim (find (is_past log) (firsts_after 0 delta)) as (λ r. find (is_past log) (firsts_after 0 delta) ≡ r → fault_of_entry (gap_at log) r ≡ Some (fault.Gap origin have least)) [
      | None ↦ λ is.
          let none : list_any (is_past log) (firsts_after 0 delta) ≡ false = told_none (gap_at log) (is_past log) (firsts_after 0 delta) (ap (fault_of_entry (gap_at log)) is) in
          let p : FirstPast log delta origin = begins log delta origin least shape g.gap in
          absurd (false≢true (sym (first_reached log origin 0 delta p.first p.rest (not_0 delta origin p.first p.rest shape.sites p.head) none p.head) ∙ p.past))
      | Some e ↦ λ is.
          let f : IsFirstGap log delta e.origin e.n = gap_found log delta e shape (found log 0 delta e shape.rises (λ o below. absurd (omega (arith, below))) is) in
          let of : e.origin ≡ origin = le_antisymm (f.first origin least g.gap) (g.first e.origin e.n f.gap) in
          let number : e.n ≡ least = same_gap log delta origin e.n least (subst (λ (o : ℕ). IsGap log delta o e.n) of f.gap) g.gap in
          λ i. Some (fault.Gap (of i) ((ap (vector_of log) of ∙ sym count) i) (number i))
    ] refl

pub first_gap : ReportsTheFirstGap
first_gap log delta origin have least shape = (
  λ is. to_first log delta origin have least shape is,
  λ first. from_first log delta origin have least shape first.0 first.1,
)
