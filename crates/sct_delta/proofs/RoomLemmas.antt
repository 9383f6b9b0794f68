-- How many entries of an origin stand before and after a place of a delta. Proof plumbing.
use Rattle.std.proofs.Common.{◌≡◌, ◌≢◌, ◌∙◌, refl, ap, sym, subst, ℕ, ◌+◌, ◌<◌, ◌≤◌, Bool, true, false, cond, List, [], ◌∷◌, filter, length, take, drop, get_or, arith, nat_eq, length-append, add-one, zero, suc}
use Rattle.std.specs.declared.cmp.Ordering.TheVariants.{Less}
use Rattle.std.specs.List.{AllByRecursion}
use Rattle.std.specs.List.Sorted.{IsStrictlySortedBy}
use Rattle.std.specs.Ordering.{nat_cmp, ordering_then}
use Rattle.std.proofs.Math.Seq.{drop-cons}
use Rattle.std.proofs.lemmas.Bool.{eqb-true}
use Rattle.std.proofs.lemmas.Bool.Decides.{nat_tests}
use Rattle.std.proofs.lemmas.List.{take-append-drop}
use Rattle.std.proofs.lemmas.List.Elements.{filter-append}
use Rattle.std.proofs.lemmas.List.Filters.{length-filter_more}
use Rattle.sct_delta.specs.Entries.{Placed, is_from, held_from, place_order}
use Rattle.sct_delta.proofs.EntryLemmas.{same_number}

pub take_more : (o i : ℕ) (es : List Placed) (e : Placed) → i < length es → e ≡ get_or es i e
    → held_from o (take (i + 1) es) ≡ held_from o (take i es) + cond (nat_eq e.origin o) 1 0
take_more o i es e inside is =
    length-filter_more (is_from o) es i e inside
    ∙ ap (λ (x : Placed). held_from o (take i es) + cond (is_from o x) 1 0) (sym is)

one_or_none : (o : ℕ) (e : Placed) (es : List Placed) → held_from o (e ∷ es) ≡ cond (nat_eq e.origin o) 1 0 + held_from o es
one_or_none o e es = elim (nat_eq e.origin o) as (λ b. length (cond b (e ∷ filter (is_from o) es) (filter (is_from o) es)) ≡ cond b 1 0 + held_from o es) [
  | true ↦ omega arith
  | false ↦ omega arith
]

pub split_at : (i : ℕ) (es : List Placed) (e : Placed) → i < length es → e ≡ get_or es i e → drop i es ≡ e ∷ drop (i + 1) es
split_at i es e inside is = drop-cons es i e inside ∙ (λ j. sym is j ∷ drop (sym (add-one i) j) es)

pub drop_more : (o i : ℕ) (es : List Placed) (e : Placed) → i < length es → e ≡ get_or es i e
    → held_from o (drop i es) ≡ cond (nat_eq e.origin o) 1 0 + held_from o (drop (i + 1) es)
drop_more o i es e inside is = ap (held_from o) (split_at i es e inside is) ∙ one_or_none o e (drop (i + 1) es)

pub held_parts : (o i : ℕ) (es : List Placed) → held_from o (take i es) + held_from o (drop i es) ≡ held_from o es
held_parts o i es =
    sym (length-append (filter (is_from o) (take i es)) (filter (is_from o) (drop i es)))
    ∙ ap length (sym (filter-append (is_from o) (take i es) (drop i es)))
    ∙ ap (held_from o) (take-append-drop i es)

not_before : (p q k n o : ℕ) → ordering_then (nat_cmp p q) (nat_cmp k n) ≡ Less → o < p → nat_eq q o ≡ false
not_before p q k n o less before = grind (arith, nat_tests)

pub none_of_earlier : (o : ℕ) (e : Placed) (es : List Placed) → AllByRecursion (λ y. place_order e y ≡ Less) es → o < e.origin → held_from o es ≡ 0
none_of_earlier o e [] later before = refl
none_of_earlier o e (y ∷ es) later before = rw (not_before e.origin y.origin e.n y.n o later.0 before) (none_of_earlier o e es later.1 before)

rises_drop : (i : ℕ) (es : List Placed) → IsStrictlySortedBy place_order es → IsStrictlySortedBy place_order (drop i es)
unfolding IsStrictlySortedBy
rises_drop zero es rises = rises
rises_drop (suc i) [] rises = tt
rises_drop (suc i) (e ∷ es) rises = rises_drop i es rises.1

pub first_rises : (e : Placed) (es : List Placed) → IsStrictlySortedBy place_order (e ∷ es) → AllByRecursion (λ y. place_order e y ≡ Less) es
unfolding IsStrictlySortedBy
first_rises e es rises = rises.0

-- after an entry of a delta none of an earlier origin comes
pub none_before : (o i : ℕ) (es : List Placed) (e : Placed) → i < length es → e ≡ get_or es i e → IsStrictlySortedBy place_order es
    → o < e.origin → held_from o (drop (i + 1) es) ≡ 0
none_before o i es e inside is rises before =
    none_of_earlier o e (drop (i + 1) es) (first_rises e (drop (i + 1) es) (subst (λ (l : List Placed). IsStrictlySortedBy place_order l) (split_at i es e inside is) (rises_drop i es rises))) before

-- The counts before an entry: of its own origin, where the last origin was this one or another.
pub record Counted (e : Placed) (i : ℕ) (es : List Placed) (previous places : ℕ) : Type 0 where
  pub last : previous ≡ e.origin
  pub counted : places ≡ held_from e.origin (take i es)

above : (p o n k : ℕ) → n ≡ 1 + k → (o < p → n ≡ 0) → o ≢ p → p < o
above p o n k more none other = grind arith

-- an entry of another origin than the last stands at a later one
pub after : (e : Placed) (i : ℕ) (es : List Placed) (previous : ℕ) → i < length es → e ≡ get_or es i e
    → ((o : ℕ) → o < previous → held_from o (drop i es) ≡ 0) → e.origin ≢ previous → previous < e.origin
after e i es previous inside is earlier other =
    let more : held_from e.origin (drop i es) ≡ 1 + held_from e.origin (drop (i + 1) es) =
    drop_more e.origin i es e inside is ∙ ap (λ (b : Bool). cond b 1 0 + held_from e.origin (drop (i + 1) es)) (same_number e.origin) in
    above previous e.origin (held_from e.origin (drop i es)) (held_from e.origin (drop (i + 1) es)) more (earlier e.origin) other

-- `origin` is the origin of the entry as the code reads it, `last` and `counted` are what it has after it looked at it
pub same_origin : (e : Placed) (i : ℕ) (es : List Placed) (previous places origin last counted : ℕ) → e.origin ≡ origin
    → places ≡ held_from previous (take i es) → origin ≡ previous → last ≡ previous → counted ≡ places → Counted e i es last counted
same_origin e i es previous places origin last counted view so_far is last_is counted_is = record {
  last = last_is ∙ sym is ∙ sym view;
  counted = counted_is ∙ so_far ∙ ap (λ (o : ℕ). held_from o (take i es)) (sym is ∙ sym view);
}

pub new_origin : (e : Placed) (i : ℕ) (es : List Placed) (previous origin last counted : ℕ) → e.origin ≡ origin → i < length es → e ≡ get_or es i e
    → ((o : ℕ) → previous < o → held_from o (take i es) ≡ 0) → ((o : ℕ) → o < previous → held_from o (drop i es) ≡ 0)
    → origin ≢ previous → last ≡ origin → counted ≡ 0 → Counted e i es last counted
new_origin e i es previous origin last counted view inside is later earlier other last_is counted_is = record {
  last = last_is ∙ sym view;
  counted = counted_is ∙ sym (later e.origin (after e i es previous inside is earlier (λ same. other (sym view ∙ same))));
}

-- ---- one entry more

differ : (a b : ℕ) → a < b → nat_eq a b ≡ false
differ a b e = grind (arith, nat_tests)

pub own_more : (i : ℕ) (es : List Placed) (e : Placed) → i < length es → e ≡ get_or es i e
    → held_from e.origin (take (i + 1) es) ≡ held_from e.origin (take i es) + 1
own_more i es e inside is =
    take_more e.origin i es e inside is ∙ ap (λ (b : Bool). held_from e.origin (take i es) + cond b 1 0) (same_number e.origin)

other_more : (o i : ℕ) (es : List Placed) (e : Placed) → i < length es → e ≡ get_or es i e → nat_eq e.origin o ≡ false
    → held_from o (take (i + 1) es) ≡ held_from o (take i es)
other_more o i es e inside is other =
    take_more o i es e inside is ∙ ap (λ (b : Bool). held_from o (take i es) + cond b 1 0) other ∙ omega arith

-- the entries of the last origin are counted with this one
pub places_more : (i : ℕ) (es : List Placed) (e : Placed) (last counted : ℕ) → i < length es → e ≡ get_or es i e → Counted e i es last counted
    → counted + 1 ≡ held_from last (take (i + 1) es)
places_more i es e last counted inside is k =
    ap (λ (n : ℕ). n + 1) k.counted ∙ sym (own_more i es e inside is) ∙ ap (λ (o : ℕ). held_from o (take (i + 1) es)) (sym k.last)

-- they are no more than there are of that origin
pub places_fit : (i : ℕ) (es : List Placed) (e : Placed) (last counted : ℕ) → i < length es → e ≡ get_or es i e → Counted e i es last counted
    → counted + 1 ≤ held_from e.origin es
places_fit i es e last counted inside is k =
    let so_far : counted ≡ held_from e.origin (take i es) = k.counted in
    omega (arith, own_more i es e inside is, held_parts e.origin (i + 1) es)

-- none of a later origin has come
pub later_more : (i : ℕ) (es : List Placed) (e : Placed) (last counted previous : ℕ) → i < length es → e ≡ get_or es i e → Counted e i es last counted
    → ((o : ℕ) → previous < o → held_from o (take i es) ≡ 0) → previous ≤ e.origin
    → (o : ℕ) → last < o → held_from o (take (i + 1) es) ≡ 0
later_more i es e last counted previous inside is k later up o above =
    let last_is : last ≡ e.origin = k.last in
    other_more o i es e inside is (differ e.origin o (omega arith)) ∙ later o (omega arith)

-- there is room for the entries with this one
pub room_more : (i : ℕ) (es : List Placed) (e : Placed) (last counted : ℕ) (old new : ℕ → ℕ) → i < length es → e ≡ get_or es i e → Counted e i es last counted
    → ((o : ℕ) → held_from o (take i es) ≤ old o) → ((o : ℕ) → old o ≤ new o) → counted + 1 ≤ new e.origin
    → (o : ℕ) → held_from o (take (i + 1) es) ≤ new o
room_more i es e last counted old new inside is k room grows own o =
    elim (nat_eq e.origin o) as (λ b. nat_eq e.origin o ≡ b → held_from o (take (i + 1) es) ≤ new o) [
      | true ↦ λ t. subst (λ (p : ℕ). held_from p (take (i + 1) es) ≤ new p) (eqb-true e.origin o t)
          (let c : counted ≡ held_from e.origin (take i es) = k.counted in omega (arith, own_more i es e inside is))
      | false ↦ λ t. omega (arith, other_more o i es e inside is t, room o, grows o)
    ] refl

-- ---- fewer entries take no more room

pub held_fewer : (o : ℕ) (p : Placed → Bool) (es : List Placed) → held_from o (filter p es) ≤ held_from o es
held_fewer o p [] = omega arith
held_fewer o p (e ∷ es) =
    elim (p e) as (λ b. held_from o (cond b (e ∷ filter p es) (filter p es)) ≤ held_from o (e ∷ es)) [
      | true ↦ omega (arith, one_or_none o e (filter p es), one_or_none o e es, held_fewer o p es)
      | false ↦ omega (arith, one_or_none o e es, held_fewer o p es)
    ]
