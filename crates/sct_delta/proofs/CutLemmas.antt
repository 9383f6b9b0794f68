-- What the logs give for a vector is a delta, and of each origin what the vector lacks. Proof plumbing.
use Rattle.std.proofs.Common.{Bool, ◌&&◌, ◌≡◌, ◌∙◌, refl, ap, sym, subst, ℕ, ◌+◌, ◌<◌, true, false, List, [], ◌∷◌, ◌++◌, map, drop, cond, arith, nat_eq}
use Rattle.std.specs.Prelude.{Option, Some, None}
use Rattle.std.specs.Arc.{arc_value}
use Rattle.std.specs.declared.sync.Arc.{Arc}
use Rattle.std.specs.Global.{Vec, Global}
use Rattle.std.specs.BTreeMap.{IsOrdered, get, is_at}
use Rattle.std.specs.Map.{lookup, keys_of}
use Rattle.std.specs.Ordering.{nat_cmp, is_eq}
use Rattle.std.specs.declared.cmp.Ordering.TheVariants.{Less}
use Rattle.std.specs.List.{AllByRecursion, flat_map}
use Rattle.std.specs.List.Sorted.{IsStrictlySortedBy}
use Rattle.std.proofs.lemmas.Bool.Decides.{nat_tests}
use Rattle.std.proofs.Math.Seq.{drop-nil}
use Rattle.std.proofs.lemmas.List.{append-nil}
use Rattle.sct_message.specs.declared.draft.Draft.{Draft}
use Rattle.sct_delta.specs.Entries.{Placed, entries_from, numbered, place_order, IsDelta}
use Rattle.std.specs.List.{list_all}
use Rattle.sct_delta.specs.Sites.{is_site, is_group}
use Rattle.sct_delta.specs.Refusals.{has_site}
use Rattle.sct_delta.specs.Shelves.{above_in, log_on, messages_in_log}
use Rattle.sct_delta.specs.declared.shelf.Shelf.{Shelf}
use Rattle.sct_delta.proofs.EntryLemmas.{from-append, from-numbered, from-numbered_other, rises-append, all-append, rises-numbered, numbered_later, run_is, same_number}

is_less : (a b : ℕ) → nat_cmp a b ≡ Less → a < b
is_less a b e = grind (arith, nat_tests)

pub less_is : (a b : ℕ) → a < b → nat_cmp a b ≡ Less
less_is a b e = grind (arith, nat_tests)

pub lower_differs : (a b : ℕ) → a < b → nat_eq b a ≡ false
lower_differs a b e = grind (arith, nat_tests)

tied : (o k : ℕ) → is_eq (nat_cmp o k) ≡ true → k ≡ o
tied o k e = grind (arith, nat_tests)

untied : (o k : ℕ) → is_eq (nat_cmp o k) ≡ false → nat_eq k o ≡ false
untied o k e = grind (arith, nat_tests)

-- Lists of messages by origin, one after the other. X is what is kept at an origin, from which its list follows.
module _ {X : Type 0} (list : ℕ → X → List Draft) where
  -- the list of an origin that may be absent
  abbrev pub list_at : ℕ → Option X → List Draft
  list_at o None = []
  list_at o (Some x) = list o x

module _ {X : Type 0} (list : ℕ → X → List Draft) (count : ℕ → ℕ) where
  -- what the list of an origin has above its count
  abbrev pub part : ℕ × X → List Placed
  part e = numbered e.0 (count e.0 + 1) (drop (count e.0) (list e.0 e.1))

  -- nothing of an origin comes from the lists of later ones
  none_later : (o : ℕ) (es : List (ℕ × X)) → AllByRecursion (λ k. nat_cmp o k ≡ Less) (keys_of es) → entries_from o (flat_map part es) ≡ []
  none_later o [] later = refl
  none_later o (e ∷ es) later =
      from-append o (part e) (flat_map part es)
      ∙ (λ i. from-numbered_other o e.0 (count e.0 + 1) (drop (count e.0) (list e.0 e.1)) (lower_differs o e.0 (is_less _ _ later.0)) i ++ none_later o es later.1 i)

  -- what the list of the origin itself gives
  own : (o : ℕ) (e : ℕ × X) → e.0 ≡ o → entries_from o (part e) ≡ numbered o (count o + 1) (drop (count o) (list o e.1))
  own o e is =
      ap (λ (k : ℕ). entries_from o (numbered k (count k + 1) (drop (count k) (list k e.1)))) is
      ∙ from-numbered o (count o + 1) (drop (count o) (list o e.1))

  here : (o : ℕ) (e : ℕ × X) (es : List (ℕ × X)) → e.0 ≡ o → AllByRecursion (λ k. nat_cmp e.0 k ≡ Less) (keys_of es)
      → entries_from o (part e) ++ entries_from o (flat_map part es) ≡ numbered o (count o + 1) (drop (count o) (list o e.1))
  here o e es is later =
      (λ i. own o e is i ++ none_later o es (subst (λ (k : ℕ). AllByRecursion (λ j. nat_cmp k j ≡ Less) (keys_of es)) is later) i)
      ∙ append-nil (numbered o (count o + 1) (drop (count o) (list o e.1)))

  -- of an origin what its list has above the count
  pub from_parts : (o : ℕ) (es : List (ℕ × X)) → IsStrictlySortedBy nat_cmp (keys_of es)
      → entries_from o (flat_map part es) ≡ numbered o (count o + 1) (drop (count o) (list_at list o (lookup (is_at (nat_cmp o)) es)))
  unfolding IsStrictlySortedBy
  from_parts o [] rises = ap (numbered o (count o + 1)) (sym (drop-nil (count o)))
  from_parts o (e ∷ es) rises =
      from-append o (part e) (flat_map part es)
      ∙ elim (is_eq (nat_cmp o e.0)) as (λ b. is_eq (nat_cmp o e.0) ≡ b → entries_from o (part e) ++ entries_from o (flat_map part es)
      ≡ numbered o (count o + 1) (drop (count o) (list_at list o (cond b (Some e.1) (lookup (is_at (nat_cmp o)) es))))) [
        | true ↦ λ is. here o e es (tied o e.0 is) rises.0
        | false ↦ λ is. (λ i. from-numbered_other o e.0 (count e.0 + 1) (drop (count e.0) (list e.0 e.1)) (untied o e.0 is) i ++ from_parts o es rises.1 i)
      ] refl

  -- ---- they rise

  all_later : (entry : Placed) (es : List (ℕ × X)) → AllByRecursion (λ k. nat_cmp entry.origin k ≡ Less) (keys_of es)
      → AllByRecursion (λ y. place_order entry y ≡ Less) (flat_map part es)
  all_later entry [] later = tt
  all_later entry (e ∷ es) later =
      all-append place_order entry (part e) (flat_map part es)
      (numbered_later entry e.0 (count e.0 + 1) (drop (count e.0) (list e.0 e.1)) (is_less _ _ later.0))
      (all_later entry es later.1)

  numbered_before : (o n : ℕ) (ms : List Draft) (es : List (ℕ × X)) → AllByRecursion (λ k. nat_cmp o k ≡ Less) (keys_of es)
      → AllByRecursion (λ x. AllByRecursion (λ y. place_order x y ≡ Less) (flat_map part es)) (numbered o n ms)
  numbered_before o n [] es later = tt
  numbered_before o n (m ∷ ms) es later = (all_later (record { origin = o; n = n; message = m }) es later, numbered_before o (n + 1) ms es later)

  pub parts_rise : (es : List (ℕ × X)) → IsStrictlySortedBy nat_cmp (keys_of es) → IsStrictlySortedBy place_order (flat_map part es)
  unfolding IsStrictlySortedBy
  parts_rise [] rises = tt
  parts_rise (e ∷ es) rises =
      rises-append place_order (part e) (flat_map part es)
      (rises-numbered e.0 (count e.0 + 1) (drop (count e.0) (list e.0 e.1)))
      (parts_rise es rises.1)
      (numbered_before e.0 (count e.0 + 1) (drop (count e.0) (list e.0 e.1)) es rises.0)

-- ---- they are of sites

empty_not : (e : Placed) (es : List Placed) → (e ∷ es) ≡ [] → ⊥
empty_not e es is = cc

pub all_sites : (es : List Placed) → ((o : ℕ) → is_site o ≡ false → entries_from o es ≡ []) → list_all (λ entry. is_site entry.origin) es ≡ true
all_sites [] none = refl
all_sites (e ∷ es) none =
    elim (is_site e.origin) as (λ b. is_site e.origin ≡ b → (b && list_all (λ entry. is_site entry.origin) es) ≡ true) [
      | true ↦ λ t. all_sites es (λ o outside.
          elim (nat_eq e.origin o) as (λ b. cond b (e ∷ entries_from o es) (entries_from o es) ≡ [] → entries_from o es ≡ []) [
            | true ↦ λ u. absurd (empty_not e (entries_from o es) u)
            | false ↦ λ u. u
          ] (none o outside))
      | false ↦ λ t. absurd (empty_not e (entries_from e.origin es) (ap (λ (b : Bool). cond b (e ∷ entries_from e.origin es) (entries_from e.origin es)) (sym (same_number e.origin)) ∙ none e.origin t))
    ] refl

pub no_site_of_group : (group o : ℕ) → is_group group ≡ true → is_site o ≡ false → has_site group o ≡ false
no_site_of_group group o small outside = grind (arith, nat_tests)

-- ---- the logs of a shelf

abbrev messages_in_list : ℕ → Vec (Arc Draft Global) → List Draft
messages_in_list o log = map arc_value log.items

list_is : (o : ℕ) (found : Option (Vec (Arc Draft Global))) → list_at messages_in_list o found ≡ messages_in_log found
list_is o None = refl
list_is o (Some log) = refl

-- what is above a count has of each origin what is numbered above it
pub above_is_cut : (count : ℕ → ℕ) (shelf : Shelf) → IsOrdered nat_cmp shelf.logs → (o : ℕ) → entries_from o (above_in count shelf) ≡ numbered o (count o + 1) (drop (count o) (log_on shelf o))
above_is_cut count shelf rises o =
    from_parts messages_in_list count o shelf.logs.entries rises
    ∙ ap (λ (l : List Draft). numbered o (count o + 1) (drop (count o) l)) (list_is o (get nat_cmp shelf.logs o))

-- and is a delta
pub above_is_delta : (count : ℕ → ℕ) (shelf : Shelf) (group : ℕ) → IsOrdered nat_cmp shelf.logs → is_group group ≡ true
    → ((o : ℕ) → has_site group o ≡ false → log_on shelf o ≡ []) → IsDelta (above_in count shelf)
above_is_delta count shelf group rises small inside = record {
  runs = λ o. run_is o (count o + 1) (drop (count o) (log_on shelf o)) (above_in count shelf) (omega arith) (above_is_cut count shelf rises o);
  rises = parts_rise messages_in_list count shelf.logs.entries rises;
  sites = all_sites (above_in count shelf) (λ o outside.
      above_is_cut count shelf rises o
      ∙ ap (λ (l : List Draft). numbered o (count o + 1) (drop (count o) l)) (inside o (no_site_of_group group o small outside))
      ∙ ap (numbered o (count o + 1)) (drop-nil (count o)));
}
