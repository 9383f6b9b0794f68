-- The place that is reported of entries and of pairs is the first at which they are out of order. Proof plumbing.
use Rattle.std.proofs.Common.{ℕ, zero, suc, ◌≡◌, ◌+◌, ◌<◌, ◌≤◌, ◌∷◌, [], List, Bool, true, false, cond, Option, Some, None, ◌&&◌, map, take, refl, sym, ap, ◌∙◌, arith}
use Rattle.std.specs.Prelude.{nat_lt, option_map, ◌↔◌}
use Rattle.std.specs.List.{AllByRecursion, list_all}
use Rattle.std.specs.List.Sorted.{IsStrictlySortedBy}
use Rattle.std.specs.Ordering.{nat_cmp}
use Rattle.std.specs.declared.cmp.Ordering.TheVariants.{Less}
use Rattle.std.proofs.lemmas.Bool.{and_parts, ltb-true}
use Rattle.std.proofs.lemmas.Bool.Decides.{nat_tests}
use Rattle.sct_delta.specs.Entries.{Placed, IsDelta}
use Rattle.sct_delta.specs.Laws.{EndsAt, MakeVector, PairsMakeAVector, ReportsTheFirstEntry, ReportsTheFirstPair}
use Rattle.sct_delta.specs.Shapes.{are_of_sites, are_origins_sites, delta_refusal, first_break, first_fall, may_be_next, vector_refusal}
use Rattle.sct_delta.specs.Sites.{is_site}
use Rattle.sct_delta.specs.declared.fault.DeltaFault.TheVariants as fault
use Rattle.sct_delta.proofs.ShapeLemmas.{delta_from_unbroken, delta_unbroken, refused_nowhere, unbroken}
use Rattle.sct_delta.proofs.CutLemmas.{less_is}

-- ---- a place that is reported

-- a place, if it is below a bound
abbrev pub below : ℕ → Option ℕ → Option ℕ
below bound None = None
below bound (Some place) = cond (nat_lt place bound) (Some place) None

not_yet : (place count : ℕ) → count < place → nat_lt place (1 + count) ≡ false
not_yet place count earlier = grind (arith, nat_tests)

reached : (place : ℕ) → nat_lt place (1 + place) ≡ true
reached place = grind (arith, nat_tests)

in_order : (a b : ℕ) → nat_lt a b ≡ false → nat_lt b a ≡ false → a ≡ b
in_order a b e f = grind (arith, nat_tests)

none_is_some : (place : ℕ) → None ≡ Some place → ⊥
none_is_some place e = cc

-- a place that is reported of each beginning exactly if it is reached is the first at which the property ends
module _ {X : Type 0} (P : List X → Type 0) (report : List X → Option ℕ) (xs : List X)
    (to : (count : ℕ) → P (take count xs) → report (take count xs) ≡ None)
    (from : (count : ℕ) → report (take count xs) ≡ None → P (take count xs))
    (cut : (count : ℕ) → report (take count xs) ≡ below (1 + count) (report xs)) where
  pub ends_where_reported : (place : ℕ) → report xs ≡ Some place → EndsAt P xs place
  ends_where_reported place is = record {
    before = λ count earlier. from count (cut count ∙ ap (below (1 + count)) is ∙ ap (λ (b : Bool). cond b (Some place) None) (not_yet place count earlier));
    at = λ still. none_is_some place (sym (to place still) ∙ cut place ∙ ap (below (1 + place)) is ∙ ap (λ (b : Bool). cond b (Some place) None) (reached place));
  }

  pub reported_where_it_ends : (place : ℕ) → EndsAt P xs place → report xs ≡ Some place
  reported_where_it_ends place ends =
      elim (report xs) as (λ r. report xs ≡ r → r ≡ Some place) [
        | None ↦ λ is. absurd (ends.at (from place (cut place ∙ ap (below (1 + place)) is)))
        | Some other ↦ λ is.
            let not_after : nat_lt place other ≡ false =
            elim (nat_lt place other) as (λ b. nat_lt place other ≡ b → b ≡ false) [
              | true ↦ λ t. absurd (ends.at (from place (cut place ∙ ap (below (1 + place)) is ∙ ap (λ (b : Bool). cond b (Some other) None) (not_yet other place (ltb-true place other t)))))
              | false ↦ λ t. refl
            ] refl in
            let not_before : nat_lt other place ≡ false =
            elim (nat_lt other place) as (λ b. nat_lt other place ≡ b → b ≡ false) [
              | true ↦ λ t. absurd (none_is_some other (sym (to other (ends.before other (ltb-true other place t))) ∙ cut other ∙ ap (below (1 + other)) is ∙ ap (λ (b : Bool). cond b (Some other) None) (reached other)))
              | false ↦ λ t. refl
            ] refl in
            ap (λ (p : ℕ). Some p) (in_order other place not_before not_after)
      ] refl

-- ---- a walk over a list and over its beginning

past_it : (place bound : ℕ) → bound ≤ place → nat_lt place bound ≡ false
past_it place bound e = grind (arith, nat_tests)

inside_it : (place k : ℕ) → nat_lt place (place + suc k) ≡ true
inside_it place k = grind (arith, nat_tests)

module _ {X : Type 0} (p : X → Bool) where
  pub all_taken : (k : ℕ) (xs : List X) → list_all p xs ≡ true → list_all p (take k xs) ≡ true
  all_taken zero xs all = refl
  all_taken (suc k) [] all = refl
  all_taken (suc k) (x ∷ xs) all =
      let parts : (p x ≡ true) × (list_all p xs ≡ true) = and_parts (p x) (list_all p xs) all in
      λ i. parts.0 i && all_taken k xs parts.1 i

no_break_yet : (place origin n bound : ℕ) (es : List Placed) → bound ≤ place → below bound (first_break place origin n es) ≡ None
no_break_yet place origin n bound [] early = refl
no_break_yet place origin n bound (e ∷ es) early =
    elim (may_be_next origin n e) as (λ b. below bound (cond b (first_break (place + 1) e.origin e.n es) (Some place)) ≡ None) [
      | true ↦ no_break_yet (place + 1) e.origin e.n bound es (omega (arith, early))
      | false ↦ ap (λ (b : Bool). cond b (Some place) None) (past_it place bound early)
    ]

break_taken : (place origin n k : ℕ) (es : List Placed) → first_break place origin n (take k es) ≡ below (place + k) (first_break place origin n es)
break_taken place origin n zero es = sym (no_break_yet place origin n (place + 0) es (omega arith))
break_taken place origin n (suc k) [] = refl
break_taken place origin n (suc k) (e ∷ es) =
    elim (may_be_next origin n e) as (λ b. cond b (first_break (place + 1) e.origin e.n (take k es)) (Some place) ≡ below (place + suc k) (cond b (first_break (place + 1) e.origin e.n es) (Some place))) [
      | true ↦ break_taken (place + 1) e.origin e.n k es ∙ ap (λ (m : ℕ). below m (first_break (place + 1) e.origin e.n es)) (omega arith)
      | false ↦ sym (ap (λ (b : Bool). cond b (Some place) None) (inside_it place k))
    ]

no_fall_yet : (place before bound : ℕ) (ps : List (ℕ × ℕ)) → bound ≤ place → below bound (first_fall place before ps) ≡ None
no_fall_yet place before bound [] early = refl
no_fall_yet place before bound (p ∷ ps) early =
    elim (nat_lt before p.0) as (λ b. below bound (cond b (first_fall (place + 1) p.0 ps) (Some place)) ≡ None) [
      | true ↦ no_fall_yet (place + 1) p.0 bound ps (omega (arith, early))
      | false ↦ ap (λ (b : Bool). cond b (Some place) None) (past_it place bound early)
    ]

fall_taken : (place before k : ℕ) (ps : List (ℕ × ℕ)) → first_fall place before (take k ps) ≡ below (place + k) (first_fall place before ps)
fall_taken place before zero ps = sym (no_fall_yet place before (place + 0) ps (omega arith))
fall_taken place before (suc k) [] = refl
fall_taken place before (suc k) (p ∷ ps) =
    elim (nat_lt before p.0) as (λ b. cond b (first_fall (place + 1) p.0 (take k ps)) (Some place) ≡ below (place + suc k) (cond b (first_fall (place + 1) p.0 ps) (Some place))) [
      | true ↦ fall_taken (place + 1) p.0 k ps ∙ ap (λ (m : ℕ). below m (first_fall (place + 1) p.0 ps)) (omega arith)
      | false ↦ sym (ap (λ (b : Bool). cond b (Some place) None) (inside_it place k))
    ]

-- ---- entries

-- a refusal with a place comes of sites in a wrong order
refused_at : (sites : Bool) (found : Option ℕ) (place : ℕ) → cond sites (option_map (λ p. fault.BadDelta p) found) (Some fault.BadSite) ≡ Some (fault.BadDelta place) → (sites ≡ true) × (found ≡ Some place)
refused_at true None place e = cc
refused_at true (Some other) place e = (refl, cc)
refused_at false found place e = cc

at_place : (sites : Bool) (found : Option ℕ) (place : ℕ) → sites ≡ true → found ≡ Some place → cond sites (option_map (λ p. fault.BadDelta p) found) (Some fault.BadSite) ≡ Some (fault.BadDelta place)
at_place sites found place all is = λ i. cond (all i) (option_map (λ p. fault.BadDelta p) (is i)) (Some fault.BadSite)

entry_ends : (entries : List Placed) → are_of_sites entries ≡ true → (place : ℕ) → (first_break 1 0 0 entries ≡ Some place) ↔ EndsAt IsDelta entries place
entry_ends entries sites place = (
  ends_where_reported IsDelta (first_break 1 0 0) entries (λ k. delta_unbroken (take k entries))
      (λ k. delta_from_unbroken (take k entries) (all_taken (λ e. is_site e.origin) k entries sites)) (λ k. break_taken 1 0 0 k entries) place,
  reported_where_it_ends IsDelta (first_break 1 0 0) entries (λ k. delta_unbroken (take k entries))
      (λ k. delta_from_unbroken (take k entries) (all_taken (λ e. is_site e.origin) k entries sites)) (λ k. break_taken 1 0 0 k entries) place,
)

pub first_entry : ReportsTheFirstEntry
unfolding delta_refusal
first_entry entries place = (
  λ refused. let parts = refused_at (are_of_sites entries) (first_break 1 0 0 entries) place refused in
      (parts.0, (entry_ends entries parts.0 place).0 parts.1),
  λ ends. at_place (are_of_sites entries) (first_break 1 0 0 entries) place ends.0 ((entry_ends entries ends.0 place).1 ends.1),
)

-- ---- pairs

abbrev origins_of : List (ℕ × ℕ) → List ℕ
origins_of ps = map (λ p. p.0) ps

than_less : (a b : ℕ) → nat_cmp a b ≡ Less → nat_lt a b ≡ true
than_less a b less = grind (arith, nat_tests, less)

all_higher : (place before a : ℕ) (ps : List (ℕ × ℕ)) → first_fall place before ps ≡ None → a ≤ before → AllByRecursion (λ o. nat_cmp a o ≡ Less) (origins_of ps)
all_higher place before a [] none low = tt
all_higher place before a (p ∷ ps) none low =
    let parts = unbroken (nat_lt before p.0) (first_fall (place + 1) p.0 ps) place none in
    let above : before < p.0 = ltb-true before p.0 parts.0 in
    (less_is a p.0 (omega (arith, above, low)), all_higher (place + 1) p.0 a ps parts.1 (omega (arith, above, low)))

ascend_unfallen : (place before : ℕ) (ps : List (ℕ × ℕ)) → first_fall place before ps ≡ None → IsStrictlySortedBy nat_cmp (origins_of ps)
unfolding IsStrictlySortedBy
ascend_unfallen place before [] none = tt
ascend_unfallen place before (p ∷ ps) none =
    let parts = unbroken (nat_lt before p.0) (first_fall (place + 1) p.0 ps) place none in
    (all_higher (place + 1) p.0 p.0 ps parts.1 (omega arith), ascend_unfallen (place + 1) p.0 ps parts.1)

unfallen_ascending : (place before : ℕ) (ps : List (ℕ × ℕ)) → AllByRecursion (λ o. nat_cmp before o ≡ Less) (origins_of ps) → IsStrictlySortedBy nat_cmp (origins_of ps) → first_fall place before ps ≡ None
unfolding IsStrictlySortedBy
unfallen_ascending place before [] higher sorted = refl
unfallen_ascending place before (p ∷ ps) higher sorted =
    (λ i. cond (than_less before p.0 higher.0 i) (first_fall (place + 1) p.0 ps) (Some place)) ∙ unfallen_ascending (place + 1) p.0 ps sorted.0 sorted.1

site_above_0 : (o : ℕ) → is_site o ≡ true → nat_cmp 0 o ≡ Less
site_above_0 o site = grind (arith, nat_tests, site)

sites_above_0 : (ps : List (ℕ × ℕ)) → are_origins_sites ps ≡ true → AllByRecursion (λ o. nat_cmp 0 o ≡ Less) (origins_of ps)
sites_above_0 [] all = tt
sites_above_0 (p ∷ ps) all =
    let parts : (is_site p.0 ≡ true) × (are_origins_sites ps ≡ true) = and_parts (is_site p.0) (are_origins_sites ps) all in
    (site_above_0 p.0 parts.0, sites_above_0 ps parts.1)

vector_from : (ps : List (ℕ × ℕ)) → are_origins_sites ps ≡ true → first_fall 1 0 ps ≡ None → MakeVector ps
vector_from ps sites none = record { sites = sites; ascend = ascend_unfallen 1 0 ps none }

vector_unfallen : (ps : List (ℕ × ℕ)) → MakeVector ps → first_fall 1 0 ps ≡ None
vector_unfallen ps vector = unfallen_ascending 1 0 ps (sites_above_0 ps vector.sites) vector.ascend

pub make_vector : PairsMakeAVector
unfolding vector_refusal
make_vector pairs = (
  λ none. let parts = refused_nowhere (are_origins_sites pairs) (first_fall 1 0 pairs) none in vector_from pairs parts.0 parts.1,
  λ vector. λ i. cond (vector.sites i) (option_map (λ p. fault.BadDelta p) (vector_unfallen pairs vector i)) (Some fault.BadSite),
)

pair_ends : (pairs : List (ℕ × ℕ)) → are_origins_sites pairs ≡ true → (place : ℕ) → (first_fall 1 0 pairs ≡ Some place) ↔ EndsAt MakeVector pairs place
pair_ends pairs sites place = (
  ends_where_reported MakeVector (first_fall 1 0) pairs (λ k. vector_unfallen (take k pairs))
      (λ k. vector_from (take k pairs) (all_taken (λ p. is_site p.0) k pairs sites)) (λ k. fall_taken 1 0 k pairs) place,
  reported_where_it_ends MakeVector (first_fall 1 0) pairs (λ k. vector_unfallen (take k pairs))
      (λ k. vector_from (take k pairs) (all_taken (λ p. is_site p.0) k pairs sites)) (λ k. fall_taken 1 0 k pairs) place,
)

pub first_pair : ReportsTheFirstPair
unfolding vector_refusal
first_pair pairs place = (
  λ refused. let parts = refused_at (are_origins_sites pairs) (first_fall 1 0 pairs) place refused in
      (parts.0, (pair_ends pairs parts.0 place).0 parts.1),
  λ ends. at_place (are_origins_sites pairs) (first_fall 1 0 pairs) place ends.0 ((pair_ends pairs ends.0 place).1 ends.1),
)
