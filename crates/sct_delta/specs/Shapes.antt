-- Which entries make a delta, and why others do not. Read by an auditor. The law `entries_make_a_delta` says that
-- entries without a refusal are those of `IsDelta`.
use Rattle.std.specs.Prelude.{ℕ, ◌+◌, ◌&&◌, Bool, List, [], ◌∷◌, nat_eq, nat_le, nat_lt, Option, Some, None, option_map, if◌then◌else◌}
use Rattle.std.specs.List.{list_all}
use Rattle.sct_delta.specs.declared.fault.DeltaFault.{DeltaFault}
use Rattle.sct_delta.specs.declared.fault.DeltaFault.TheVariants as fault
use Rattle.sct_delta.specs.Sites.{is_site, is_site_of_form_1}
use Rattle.sct_delta.specs.Entries.{Placed}

-- The entry may follow the one before it: it has the next number of the same origin, or it begins a later origin. No
-- number is 0. Before the first entry, origin and number are 0.
abbrev pub may_be_next : ℕ → ℕ → Placed → Bool
may_be_next origin n entry =
    nat_le 1 entry.n && (if nat_eq origin entry.origin then nat_eq (n + 1) entry.n else nat_lt origin entry.origin)

-- the place of the first entry that may not follow the one before it; the first entry has the given place
abbrev pub first_break : ℕ → ℕ → ℕ → List Placed → Option ℕ
first_break place origin n [] = None
first_break place origin n (entry ∷ entries) =
    if may_be_next origin n entry then first_break (place + 1) entry.origin entry.n entries else Some place

-- each entry is of a site
abbrev pub are_of_sites : List Placed → Bool
are_of_sites entries = list_all (λ entry. is_site entry.origin) entries

-- each entry is of a site that form 1 of the delta text has
abbrev pub are_of_form_1 : List Placed → Bool
are_of_form_1 entries = list_all (λ entry. is_site_of_form_1 entry.origin) entries

-- why entries do not make a delta: 44 if an origin is not a site, then 45 with the place, from 1,
-- of the first entry that breaks the order (law `the_entry_reported_is_the_first`)
unfoldable pub delta_refusal : List Placed → Option DeltaFault
delta_refusal entries =
    if are_of_sites entries then option_map (λ place. fault.BadDelta place) (first_break 1 0 0 entries)
    else Some fault.BadSite

-- ---- Pairs of an origin and its count, which make a version vector.

-- each origin is a site
abbrev pub are_origins_sites : List (ℕ × ℕ) → Bool
are_origins_sites pairs = list_all (λ pair. is_site pair.0) pairs

-- the place of the first pair whose origin is not above the one before it; the first pair has the given place
abbrev pub first_fall : ℕ → ℕ → List (ℕ × ℕ) → Option ℕ
first_fall place before [] = None
first_fall place before (pair ∷ pairs) = if nat_lt before pair.0 then first_fall (place + 1) pair.0 pairs else Some place

-- why pairs do not make a vector: 44 if an origin is not a site, then 45 with the place, from
-- 1, of the first pair that does not ascend (laws `pairs_make_a_vector` and `the_pair_reported_is_the_first`)
unfoldable pub vector_refusal : List (ℕ × ℕ) → Option DeltaFault
vector_refusal pairs =
    if are_origins_sites pairs then option_map (λ place. fault.BadDelta place) (first_fall 1 0 pairs) else Some fault.BadSite

-- the count that pairs give to an origin: that of the last pair that names it, or else the count before
abbrev pub count_among : List (ℕ × ℕ) → ℕ → ℕ → ℕ
count_among [] origin before = before
count_among (pair ∷ pairs) origin before = count_among pairs origin (if nat_eq pair.0 origin then pair.1 else before)
