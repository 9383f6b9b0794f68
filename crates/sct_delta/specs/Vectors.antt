-- Version vectors, read as counts. Read by an auditor.
use Rattle.std.specs.Prelude.{◌≡◌, ◌≤◌, ◌+◌, ◌&&◌, ℕ, Bool, Option, Some, None, is_some, nat_eq, true}
use Rattle.std.specs.List.{list_all, All}
use Rattle.std.specs.BTreeMap.{get, keys}
use Rattle.std.specs.Ordering.{nat_cmp}
use Rattle.sct_delta.specs.declared.vector.Vector.{Vector}

-- a count that may be absent
abbrev pub count_or_0 : Option ℕ → ℕ
count_or_0 None = 0
count_or_0 (Some count) = count

-- how many entries of an origin a vector counts; 0 if it does not name the origin
abbrev pub count_in : Vector → ℕ → ℕ
count_in vector origin = count_or_0 (get nat_cmp vector.counts origin)

-- the same count at each origin
abbrev pub CountAlike : Vector → Vector → Type 0
CountAlike a b = (origin : ℕ) → count_in a origin ≡ count_in b origin

-- the vector has a place for the count of the origin, which may be 0
abbrev pub Names : Vector → ℕ → Type 0
Names vector origin = is_some (get nat_cmp vector.counts origin) ≡ true

-- each count that is kept is at least 1
abbrev pub HasNoZero : Vector → Type 0
HasNoZero vector = All (λ kept. 1 ≤ kept.1) vector.counts.entries

-- each count that is kept is at least 1, or an entry of its origin is to come
abbrev pub HasZeroIfDue : (ℕ → ℕ) → Vector → Type 0
HasZeroIfDue due vector = All (λ kept. 1 ≤ kept.1 + due kept.0) vector.counts.entries

-- both count the same at each origin that the first one names
abbrev pub counted_alike : Vector → Vector → Bool
counted_alike a b = list_all (λ origin. nat_eq (count_in a origin) (count_in b origin)) (keys a.counts)

-- both count the same at each origin that either of them names, and therefore at each origin
-- (law `vectors_are_equal_by_their_counts`)
unfoldable pub same_counts : Vector → Vector → Bool
same_counts a b = counted_alike a b && counted_alike b a
