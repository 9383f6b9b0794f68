-- A version vector as a list of counts, that of origin 1 first. Read by an auditor.
use Rattle.std.specs.Prelude.{◌≡◌, ◌<◌, ◌+◌, ℕ, List, [], ◌∷◌, length, slice_index, ⊤}
use Rattle.sct_delta.specs.Entries.{Placed, held_from}
use Rattle.sct_delta.specs.Sites.{most_sites}
use Rattle.sct_delta.specs.VectorText.{Pair, counts_of}
use Rattle.sct_delta.specs.declared.fault.DeltaFault.{DeltaFault}
use Rattle.sct_delta.specs.declared.fault.DeltaFault.TheVariants as fault

-- each count with its origin; the first one is of the given origin
abbrev pub pairs_from : ℕ → List ℕ → List Pair
pairs_from origin [] = []
pairs_from origin (count ∷ counts) = (origin, count) ∷ pairs_from (origin + 1) counts

-- the count of an origin; 0 past the end of the list
abbrev pub count_of_origin : List ℕ → ℕ → ℕ
count_of_origin counts = counts_of (pairs_from 1 counts)

-- The counts are how many entries of each origin there are, of origin 1 first.
abbrev pub AreCounts : List Placed → List ℕ → Type 0
AreCounts arrivals counts = (k : ℕ) → k < length counts → slice_index counts k ≡ held_from (k + 1) arrivals

-- There are more counts than a group has sites. Or the call is out of memory.
abbrev pub RefusesCounts : List ℕ → DeltaFault → Type 0
RefusesCounts counts fault.BadSite = most_sites < length counts
RefusesCounts counts fault.Memory = ⊤
RefusesCounts counts other = ⊥
