-- The data of a world, and how it follows from the entries that its sites hold. Read by an auditor.
use Rattle.std.specs.Prelude.{◌≡◌, ◌+◌, ◌-◌, ◌||◌, ℕ, true, false, List, [], ◌∷◌, map, length, nat_lt, slice_index_or}
use Rattle.std.specs.List.{All}
use Rattle.sct_delta.specs.Entries.{Placed, IsDelta}
use Rattle.sct_site.specs.Cores.{Core, logs_of}
use Rattle.sct_site.specs.Ranges.{in_ranges, ReachEnds}
use Rattle.sct_world.specs.Closed.{IsClosed}
use Rattle.sct_world.specs.States.{State, is_size}
use Rattle.sct_world.specs.declared.world.KeptDelta.{KeptDelta}

-- sites of one group, numbered from `number` upwards, by the entries that each holds
abbrev pub cores_from : ℕ → ℕ → List (List Placed) → List Core
cores_from number group [] = []
cores_from number group (arrivals ∷ rest) =
    record { number = number; group = group; arrivals = arrivals } ∷ cores_from (number + 1) group rest

-- the entries that each site holds
abbrev pub held_by : List Core → List (List Placed)
held_by cores = map (λ core. core.arrivals) cores

-- the entries of a delta that is kept as ranges: those that the logs of the site that cut it have there
abbrev pub entries_kept : List (List Placed) → KeptDelta → List Placed
entries_kept held kept = in_ranges (logs_of (slice_index_or held (kept.site - 1) [])) kept.ranges.items

-- the entries of each delta
abbrev pub deltas_kept : List Core → List KeptDelta → List (List Placed)
deltas_kept cores deltas = map (entries_kept (held_by cores)) deltas

abbrev pub state_of : List Core → List (List Placed) → State
state_of cores deltas = record { held = held_by cores; deltas = deltas }

-- The sites are numbered from 1 to at most 1024, and each entry is in its own origin's log.
pub record IsWorld (cores : List Core) (deltas : List (List Placed)) : Type 0 where
  pub size : is_size (length cores) ≡ true
  pub numbered : cores ≡ cores_from 1 (length cores) (held_by cores)
  pub closed : IsClosed (state_of cores deltas)

-- A delta that is kept: the world has the site that cut it, the logs of that site reach to the end of each range, and
-- the entries are a delta.
pub record IsKeptDelta (held : List (List Placed)) (kept : KeptDelta) : Type 0 where
  pub there : (nat_lt kept.site 1 || nat_lt (length held) kept.site) ≡ false
  pub ends : ReachEnds (logs_of (slice_index_or held (kept.site - 1) [])) kept.ranges.items
  pub shape : IsDelta (entries_kept held kept)

-- a world, and each of its deltas as it is kept
pub record IsKeeping (cores : List Core) (deltas : List KeptDelta) : Type 0 where
  pub world : IsWorld cores (deltas_kept cores deltas)
  pub kept : All (IsKeptDelta (held_by cores)) deltas
