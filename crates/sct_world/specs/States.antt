-- Worlds as a caller sees them: the entries that each site holds, and the deltas cut. Read by an auditor.
use Rattle.std.specs.Prelude.{ℕ, ◌-◌, ◌||◌, ◌&&◌, not, Bool, List, [], length, nat_eq, nat_lt, slice_index_or, slice_set, replicate, Option, None, if◌then◌else◌}
use Rattle.std.specs.List.{slice_get}
use Rattle.sct_delta.specs.Entries.{Placed}
use Rattle.sct_delta.specs.Sites.{most_sites}
use Rattle.sct_site.specs.Cores.{Core}

-- for each site, from the first one on, the entries that it holds in the order in which they came; and the
-- deltas in the order in which they were cut
pub record State : Type 0 where
  pub held : List (List Placed)
  pub deltas : List (List Placed)

-- a world of `sites` sites without entries, and without deltas
abbrev pub empty_world : ℕ → State
empty_world sites = record { held = replicate sites []; deltas = [] }

-- a world has at least one site, and at most the greatest number that a group may have
abbrev pub is_size : ℕ → Bool
is_size sites = nat_lt 0 sites && not (nat_lt most_sites sites)

-- the world does not have the site: sites are numbered from 1
abbrev pub is_no_site : State → ℕ → Bool
is_no_site w site = nat_lt site 1 || nat_lt (length w.held) site

-- the entries that a site holds
abbrev pub held_at : State → ℕ → List Placed
held_at w site = slice_index_or w.held (site - 1) []

-- a site, as one of the group of all sites
abbrev pub core_at : State → ℕ → Core
core_at w site = record { number = site; group = length w.held; arrivals = held_at w site }

-- the world in which a site holds other entries
abbrev pub with_held : State → ℕ → List Placed → State
with_held w site arrivals = record { held = slice_set w.held (site - 1) arrivals; deltas = w.deltas }

-- the delta of a number, if there is one; deltas are numbered from 1
abbrev pub delta_at : List (List Placed) → ℕ → Option (List Placed)
delta_at deltas delta = if nat_eq delta 0 then None else slice_get deltas (delta - 1)
