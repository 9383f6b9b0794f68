-- Why a site of a world never answers 42 to 45. Read by an auditor.
use Rattle.std.specs.Prelude.{◌≡◌, ℕ, true, [], length, slice_index_or}
use Rattle.sct_delta.specs.Entries.{Placed, IsArrivals, HasNoHole, holds}
use Rattle.sct_delta.specs.Refusals.{has_site}
use Rattle.sct_world.specs.States.{State, held_at}

-- Each site's entries are arrivals, and each entry is of a site of the world. In each delta, the entries of one origin
-- have no hole. An entry that a site holds or that a delta carries is held by its own origin.
pub record IsClosed (w : State) : Type 0 where
  pub arrivals : (site : ℕ) → IsArrivals (held_at w site)
  pub inside : (site : ℕ) (entry : Placed) → holds (held_at w site) entry ≡ true → has_site (length w.held) entry.origin ≡ true
  pub runs : (k origin : ℕ) → HasNoHole origin (slice_index_or w.deltas k [])
  pub held : (site : ℕ) (entry : Placed) → holds (held_at w site) entry ≡ true → holds (held_at w entry.origin) entry ≡ true
  pub cut : (k : ℕ) (entry : Placed) → holds (slice_index_or w.deltas k []) entry ≡ true → holds (held_at w entry.origin) entry ≡ true
