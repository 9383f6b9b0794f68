-- Laws of catching up by origin, with texts of a limited size. Read by an auditor. Each law is the contract of a function.
use Rattle.std.specs.Prelude.{◌≡◌, ◌≤◌, ◌<◌, ◌+◌, ◌-◌, ℕ, zero, suc, true, List, [], ◌∷◌, ◌++◌, length, take, None}
use Rattle.sct_delta.specs.DeltaText.{delta_in}
use Rattle.sct_delta.specs.Entries.{Placed, held_from, log_of}
use Rattle.sct_site.specs.Cores.{Core, core_joined, is_open, refusal_by}
use Rattle.sct_exchange.specs.Laws.{HaveEqualVectors}
use Rattle.sct_exchange.specs.Rounds.{core_with, is_accepted}
use Rattle.sct_exchange.specs.Entries.{entries_asked, entries_of, entries_text, entries_within, has_room_for}
use Rattle.sct_hub.specs.Hubs.{AreFew, IsHub, World, arrivals_in, site_in}
use Rattle.sct_hub.specs.Restored.{ArePeers, HasEachOf}

-- ---- as many as have room

-- What is handed on is a front of what is asked for. If something is asked for, it has the first. It has room, or it is the
-- first alone. And no longer front has room.
pub record IsLongestFront (most : ℕ) (entries front : List Placed) : Type 0 where
  pub rest : List Placed
  pub is : entries ≡ front ++ rest
  pub some : 0 < length entries → 0 < length front
  pub room : 1 < length front → has_room_for most front ≡ true
  pub full : (entry : Placed) (more : List Placed) → rest ≡ entry ∷ more → has_room_for most (front ++ entry ∷ []) ≡ true → ⊥

abbrev pub EntriesHaveRoom : Type 0
EntriesHaveRoom = (most : ℕ) (entries : List Placed) → IsLongestFront most entries (entries_within most entries)

-- ---- one text

-- The taker does not refuse the delta, and then holds each entry of it. If no entry comes, the giver has no more of the
-- origin than was said. If the taker has as many as it said, and the giver no fewer, then the taker has the giver's entries of
-- the origin up to the last one that came.
pub record CatchesUpOn (giver taker : Core) (origin above : ℕ) (delta : List Placed) : Type 0 where
  pub fits : refusal_by taker delta ≡ None
  pub has : HasEachOf delta (core_joined taker delta).arrivals
  pub none : delta ≡ [] → held_from origin giver.arrivals ≤ above
  pub log : held_from origin taker.arrivals ≡ above → above ≤ held_from origin giver.arrivals
      → log_of origin (core_joined taker delta).arrivals ≡ take (above + length delta) (log_of origin giver.arrivals)

-- A peer accepts the entries of any origin of the group above a count that is at most its own.
abbrev pub PeersCatchUpOnOrigins : Type 0
PeersCatchUpOnOrigins =
    (giver taker : Core) (origin above most : ℕ) → ArePeers giver taker → above ≤ held_from origin taker.arrivals
    → CatchesUpOn giver taker origin above (entries_asked origin above most giver.arrivals)

-- So does each site of a hub, by the text.
abbrev pub SitesCatchUpOnOrigins : Type 0
SitesCatchUpOnOrigins =
    (sites : ℕ) (world : World) → IsHub sites world → (giver taker : ℕ)
    → is_open giver sites ≡ true → is_open taker sites ≡ true
    → (origin above most : ℕ) → above ≤ held_from origin (arrivals_in sites world taker)
    → AreFew (arrivals_in sites world giver)
    → (is_accepted (site_in sites world taker) (delta_in (entries_text origin above most (arrivals_in sites world giver))) ≡ true)
    × CatchesUpOn (site_in sites world giver) (site_in sites world taker) origin above
    (entries_asked origin above most (arrivals_in sites world giver))

-- ---- asking again and again

-- a site after it asked another one so many times for entries of an origin above its own count, and joined what came
abbrev pub after_asking : ℕ → ℕ → ℕ → Core → Core → Core
after_asking origin most zero giver taker = taker
after_asking origin most (suc times) giver taker =
    after_asking origin most times giver
    (core_joined taker (entries_asked origin (held_from origin taker.arrivals) most giver.arrivals))

-- Nothing comes any more, and the taker has no fewer entries of the origin than the giver.
pub record IsCaughtUp (origin most : ℕ) (giver taker : Core) : Type 0 where
  pub none : entries_asked origin (held_from origin taker.arrivals) most giver.arrivals ≡ []
  pub all : held_from origin giver.arrivals ≤ held_from origin taker.arrivals

-- Asking again and again ends, after at most as many texts as there are entries that the taker lacks. Only entries of the
-- origin come.
abbrev pub AskingEnds : Type 0
AskingEnds =
    (giver taker : Core) (origin most times : ℕ) → ArePeers giver taker
    → held_from origin giver.arrivals - held_from origin taker.arrivals ≤ times
    → IsCaughtUp origin most giver (after_asking origin most times giver taker)

-- ---- all sites

-- Each site has asked each other one for the other's own entries, until none came.
abbrev pub NothingComes : ℕ → World → Type 0
NothingComes sites world =
    (site origin : ℕ) → is_open site sites ≡ true → is_open origin sites ≡ true
    → entries_of origin (held_from origin (arrivals_in sites world site)) (arrivals_in sites world origin) ≡ []

-- Then all vectors are equal.
abbrev pub AllCatchUp : Type 0
AllCatchUp =
    (sites : ℕ) (world : World) → IsHub sites world → NothingComes sites world
    → (one other : ℕ) → is_open one sites ≡ true → is_open other sites ≡ true
    → HaveEqualVectors (arrivals_in sites world one) (arrivals_in sites world other)
