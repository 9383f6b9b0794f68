-- Settling several sites of one group: its effect, and why it is refused. Read by an auditor.
use Rattle.std.specs.Prelude.{◌≡◌, ◌≢◌, ◌<◌, ◌&&◌, not, ℕ, Bool, true, List, [], ◌∷◌, length, nat_eq, slice_index_or, ⊤}
use Rattle.std.specs.List.{list_any, list_all}
use mathlib.Core.List.{IsPrefix}
use Rattle.sct_message.specs.declared.draft.Draft.{Draft}
use Rattle.sct_delta.specs.Entries.{Placed, entries_from, held_from, holds, IsDelta}
use Rattle.sct_delta.specs.declared.fault.DeltaFault.{DeltaFault}
use Rattle.sct_delta.specs.declared.fault.DeltaFault.TheVariants as fault
use Rattle.sct_site.specs.Cores.{Core, IsSite}

-- ---- several sites

-- a site without entries
abbrev pub no_core : Core
no_core = record { number = 0; group = 0; arrivals = [] }

-- the site at a place, from 0; past the last one, a site without entries
abbrev pub core_in : List Core → ℕ → Core
core_in cores place = slice_index_or cores place no_core

-- some site holds the entry
abbrev pub held_by_some : List Core → Placed → Bool
held_by_some cores entry = list_any (λ core. holds core.arrivals entry) cores

-- each of the others is of the site's group and has another number
abbrev pub is_beside : Core → List Core → Bool
is_beside core others =
    list_all (λ other. nat_eq other.group core.group && not (nat_eq other.number core.number)) others

-- the sites are of one group and their numbers differ
abbrev pub are_one_group : List Core → Bool
are_one_group [] = true
are_one_group (core ∷ others) = is_beside core others && are_one_group others

-- ---- the effect

-- A site before and after. Its number and group are the same. It holds all that it held, and beyond that only entries
-- that some site held. Of its own number it has the entries that it had. Its arrivals begin with those that it had, in
-- their order.
pub record IsSiteKept (before : List Core) (old new : Core) : Type 0 where
  pub number : new.number ≡ old.number
  pub group : new.group ≡ old.group
  pub keeps : (entry : Placed) → holds old.arrivals entry ≡ true → holds new.arrivals entry ≡ true
  pub no_other : (entry : Placed) → holds new.arrivals entry ≡ true → held_by_some before entry ≡ true
  pub own : entries_from old.number new.arrivals ≡ entries_from old.number old.arrivals
  pub grows : IsPrefix old.arrivals new.arrivals

-- each site is kept
pub record AreSitesKept (before after : List Core) : Type 0 where
  pub size : length after ≡ length before
  pub each : (place : ℕ) → IsSiteKept before (core_in before place) (core_in after place)

-- Settled: each site holds what any of them held, and none has gained an entry of its own number.
pub record AreSettled (before after : List Core) : Type 0 where
  pub kept : AreSitesKept before after
  pub joined : (place : ℕ) → place < length before
      → (entry : Placed) → holds (core_in after place).arrivals entry ≡ held_by_some before entry

-- ---- why sites of one group are not settled

-- Two sites hold different messages under one origin and number.
pub record HoldApart (cores : List Core) (origin n : ℕ) : Type 0 where
  pub one : ℕ
  pub other : ℕ
  pub message : Draft
  pub another : Draft
  pub held : holds (core_in cores one).arrivals (record { origin = origin; n = n; message = message }) ≡ true
  pub also_held : holds (core_in cores other).arrivals (record { origin = origin; n = n; message = another }) ≡ true
  pub different : message ≢ another

-- A site holds an entry of this number whose origin is another site, above that site's own count.
pub record IsAhead (cores : List Core) (n : ℕ) : Type 0 where
  pub holder : ℕ
  pub owner : ℕ
  pub entry : Placed
  pub there : owner < length cores
  pub held : holds (core_in cores holder).arrivals entry ≡ true
  pub number : entry.n ≡ n
  pub of_owner : entry.origin ≡ (core_in cores owner).number
  pub above : held_from entry.origin (core_in cores owner).arrivals < n

-- the reasons: out of memory (40), a fork (42) or an entry ahead of its owner (43), the last two only if there is one;
-- never a gap (41), a site that the group does not have (44) or a wrong place (45)
abbrev pub IsWhy : List Core → DeltaFault → Type 0
IsWhy cores fault.Memory = ⊤
IsWhy cores (fault.Gap origin have first) = ⊥
IsWhy cores (fault.Fork origin n) = HoldApart cores origin n
IsWhy cores (fault.OwnAhead n) = IsAhead cores n
IsWhy cores fault.BadSite = ⊥
IsWhy cores (fault.BadDelta line) = ⊥

-- ---- one site after another

-- all entries of a site, as a delta
pub record IsWholeSite (delta : List Placed) (core : Core) : Type 0 where
  pub site : IsSite core
  pub shape : IsDelta delta
  pub among : (entry : Placed) → holds delta entry ≡ true → holds core.arrivals entry ≡ true
  pub has : (entry : Placed) → holds core.arrivals entry ≡ true → holds delta entry ≡ true

-- all entries of one of the sites, as a delta
pub record IsWholeOfOne (delta : List Placed) (cores : List Core) : Type 0 where
  pub place : ℕ
  pub there : place < length cores
  pub whole : IsWholeSite delta (core_in cores place)

-- the site holds every entry of the delta
abbrev pub HasEach : List Placed → Core → Type 0
HasEach delta core = (entry : Placed) → holds delta entry ≡ true → holds core.arrivals entry ≡ true

-- the second site holds every entry of the first
abbrev pub HasAll : Core → Core → Type 0
HasAll one other = (entry : Placed) → holds one.arrivals entry ≡ true → holds other.arrivals entry ≡ true

-- the sites are of the group of the first one
abbrev pub OfOneGroup : List Core → Type 0
OfOneGroup cores = (place : ℕ) → place < length cores → (core_in cores place).group ≡ (core_in cores 0).group
