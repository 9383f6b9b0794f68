-- What a site and a delta have of the own logs of all sites. Serves proofs.
use Rattle.std.specs.Prelude.{◌≡◌, ℕ, true, List}
use Rattle.sct_message.specs.declared.draft.Draft.{Draft}
use Rattle.sct_delta.specs.Entries.{Placed, IsArrivals, IsDelta, holds, log_of}
use Rattle.sct_delta.specs.Refusals.{has_site, is_held}
use Rattle.sct_site.specs.Cores.{Core}

-- Each entry of the site is its origin's message of that number, and the site has its whole own log.
pub record IsOf (owned : ℕ → List Draft) (core : Core) : Type 0 where
  pub order : IsArrivals core.arrivals
  pub inside : (entry : Placed) → holds core.arrivals entry ≡ true → has_site core.group entry.origin ≡ true
  pub known : (entry : Placed) → holds core.arrivals entry ≡ true → is_held owned entry ≡ true
  pub own : log_of core.number core.arrivals ≡ owned core.number

-- Each entry of the delta is its origin's message of that number.
pub record IsTextOf (owned : ℕ → List Draft) (group : ℕ) (delta : List Placed) : Type 0 where
  pub shape : IsDelta delta
  pub inside : (entry : Placed) → holds delta entry ≡ true → has_site group entry.origin ≡ true
  pub known : (entry : Placed) → holds delta entry ≡ true → is_held owned entry ≡ true
