-- A site at one moment and at a later one. Read by an auditor.
use Rattle.std.specs.Prelude.{◌≡◌}
use mathlib.Core.List.{IsPrefix}
use Rattle.sct_site.specs.Cores.{Core}

-- It is the same site, and the later arrivals begin with the earlier ones.
pub record IsEarlier (earlier later : Core) : Type 0 where
  pub number : earlier.number ≡ later.number
  pub group : earlier.group ≡ later.group
  pub arrivals : IsPrefix earlier.arrivals later.arrivals
