-- A site that takes in the entries of a snapshot. Read by an auditor.
use Rattle.std.specs.Prelude.{◌≡◌, ◌++◌, ℕ, List, take}
use Rattle.sct_delta.specs.Entries.{Placed}
use Rattle.sct_site.specs.Cores.{Core}

-- The first of the entries are put in.
pub record ArePartlyPut (core : Core) (entries : List Placed) (later : Core) : Type 0 where
  pub count : ℕ
  pub put : later ≡ record { number = core.number; group = core.group; arrivals = core.arrivals ++ take count entries }
