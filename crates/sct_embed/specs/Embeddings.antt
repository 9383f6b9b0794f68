-- An embedded site as a caller sees it. Read by an auditor.
use Rattle.std.specs.Prelude.{ℕ, List, Option}
use Rattle.sct_site.specs.Cores.{Core}

-- A site, the text that it was asked for last, and how many arrivals it had when its changes were asked for last; none
-- before the first time.
pub record Embedding : Type 0 where
  pub core : Core
  pub answer : List ℕ
  pub watched : Option ℕ
