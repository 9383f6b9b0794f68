-- What answers to questions depend on. Read by an auditor.
use Rattle.std.specs.Prelude.{ℕ, Option}
use Rattle.sct_site.specs.Cores.{Core}

-- a site, and how many entries it had when its changes were asked for last; none before the first time
pub record WatchedSite : Type 0 where
  pub core : Core
  pub watched : Option ℕ
