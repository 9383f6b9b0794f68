-- The data of a site besides its arrivals, and how it follows from them. Read by an auditor.
use Rattle.std.specs.Prelude.{◌≡◌, ℕ, true, List}
use Rattle.sct_delta.specs.Entries.{Placed, IsArrivals, log_of, messages_of}
use Rattle.sct_delta.specs.Logs.{HeldLogs, log_in, KeepsNoEmpty}
use Rattle.sct_set.specs.Contents.{Contents}
use Rattle.sct_site.specs.Cores.{is_open}

-- The arrivals are in order, the logs have them by origin and keep nothing for an origin without one, and the archive
-- has their messages and no other.
pub record IsCore (number group : ℕ) (logs : HeldLogs) (arrivals : List Placed) (archive : Contents) : Type 0 where
  pub opened : is_open number group ≡ true
  pub one_group : logs.group ≡ group
  pub order : IsArrivals arrivals
  pub by_origin : (origin : ℕ) → log_in logs origin ≡ log_of origin arrivals
  pub filled : KeepsNoEmpty logs
  pub messages : archive ≡ messages_of arrivals
