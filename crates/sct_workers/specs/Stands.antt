-- The core of a site whose desk was closed with all receipts that were kept. Read by an
-- auditor. Workers and runs use this word.
use Rattle.std.specs.FinSet as set
use Rattle.std.specs.Prelude.{◌≡◌, ℕ, true}
use Rattle.sct_message.specs.declared.draft.Draft.{Draft}
use Rattle.sct_message.specs.Sets.{MessageSet}
use Rattle.sct_delta.specs.Entries.{Placed, holds, messages_of}
use Rattle.sct_delta.specs.Refusals.{has_site}
use Rattle.sct_site.specs.Cores.{Core}
use Rattle.sct_workers.specs.Kept.{OwnOf}

-- The core is that of the site `own` of a group of this size. It holds all of these messages, and each of its own
-- entries has one of them. Its other entries are of sites of the group; nothing more is said of them.
pub record Stands (own size : ℕ) (held : MessageSet) (core : Core) : Type 0 where
  pub number_is : core.number ≡ own
  pub group_is : core.group ≡ size
  pub own_are : (entry : Placed) → holds core.arrivals entry ≡ true → OwnOf own held entry
  pub inside : (entry : Placed) → holds core.arrivals entry ≡ true → has_site size entry.origin ≡ true
  pub holds_all : (message : Draft) → set.contains held message ≡ true → set.contains (messages_of core.arrivals) message ≡ true
