-- The data of logs: a shelf of messages and the vector that counts them. Read by an auditor.
use Rattle.std.specs.Prelude.{◌≡◌, ◌-◌, ℕ, true, false, List, [], length, map, vec_len, vec_capacity}
use Rattle.std.specs.Global.{Vec, Global}
use Rattle.std.specs.Arc.{arc_value}
use Rattle.std.specs.declared.sync.Arc.{Arc}
use Rattle.sct_message.specs.declared.draft.Draft.{Draft}
use Rattle.sct_delta.specs.Logs.{Log, HeldLogs}
use Rattle.sct_delta.specs.Refusals.{has_site}
use Rattle.sct_delta.specs.Shelves.{log_on}
use Rattle.sct_delta.specs.Sites.{is_group}
use Rattle.sct_delta.specs.Vectors.{count_in}
use Rattle.sct_delta.specs.declared.shelf.Shelf.{Shelf}
use Rattle.sct_delta.specs.declared.vector.Vector.{Vector}

-- the log that a list of messages is
abbrev pub log_of_list : Vec (Arc Draft Global) → Log
log_of_list list = record { messages = map arc_value list.items; room = vec_capacity list - vec_len list }

-- the logs of a shelf, by origin
unfoldable pub logs_on : Shelf → List (ℕ × Log)
logs_on shelf = map (λ kept. (kept.0, log_of_list kept.1)) shelf.logs.entries

-- logs as a caller sees them
abbrev pub held_logs : ℕ → Shelf → Vector → HeldLogs
held_logs group shelf vector = record { group = group; logs = logs_on shelf; counts = vector.counts.entries }

-- The group has at most the greatest number of sites, the vector counts the messages of each origin, and each message
-- is of a site of the group.
pub record AreLogs (group : ℕ) (shelf : Shelf) (vector : Vector) : Type 0 where
  pub small : is_group group ≡ true
  pub counted : (origin : ℕ) → count_in vector origin ≡ length (log_on shelf origin)
  pub inside : (origin : ℕ) → has_site group origin ≡ false → log_on shelf origin ≡ []
