-- Logs as they are stored, read as the messages of each origin. Read by an auditor.
use Rattle.std.specs.Prelude.{ℕ, ◌-◌, ◌+◌, ◌≤◌, length, List, [], map, drop, Option, Some, None, vec_len, vec_capacity}
use Rattle.std.specs.Global.{Vec, Global}
use Rattle.std.specs.Arc.{arc_value}
use Rattle.std.specs.declared.sync.Arc.{Arc}
use Rattle.std.specs.BTreeMap.{get}
use Rattle.std.specs.Ordering.{nat_cmp}
use Rattle.sct_message.specs.declared.draft.Draft.{Draft}
use Rattle.std.specs.List.{flat_map, All}
use Rattle.sct_delta.specs.Entries.{Placed, numbered}
use Rattle.sct_delta.specs.declared.shelf.Shelf.{Shelf}

-- the messages of a log that may be absent
abbrev pub messages_in_log : Option (Vec (Arc Draft Global)) → List Draft
messages_in_log None = []
messages_in_log (Some log) = map arc_value log.items

-- how many more messages a log can hold before it allocates
abbrev pub places_on : Option (Vec (Arc Draft Global)) → ℕ
places_on None = 0
places_on (Some log) = vec_capacity log - vec_len log

-- the log of an origin, in the order of its numbers
abbrev pub log_on : Shelf → ℕ → List Draft
log_on shelf origin = messages_in_log (get nat_cmp shelf.logs origin)

-- each log that is stored has a message
abbrev pub HasNoEmptyLog : Shelf → Type 0
HasNoEmptyLog shelf = All (λ kept. 1 ≤ length kept.1.items) shelf.logs.entries

-- each log that is stored has a message, or a message of its origin is to come
abbrev pub HasEmptyIfDue : (ℕ → ℕ) → Shelf → Type 0
HasEmptyIfDue due shelf = All (λ kept. 1 ≤ length kept.1.items + due kept.0) shelf.logs.entries

-- how many more messages the log of an origin can hold before it allocates
abbrev pub places_at : Shelf → ℕ → ℕ
places_at shelf origin = places_on (get nat_cmp shelf.logs origin)

-- the entries of a log that are numbered above a count
abbrev pub above_on : (ℕ → ℕ) → ℕ × Vec (Arc Draft Global) → List Placed
above_on count kept = numbered kept.0 (count kept.0 + 1) (drop (count kept.0) (map arc_value kept.1.items))

-- the entries of all logs that are numbered above a count, log after log
abbrev pub above_in : (ℕ → ℕ) → Shelf → List Placed
above_in count shelf = flat_map (above_on count) shelf.logs.entries
