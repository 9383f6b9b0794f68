-- Logs as a caller sees them: the messages held of each origin, and the room for more. Read by an auditor.
use Rattle.std.specs.Prelude.{◌≡◌, ◌≤◌, ◌+◌, ℕ, List, [], length, Option, Some, None, is_some, if◌then◌else◌, false}
use Rattle.std.specs.BTreeMap.{is_at}
use Rattle.std.specs.List.{All}
use Rattle.std.specs.Map.{lookup}
use Rattle.std.specs.Ordering.{nat_cmp}
use Rattle.sct_message.specs.declared.draft.Draft.{Draft}
use Rattle.sct_delta.specs.Entries.{Placed, held_from}
use Rattle.sct_delta.specs.Refusals.{has_site}

-- The log of one origin: its messages in the order of their numbers, and how many more it can hold before it allocates.
pub record Log : Type 0 where
  pub messages : List Draft
  pub room : ℕ

-- Logs: how many sites the group has, and, by origin, the logs and the counts that are kept.
pub record HeldLogs : Type 0 where
  pub group : ℕ
  pub logs : List (ℕ × Log)
  pub counts : List (ℕ × ℕ)

-- the messages and the room of a log that may be absent
abbrev pub messages_of_log : Option Log → List Draft
messages_of_log None = []
messages_of_log (Some log) = log.messages

abbrev pub room_of_log : Option Log → ℕ
room_of_log None = 0
room_of_log (Some log) = log.room

-- the messages held of an origin, in the order of their numbers
unfoldable pub log_in : HeldLogs → ℕ → List Draft
log_in held origin = messages_of_log (lookup (is_at (nat_cmp origin)) held.logs)

-- how many more messages of an origin can be held before something is allocated
unfoldable pub room_at : HeldLogs → ℕ → ℕ
room_at held origin =
    if is_some (lookup (is_at (nat_cmp origin)) held.counts) then room_of_log (lookup (is_at (nat_cmp origin)) held.logs) else 0

-- there is room for one more message of the origin
abbrev pub HasRoom : HeldLogs → ℕ → Type 0
HasRoom held origin = 1 ≤ room_at held origin

-- there is room for each of the entries
abbrev pub HasRoomFor : HeldLogs → List Placed → Type 0
HasRoomFor held entries = (origin : ℕ) → held_from origin entries ≤ room_at held origin

-- the same messages are held
abbrev pub HoldSame : HeldLogs → HeldLogs → Type 0
HoldSame a b = (origin : ℕ) → log_in a origin ≡ log_in b origin

-- a log and a count are kept only for origins that hold a message
abbrev pub KeepsNoEmpty : HeldLogs → Type 0
KeepsNoEmpty held = All (λ kept. 1 ≤ length kept.1.messages) held.logs × All (λ kept. 1 ≤ kept.1) held.counts

-- Messages are to come, so many of each origin as `due` gives. A log or a count that holds no message is kept only for
-- an origin of which a message is to come.
abbrev pub KeepsEmptyIfDue : (ℕ → ℕ) → HeldLogs → Type 0
KeepsEmptyIfDue due held =
    All (λ kept. 1 ≤ length kept.1.messages + due kept.0) held.logs × All (λ kept. 1 ≤ kept.1 + due kept.0) held.counts

-- no message of an origin that the group does not have is held
abbrev pub IsOfGroup : HeldLogs → Type 0
IsOfGroup held = (origin : ℕ) → has_site held.group origin ≡ false → log_in held origin ≡ []
