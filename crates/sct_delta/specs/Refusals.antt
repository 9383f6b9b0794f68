-- The entries that logs hold, the refusals of a delta, and the join and the cut. Read by an
-- auditor. Logs and sites use these words.
use Rattle.std.specs.Prelude.{◌≡◌, ◌+◌, ◌-◌, ◌++◌, ◌&&◌, not, ℕ, Bool, false, List, [], ◌∷◌, filter, length, nat_eq, nat_lt, drop, if◌then◌else◌, Option, Some, None}
use Rattle.std.specs.List.{find, slice_get}
use Rattle.std.specs.Option.{is_none, option_or}
use Rattle.sct_message.specs.declared.draft.Draft.{Draft}
use Rattle.sct_message.specs.Order.{same_message}
use Rattle.sct_delta.specs.Entries.{Placed, entries_from, log_of, numbered}
use Rattle.sct_delta.specs.declared.fault.DeltaFault.{DeltaFault}
use Rattle.sct_delta.specs.declared.fault.DeltaFault.TheVariants as fault

-- ---- logs: for each origin its messages in the order of their numbers

-- the message numbered n in a log
abbrev pub message_at : List Draft → ℕ → Option Draft
message_at log n = if nat_eq n 0 then None else slice_get log (n - 1)

-- there is a message, and it is this one
abbrev pub is_same_as : Draft → Option Draft → Bool
is_same_as message None = false
is_same_as message (Some held) = same_message held message

-- there is a message, and it is a different one
abbrev pub is_other_than : Draft → Option Draft → Bool
is_other_than message None = false
is_other_than message (Some held) = not (same_message held message)

-- the entry is held
abbrev pub is_held : (ℕ → List Draft) → Placed → Bool
is_held log entry = is_same_as entry.message (message_at (log entry.origin) entry.n)

-- no entry is held under the number of this one
abbrev pub is_new : (ℕ → List Draft) → Placed → Bool
is_new log entry = is_none (message_at (log entry.origin) entry.n)

-- the version vector: how many entries of each origin are held
abbrev pub vector_of : (ℕ → List Draft) → ℕ → ℕ
vector_of log origin = length (log origin)

-- the logs with one more message at an origin
abbrev pub appended : (ℕ → List Draft) → ℕ → Draft → ℕ → List Draft
appended log at message origin = if nat_eq at origin then log origin ++ message ∷ [] else log origin

-- ---- why a delta is refused

-- a site from 1 to the size of the group
abbrev pub has_site : ℕ → ℕ → Bool
has_site group site = nat_lt 0 site && not (nat_lt group site)

-- the refusal of an entry of a site: 44 if the group does not have the site, else 40, out of memory
abbrev pub refusal_at : ℕ → ℕ → DeltaFault
refusal_at group site = if has_site group site then fault.Memory else fault.BadSite

-- an entry of a site that the group does not have
abbrev pub is_outside : ℕ → Placed → Bool
is_outside group entry = not (has_site group entry.origin)

-- an entry of the own origin, numbered above the own count
abbrev pub is_ahead : ℕ → (ℕ → List Draft) → Placed → Bool
is_ahead own log entry = nat_eq entry.origin own && nat_lt (vector_of log own) entry.n

-- an entry numbered past the next number of its origin
abbrev pub is_past : (ℕ → List Draft) → Placed → Bool
is_past log entry = nat_lt (vector_of log entry.origin + 1) entry.n

-- an entry whose number is held with another message
abbrev pub is_fork : (ℕ → List Draft) → Placed → Bool
is_fork log entry = is_other_than entry.message (message_at (log entry.origin) entry.n)

-- The entries with which an origin begins, after entries of the origin `previous`. No site is 0, which is therefore
-- before the first entry.
abbrev pub firsts_after : ℕ → List Placed → List Placed
firsts_after previous [] = []
firsts_after previous (entry ∷ rest) =
    if nat_eq entry.origin previous then firsts_after previous rest else entry ∷ firsts_after entry.origin rest

-- the refusal of an entry, if there is one
abbrev pub fault_of_entry : (Placed → DeltaFault) → Option Placed → Option DeltaFault
fault_of_entry tells None = None
fault_of_entry tells (Some entry) = Some (tells entry)

-- 44: the group does not have an origin of the delta
abbrev pub outside_refusal : ℕ → List Placed → Option DeltaFault
outside_refusal group delta = fault_of_entry (λ entry. fault.BadSite) (find (is_outside group) delta)

-- 43: an own entry is above the own count; the first such entry
abbrev pub ahead_refusal : ℕ → (ℕ → List Draft) → List Placed → Option DeltaFault
ahead_refusal own log delta = fault_of_entry (λ entry. fault.OwnAhead entry.n) (find (is_ahead own log) delta)

-- 41: the least number of an origin is past the next one; the first such origin
-- (law `the_gap_reported_is_the_first`)
abbrev pub gap_refusal : (ℕ → List Draft) → List Placed → Option DeltaFault
gap_refusal log delta =
    fault_of_entry (λ entry. fault.Gap entry.origin (vector_of log entry.origin) entry.n) (find (is_past log) (firsts_after 0 delta))

-- 42: a number is held with another message; the first such entry
abbrev pub fork_refusal : (ℕ → List Draft) → List Placed → Option DeltaFault
fork_refusal log delta = fault_of_entry (λ entry. fault.Fork entry.origin entry.n) (find (is_fork log) delta)

-- the first refusal of a delta at the site `own` of a group, in the order 44, 43, 41, 42
unfoldable pub first_refusal : ℕ → ℕ → (ℕ → List Draft) → List Placed → Option DeltaFault
first_refusal own group log delta =
    option_or (outside_refusal group delta)
    (option_or (ahead_refusal own log delta) (option_or (gap_refusal log delta) (fork_refusal log delta)))

-- ---- joining and cutting

-- the entries of a delta that are not held, in its order
abbrev pub fresh_in : (ℕ → List Draft) → List Placed → List Placed
fresh_in log delta = filter (λ entry. not (is_held log entry)) delta

-- the logs joined with a delta: the messages held, followed by the fresh ones of the delta
abbrev pub joined : (ℕ → List Draft) → List Placed → ℕ → List Draft
joined log delta origin = log origin ++ log_of origin (fresh_in log delta)

-- the entries of each origin that are numbered above a count, and no others
abbrev pub IsCut : (ℕ → List Draft) → (ℕ → ℕ) → List Placed → Type 0
IsCut log count delta =
    (origin : ℕ) → entries_from origin delta ≡ numbered origin (count origin + 1) (drop (count origin) (log origin))
