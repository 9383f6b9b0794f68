-- One site as a caller sees it: its number, its group and its arrivals, and the effects of takes, deltas and cuts. Read
-- by an auditor. Worlds and desks use these words.
use Rattle.std.specs.FinSet as set
use Rattle.std.specs.Prelude.{◌≡◌, ℕ, ◌+◌, ◌++◌, ◌∷◌, [], not, ◌&&◌, Bool, true, List, Option, filter, nat_lt, if◌then◌else◌}
use Rattle.std.specs.Ordering.{nat_cmp, ordering_then}
use Rattle.std.specs.declared.cmp.Ordering.{Ordering}
use Rattle.sct_message.specs.Ascending.{ascending}
use Rattle.sct_message.specs.Order.{message_order}
use Rattle.sct_message.specs.declared.draft.Draft.{Draft}
use Rattle.sct_delta.specs.Entries.{Placed, IsArrivals, log_of, held_from, holds, messages_of}
use Rattle.sct_delta.specs.Refusals.{first_refusal, fresh_in, has_site}
use Rattle.sct_delta.specs.Sites.{most_sites}
use Rattle.sct_delta.specs.declared.fault.DeltaFault.{DeltaFault}
use Rattle.sct_site.specs.declared.answers.Took.{Took}
use Rattle.sct_site.specs.declared.answers.Took.TheVariants as took

-- a site of a group, with all entries that it took or accepted in the order in which they came
pub record Core : Type 0 where
  pub number : ℕ
  pub group : ℕ
  pub arrivals : List Placed

-- a group has at least one site and at most the greatest number of sites, and its sites are numbered from 1
abbrev pub is_open : ℕ → ℕ → Bool
is_open number group = nat_lt 0 number && not (nat_lt group number) && not (nat_lt most_sites group)

-- What holds of every site: its arrivals are in order, and each entry is of a site of its group.
pub record IsSite (core : Core) : Type 0 where
  pub opened : is_open core.number core.group ≡ true
  pub order : IsArrivals core.arrivals
  pub inside : (entry : Placed) → holds core.arrivals entry ≡ true → has_site core.group entry.origin ≡ true

-- the logs of a list of entries: the messages of each origin, in the order of the list
abbrev pub logs_of : List Placed → ℕ → List Draft
logs_of entries origin = log_of origin entries

-- ---- taking a message

-- the message is held, from any origin
abbrev pub is_repeat : Core → Draft → Bool
is_repeat core message = set.contains (messages_of core.arrivals) message

-- the next own number
abbrev pub next_own : Core → ℕ
next_own core = held_from core.number core.arrivals + 1

-- the message as the next own entry
abbrev pub own_entry : Core → Draft → Placed
own_entry core message = record { origin = core.number; n = next_own core; message = message }

-- the answer to a take: a repeat, or the number of the new own entry
unfoldable pub took_by : Core → Draft → Took
took_by core message = if is_repeat core message then took.Repeat else took.Taken (next_own core)

-- the arrivals after a take
unfoldable pub arrivals_taken : Core → Draft → List Placed
arrivals_taken core message =
    if is_repeat core message then core.arrivals else core.arrivals ++ own_entry core message ∷ []

-- the site after a take
abbrev pub core_taken : Core → Draft → Core
core_taken core message = record { number = core.number; group = core.group; arrivals = arrivals_taken core message }

-- ---- putting in a message of any origin

-- the message as the next entry of an origin
abbrev pub next_entry : ℕ → List Placed → Draft → Placed
next_entry origin arrivals message = record { origin = origin; n = held_from origin arrivals + 1; message = message }

-- the site after it is put in
abbrev pub core_pushed : Core → ℕ → Draft → Core
core_pushed core origin message =
    record { number = core.number; group = core.group; arrivals = core.arrivals ++ next_entry origin core.arrivals message ∷ [] }

-- ---- accepting a delta

-- the first reason why the site does not accept the delta, if there is one
abbrev pub refusal_by : Core → List Placed → Option DeltaFault
refusal_by core delta = first_refusal core.number core.group (logs_of core.arrivals) delta

-- the entries of the delta that the site does not hold, in the delta's order
abbrev pub fresh_entries : List Placed → List Placed → List Placed
fresh_entries arrivals delta = fresh_in (logs_of arrivals) delta

-- the arrivals after an accepted delta
abbrev pub arrivals_joined : List Placed → List Placed → List Placed
arrivals_joined arrivals delta = arrivals ++ fresh_entries arrivals delta

-- the site after an accepted delta
abbrev pub core_joined : Core → List Placed → Core
core_joined core delta = record { number = core.number; group = core.group; arrivals = arrivals_joined core.arrivals delta }

-- ---- cutting

-- entries by origin, number and message
abbrev pub entry_order : Placed → Placed → Ordering
entry_order a b =
    ordering_then (nat_cmp a.origin b.origin) (ordering_then (nat_cmp a.n b.n) (message_order a.message b.message))

-- the entry is numbered above the count of its origin
abbrev pub is_above : (ℕ → ℕ) → Placed → Bool
is_above count entry = nat_lt (count entry.origin) entry.n

-- The entries above a version vector, of every origin, ordered by origin and number. A site has one message of a number, so
-- the order never asks for the message.
unfoldable pub entries_above : (ℕ → ℕ) → List Placed → List Placed
entries_above count arrivals = ascending entry_order (filter (is_above count) arrivals)
