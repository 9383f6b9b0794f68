-- The messages that a site took or accepted, computed from the events, their outcomes and the deltas cut, without
-- looking at what any site holds. Read by an auditor.
use Rattle.std.specs.FinSet as set
use Rattle.std.specs.Prelude.{ℕ, ◌++◌, List, [], ◌∷◌, map, nat_eq, Option, Some, None, if◌then◌else◌}
use Rattle.std.specs.Arc.{arc_value}
use Rattle.sct_message.specs.declared.draft.Draft.{Draft}
use Rattle.sct_message.specs.Sets.{MessageSet}
use Rattle.sct_delta.specs.Entries.{Placed}
use Rattle.sct_world.specs.States.{delta_at}
use Rattle.sct_world.specs.declared.event.Event.{Event}
use Rattle.sct_world.specs.declared.event.Event.TheVariants as event
use Rattle.sct_world.specs.declared.event.Step.TheVariants as step
use Rattle.sct_world.specs.declared.event.Outcome.{Outcome}
use Rattle.sct_world.specs.declared.event.Outcome.TheVariants as outcome

-- the messages of a delta, if there is one
abbrev pub messages_of_delta : Option (List Placed) → List Draft
messages_of_delta None = []
messages_of_delta (Some delta) = map (λ entry. entry.message) delta

-- the messages that one event brought to a site: the message that it was given to take,
-- or those of a delta that it accepted
abbrev pub got_by : ℕ → List (List Placed) → Event → Outcome → List Draft
got_by site deltas (event.Take at message) came = if nat_eq at site then arc_value message ∷ [] else []
got_by site deltas (event.Hand delta at) (outcome.Done (step.Accepted fresh)) =
    if nat_eq at site then messages_of_delta (delta_at deltas delta) else []
got_by site deltas e came = []

-- the messages that events brought to a site
abbrev pub all_got_by : ℕ → List (List Placed) → List Event → List Outcome → List Draft
all_got_by site deltas [] outcomes = []
all_got_by site deltas (e ∷ events) [] = []
all_got_by site deltas (e ∷ events) (came ∷ outcomes) = got_by site deltas e came ++ all_got_by site deltas events outcomes

-- the set of the messages that a site took or accepted
abbrev pub taken_at : ℕ → List (List Placed) → List Event → List Outcome → MessageSet
taken_at site deltas events outcomes = set.from_list (all_got_by site deltas events outcomes)
