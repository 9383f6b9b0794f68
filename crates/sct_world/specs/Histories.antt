-- The effects and the outcomes of events in a world. They are functions of the entries that the sites hold and of the
-- deltas cut, and use the words in which one site takes, accepts and cuts. Read by an auditor.
use Rattle.std.specs.Prelude.{ℕ, ◌+◌, ◌++◌, List, [], ◌∷◌, length, Option, Some, None, Result, Ok, Err, if◌then◌else◌}
use Rattle.std.specs.List.{fold}
use Rattle.sct_delta.specs.Entries.{Placed}
use Rattle.sct_delta.specs.declared.fault.DeltaFault.{DeltaFault}
use Rattle.sct_site.specs.declared.answers.Took.{Took}
use Rattle.sct_site.specs.declared.answers.Took.TheVariants as took
use Rattle.sct_site.specs.Cores.{Core, took_by, arrivals_taken, refusal_by, fresh_entries, arrivals_joined, entries_above}
use Rattle.sct_world.specs.Happenings.{Happening, Taken, Cut, Handed, happening_of, place_of}
use Rattle.sct_world.specs.States.{State, is_no_site, held_at, core_at, with_held, delta_at}
use Rattle.sct_world.specs.declared.event.Event.{Event}
use Rattle.sct_world.specs.declared.event.Event.TheVariants as event
use Rattle.sct_world.specs.declared.event.Step.{Step}
use Rattle.sct_world.specs.declared.event.Step.TheVariants as step
use Rattle.sct_world.specs.declared.event.Outcome.{Outcome}
use Rattle.sct_world.specs.declared.event.Outcome.TheVariants as outcome
use Rattle.sct_world.specs.declared.fault.WorldFault.{WorldFault}
use Rattle.sct_world.specs.declared.fault.WorldFault.TheVariants as fault

-- the site of an event
abbrev pub site_of : Event → ℕ
site_of (event.Take site message) = site
site_of (event.Cut site vector) = site
site_of (event.Hand delta site) = site

-- ---- the step of an event, or its refusal

-- a take, by the answer of the site
abbrev pub step_taken : Took → Step
step_taken (took.Taken n) = step.Taken n
step_taken took.Repeat = step.Repeat

-- a hand, by the site's refusal, if there is one, and by the number of new entries
abbrev pub step_accepted : ℕ → Option DeltaFault → Result Step WorldFault
step_accepted fresh None = Ok (step.Accepted fresh)
step_accepted fresh (Some refusal) = Err (fault.Delta refusal)

-- a hand, by the delta, if there is one
abbrev pub step_handed : Core → Option (List Placed) → Result Step WorldFault
step_handed core None = Err fault.NoSuchDelta
step_handed core (Some delta) = step_accepted (length (fresh_entries core.arrivals delta)) (refusal_by core delta)

-- an event at a site that the world has, by its values
abbrev pub step_there : State → Happening → Result Step WorldFault
step_there w (Taken site message) = Ok (step_taken (took_by (core_at w site) message))
step_there w (Cut site counts) = Ok (step.Cut (length w.deltas + 1) (length (entries_above counts (held_at w site))))
step_there w (Handed delta site) = step_handed (core_at w site) (delta_at w.deltas delta)

-- an event at a site that the world has
abbrev pub step_at : State → Event → Result Step WorldFault
step_at w e = step_there w (happening_of e)

-- the step of an event, or its refusal; the first refusal is that the world does not have the site
unfoldable pub step_of : State → Event → Result Step WorldFault
step_of w e = if is_no_site w (site_of e) then Err fault.BadSite else step_at w e

-- ---- the world after an event

-- after a hand, by the site's refusal, if there is one
abbrev pub after_accepted : State → ℕ → List Placed → Option DeltaFault → State
after_accepted w site delta None = with_held w site (arrivals_joined (held_at w site) delta)
after_accepted w site delta (Some refusal) = w

-- after a hand, by the delta, if there is one
abbrev pub after_handed : State → ℕ → Option (List Placed) → State
after_handed w site None = w
after_handed w site (Some delta) = after_accepted w site delta (refusal_by (core_at w site) delta)

-- after an event at a site that the world has, by its values
abbrev pub after_there : State → Happening → State
after_there w (Taken site message) = with_held w site (arrivals_taken (core_at w site) message)
after_there w (Cut site counts) = record { held = w.held; deltas = w.deltas ++ entries_above counts (held_at w site) ∷ [] }
after_there w (Handed delta site) = after_handed w site (delta_at w.deltas delta)

-- after an event at a site that the world has
abbrev pub after_at : State → Event → State
after_at w e = after_there w (happening_of e)

-- the world after an event; it is unchanged if it does not have the site
unfoldable pub world_after : State → Event → State
world_after w e = if is_no_site w (site_of e) then w else after_at w e

-- ---- lists of events

-- the world after events, one after another
abbrev pub world_after_all : State → List Event → State
world_after_all w events = fold world_after w events

-- the outcome of an event
abbrev pub outcome_of_step : Result Step WorldFault → Outcome
outcome_of_step (Ok done) = outcome.Done done
outcome_of_step (Err refusal) = outcome.Refused refusal

abbrev pub outcome_of : State → Event → Outcome
outcome_of w e = outcome_of_step (step_of w e)

-- the outcome of each of the events
abbrev pub outcomes_of : State → List Event → List Outcome
outcomes_of w [] = []
outcomes_of w (e ∷ events) = outcome_of w e ∷ outcomes_of (world_after w e) events

-- ---- the same functions of the values of events

abbrev pub step_by : State → Happening → Result Step WorldFault
step_by w h = if is_no_site w (place_of h) then Err fault.BadSite else step_there w h

abbrev pub after_by : State → Happening → State
after_by w h = if is_no_site w (place_of h) then w else after_there w h

-- the world after all of them, one after another
abbrev pub world_by : State → List Happening → State
world_by w happenings = fold after_by w happenings

-- the outcome of each of them
abbrev pub outcomes_by : State → List Happening → List Outcome
outcomes_by w [] = []
outcomes_by w (h ∷ happenings) = outcome_of_step (step_by w h) ∷ outcomes_by (after_by w h) happenings
