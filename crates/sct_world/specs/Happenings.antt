-- The events of a world by their values alone: a message counts by its elements and not by its place in memory, and a
-- version vector by its counts. Read by an auditor.
use Rattle.std.specs.Prelude.{ℕ, List, map}
use Rattle.std.specs.Arc.{arc_value}
use Rattle.sct_message.specs.declared.draft.Draft.{Draft}
use Rattle.sct_delta.specs.Vectors.{count_in}
use Rattle.sct_world.specs.declared.event.Event.{Event}
use Rattle.sct_world.specs.declared.event.Event.TheVariants as event

-- a site takes a message; a site cuts a delta above these counts of each origin; the
-- delta of a number is handed to a site
pub data Happening : Type 0 where
  Taken : (site : ℕ) (message : Draft) → Happening
  Cut : (site : ℕ) (counts : ℕ → ℕ) → Happening
  Handed : (delta site : ℕ) → Happening

-- the values of an event
abbrev pub happening_of : Event → Happening
happening_of (event.Take site message) = Taken site (arc_value message)
happening_of (event.Cut site vector) = Cut site (count_in vector)
happening_of (event.Hand delta site) = Handed delta site

abbrev pub happenings_of : List Event → List Happening
happenings_of events = map happening_of events

-- the site of an event
abbrev pub place_of : Happening → ℕ
place_of (Taken site message) = site
place_of (Cut site counts) = site
place_of (Handed delta site) = site
