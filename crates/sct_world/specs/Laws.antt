-- Laws of worlds, whatever their histories. Read by an auditor.
use Rattle.std.specs.Prelude.{◌≡◌, ◌⊎◌, ℕ, true, false, List, Ok}
use Rattle.sct_message.specs.Sets.{MessageSet}
use Rattle.sct_delta.specs.Entries.{Placed, held_from, holds, messages_of}
use Rattle.sct_reconcile.specs.Reports.{report_of, report_text_of}
use Rattle.sct_reconcile.specs.declared.rows.ListedRow.{ListedRow}
use Rattle.sct_world.specs.Answers.{texts_of}
use Rattle.sct_world.specs.States.{State, empty_world, is_no_site, held_at, is_size}
use Rattle.sct_world.specs.Happenings.{happenings_of}
use Rattle.sct_world.specs.Histories.{step_of, world_after, world_after_all, outcomes_of, world_by, outcomes_by}
use Rattle.sct_world.specs.Taken.{taken_at}
use Rattle.sct_world.specs.declared.event.Event.{Event}
use Rattle.sct_world.specs.declared.event.Event.TheVariants as event
use Rattle.sct_world.specs.declared.event.Step.TheVariants as step

-- the world after events, starting from `sites` sites without entries
abbrev pub history : ℕ → List Event → State
history sites events = world_after_all (empty_world sites) events

-- the messages that a site took or accepted in a history
abbrev pub taken_in : ℕ → List Event → ℕ → MessageSet
taken_in sites events site = taken_at site (history sites events).deltas events (outcomes_of (empty_world sites) events)

-- a world cannot have this number of sites, or the world does not have this site
abbrev pub IsNoPlace : ℕ → List Event → ℕ → Type 0
IsNoPlace sites events site = (is_size sites ≡ false) ⊎ (is_no_site (history sites events) site ≡ true)

-- Sites of one world or of two that took or accepted the same messages hold the same messages.
abbrev pub EqualSetsHoldAlike : Type 0
EqualSetsHoldAlike = (m n : ℕ) (events others : List Event) (i j : ℕ)
    → is_no_site (history m events) i ≡ false → is_no_site (history n others) j ≡ false
    → taken_in m events i ≡ taken_in n others j
    → messages_of (held_at (history m events) i) ≡ messages_of (held_at (history n others) j)

-- Sites of one world or of two that took or accepted the same messages answer the same texts.
abbrev pub EqualSetsGiveEqualTexts : Type 0
EqualSetsGiveEqualTexts = (m n : ℕ) (events others : List Event) (i j : ℕ)
    → is_no_site (history m events) i ≡ false → is_no_site (history n others) j ≡ false
    → taken_in m events i ≡ taken_in n others j
    → texts_of (messages_of (held_at (history m events) i)) ≡ texts_of (messages_of (held_at (history n others) j))

-- Sites of one world or of two that took or accepted the same messages give the same report, with the same text.
abbrev pub EqualSetsReportAlike : Type 0
EqualSetsReportAlike = (m n : ℕ) (events others : List Event) (i j : ℕ)
    → is_no_site (history m events) i ≡ false → is_no_site (history n others) j ≡ false
    → taken_in m events i ≡ taken_in n others j
    → (bank day : List ℕ) (list : List ListedRow)
    → report_text_of (report_of (messages_of (held_at (history m events) i)) bank day list)
    ≡ report_text_of (report_of (messages_of (held_at (history n others) j)) bank day list)

-- A site never loses an entry.
abbrev pub NeverLosesAnEntry : Type 0
NeverLosesAnEntry = (w : State) (events : List Event) (site : ℕ) (entry : Placed) → is_no_site w site ≡ false
    → holds (held_at w site) entry ≡ true → holds (held_at (world_after_all w events) site) entry ≡ true

-- In one world, sites with equal version vectors hold the same entries.
abbrev pub EqualVectorsInAWorldHoldAlike : Type 0
EqualVectorsInAWorldHoldAlike = (sites : ℕ) (events : List Event) (i j : ℕ)
    → ((origin : ℕ) → held_from origin (held_at (history sites events) i) ≡ held_from origin (held_at (history sites events) j))
    → (entry : Placed) → holds (held_at (history sites events) i) entry ≡ holds (held_at (history sites events) j) entry

-- the event is done, adds no entry and leaves the world unchanged
pub record ChangesNothing (w : State) (e : Event) : Type 0 where
  pub answer : step_of w e ≡ Ok (step.Accepted 0)
  pub world : world_after w e ≡ w

-- If a site accepted a delta, handing it the delta again changes nothing, at any later time.
abbrev pub HandingAgainChangesNothing : Type 0
HandingAgainChangesNothing = (sites : ℕ) (before between : List Event) (delta site fresh : ℕ)
    → step_of (history sites before) (event.Hand delta site) ≡ Ok (step.Accepted fresh)
    → ChangesNothing (world_after_all (world_after (history sites before) (event.Hand delta site)) between) (event.Hand delta site)

-- Events of equal values have equal outcomes and equal effects.
pub record GoByValues (w : State) (events : List Event) : Type 0 where
  pub outcomes : outcomes_of w events ≡ outcomes_by w (happenings_of events)
  pub world : world_after_all w events ≡ world_by w (happenings_of events)

abbrev pub HistoriesGoByValues : Type 0
HistoriesGoByValues = (w : State) (events : List Event) → GoByValues w events
