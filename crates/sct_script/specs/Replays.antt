-- The answer to a script: the outcome of each event, and then the answers of each site. Read by an auditor.
use Rattle.std.specs.Prelude.{ℕ, ◌+◌, ◌++◌, List, [], ◌∷◌, codes, decimal, length, Option, Some, None}
use Rattle.std.specs.List.{flat_map, enumerate_from}
use Rattle.sct_message.specs.Sets.{MessageSet}
use Rattle.sct_set.specs.Archive.{archive_text_of}
use Rattle.sct_view.specs.StatusText.{status_text_of}
use Rattle.sct_view.specs.TotalsText.{totals_text_of}
use Rattle.sct_delta.specs.Entries.{Placed, messages_of}
use Rattle.sct_delta.specs.Faults.{fields_of_fault}
use Rattle.sct_delta.specs.declared.fault.DeltaFault.{DeltaFault}
use Rattle.sct_world.specs.declared.event.Outcome.{Outcome}
use Rattle.sct_world.specs.declared.event.Outcome.TheVariants as outcome
use Rattle.sct_world.specs.declared.event.Step.{Step}
use Rattle.sct_world.specs.declared.event.Step.TheVariants as step
use Rattle.sct_world.specs.declared.fault.WorldFault.{WorldFault}
use Rattle.sct_world.specs.declared.fault.WorldFault.TheVariants as fault
use Rattle.sct_world.specs.Happenings.{Happening}
use Rattle.sct_world.specs.Histories.{world_by, outcomes_by}
use Rattle.sct_world.specs.States.{State, empty_world}
use Rattle.sct_script.specs.Scripts.{sites_told, happenings_told}

-- ---- the outcomes of events

-- a number after a bar (124)
abbrev pub number_after_bar : ℕ → List ℕ
number_after_bar number = 124 ∷ decimal number

-- the number of a site's refusal, and its fields
unfoldable pub delta_fault_text : DeltaFault → List ℕ
delta_fault_text refusal = fields_of_fault (codes "|") refusal

-- the number of a world's refusal, and its fields
unfoldable pub world_fault_text : WorldFault → List ℕ
world_fault_text fault.BadSite = codes "44"
world_fault_text fault.NoSuchDelta = codes "47"
world_fault_text (fault.Delta refusal) = delta_fault_text refusal

unfoldable pub step_text : Step → List ℕ
step_text (step.Taken n) = codes "TAKEN" ++ number_after_bar n
step_text step.Repeat = codes "REPEAT"
step_text (step.Cut number entries) = codes "CUT" ++ number_after_bar number ++ number_after_bar entries
step_text (step.Accepted fresh) = codes "ACCEPTED" ++ number_after_bar fresh

unfoldable pub outcome_text : Outcome → List ℕ
outcome_text (outcome.Done done) = step_text done
outcome_text (outcome.Refused refusal) = codes "REFUSED|" ++ world_fault_text refusal

-- the line of an event: its number and its outcome, with its line feed
unfoldable pub outcome_line : ℕ × Outcome → List ℕ
outcome_line came = codes "E" ++ number_after_bar came.0 ++ 124 ∷ outcome_text came.1 ++ 10 ∷ []

-- a line for each event; events count from 1
unfoldable pub outcomes_text : List Outcome → List ℕ
outcomes_text outcomes = flat_map outcome_line (enumerate_from 1 outcomes)

-- ---- the answers of sites

-- the archive text, the status text and the totals text of a set of messages
abbrev pub answers_text : MessageSet → List ℕ
answers_text held = archive_text_of held ++ status_text_of held ++ totals_text_of held

abbrev pub site_head : ℕ → List ℕ
site_head site = codes "S" ++ number_after_bar site ++ 10 ∷ []

-- the head line of a site, and its answers about the messages that it holds
unfoldable pub replayed_site_text : ℕ × List Placed → List ℕ
replayed_site_text site = site_head site.0 ++ answers_text (messages_of site.1)

-- the head line and the answers of each site; sites count from 1
unfoldable pub sites_text : State → List ℕ
sites_text w = flat_map replayed_site_text (enumerate_from 1 w.held)

-- ---- the whole

-- the replay of events in a world of `sites` sites: the outcome of each event, and then the answers of each site
unfoldable pub replay_text : ℕ → List Happening → List ℕ
replay_text sites happenings =
    outcomes_text (outcomes_by (empty_world sites) happenings) ++ sites_text (world_by (empty_world sites) happenings)

abbrev pub replayed : Option ℕ → List Happening → List ℕ
replayed None happenings = []
replayed (Some sites) happenings = replay_text sites happenings

-- the replay of an input that is a script
abbrev pub replay_of : List ℕ → List ℕ
replay_of input = replayed (sites_told input) (happenings_told input)
