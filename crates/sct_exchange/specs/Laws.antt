-- Laws of journals, rounds and hubs. Read by an auditor. Each law is the contract of a function.
use Rattle.std.specs.Prelude.{◌≡◌, ◌++◌, ◌∷◌, ℕ, true, List, flat_map, map, IfSome, Ok}
use Rattle.std.specs.FinSet as set
use Rattle.sct_message.specs.declared.draft.Draft.{Draft}
use Rattle.sct_lines.specs.LineLaws.{IsOfWholeLines}
use Rattle.sct_lines.specs.Lines.{messages_read}
use Rattle.sct_delta.specs.DeltaText.{delta_in}
use Rattle.sct_delta.specs.Entries.{Placed, held_from, holds, log_of, messages_of, numbered}
use Rattle.sct_delta.specs.declared.fault.DeltaFault.{DeltaFault}
use Rattle.sct_delta.specs.declared.fault.DeltaFault.TheVariants as fault
use Rattle.sct_site.specs.Cores.{Core, IsSite, is_open, refusal_by}
use Rattle.sct_exchange.specs.Hubs.{Run, IsHonest, IsHonestRun, IsTextOfRuns, arrivals_of, core_of, text_of}
use Rattle.sct_exchange.specs.Journals.{Begins, core_of_journal, own_log}
use Rattle.sct_exchange.specs.Rounds.{files_in, numbered_files, refused_by}
use Rattle.sct_exchange.specs.Sites.{arrivals_after, refused_after, site_after, site_text}
use Rattle.sct_exchange.specs.Ways.{AreAccepted, IsAmong, IsExchanged}

-- ---- journals

-- If a journal is of whole lines, the own log of a longer journal begins with its own log.
abbrev pub NumbersLast : Type 0
NumbersLast = (journal more : List ℕ) → IsOfWholeLines journal → Begins (own_log journal) (own_log (journal ++ more))

-- A site that took the messages of its journal holds its own log, numbered from 1, and nothing else.
abbrev pub JournalsMakeLogs : Type 0
JournalsMakeLogs = (number group : ℕ) (journal : List ℕ)
    → (core_of_journal number group journal).arrivals ≡ numbered number 1 (own_log journal)

-- A site's own entries go by its journal alone: whatever texts it is given, they are its own log. So a site that is run
-- again from its journal has its old entries under their old numbers.
abbrev pub OwnEntriesGoByTheJournal : Type 0
OwnEntriesGoByTheJournal = (number group : ℕ) (journal : List ℕ) (texts : List (List ℕ)) → is_open number group ≡ true
    → log_of number (arrivals_after number group journal texts) ≡ own_log journal

-- ---- rounds

-- A site that is run again is the same site: if two journals make the same own log, and two lists of texts are read as the
-- same files, the runs end alike. So the same journal and texts give the same arrivals, and the same bytes.
abbrev pub RunsAgainEndAlike : Type 0
RunsAgainEndAlike = (number group : ℕ) (journal again : List ℕ) (texts others : List (List ℕ))
    → own_log journal ≡ own_log again → files_in texts ≡ files_in others
    → site_after number group journal texts ≡ site_after number group again others

-- After the rounds the site is one. It accepted some of the deltas, and has every entry of each that it does not refuse.
abbrev pub RoundsExchange : Type 0
RoundsExchange = (number group : ℕ) (journal : List ℕ) (texts : List (List ℕ)) → is_open number group ≡ true
    → IsExchanged (files_in texts) (core_of_journal number group journal) (site_after number group journal texts).core
    × IsSite (site_after number group journal texts).core

-- The files that are reported are those that the site refuses as it ends, each with that refusal, and no others.
abbrev pub RefusalsAreTheLast : Type 0
RefusalsAreTheLast = (number group : ℕ) (journal : List ℕ) (texts : List (List ℕ)) → is_open number group ≡ true
    → refused_after number group journal texts
    ≡ refused_by (site_after number group journal texts).core (numbered_files (files_in texts))

-- the messages of deltas
abbrev pub messages_within : List (List Placed) → List Draft
messages_within deltas = flat_map (λ delta. map (λ entry. entry.message) delta) deltas

-- A site holds exactly the messages of its journal and of the deltas that it accepted.
abbrev pub HoldsExactly : Type 0
HoldsExactly = (number group : ℕ) (journal : List ℕ) (texts : List (List ℕ)) (deltas : List (List Placed)) (after : Core)
    → AreAccepted (files_in texts) (core_of_journal number group journal) deltas after
    → messages_of after.arrivals ≡ set.from_list (messages_read journal ++ messages_within deltas)

-- ---- hubs

-- the delta is early (41)
abbrev pub IsEarly : DeltaFault → Type 0
IsEarly (fault.Gap origin have first) = Unit {0}
IsEarly refusal = ⊥

-- The text is a delta text, and if the site refuses its delta, then only because it is early.
pub record IsAcceptedOrEarly (core : Core) (text : List ℕ) : Type 0 where
  pub delta : List Placed
  pub read : delta_in text ≡ Ok delta
  pub early : IfSome (refusal_by core delta) IsEarly

-- In an honest hub each text that `cut` wrote in a run is a text of the runs: later runs may be given it.
abbrev pub CutsMayBeGiven : Type 0
CutsMayBeGiven = (sites : ℕ) (runs : List Run) → IsHonest sites runs
    → (text : List ℕ) → IsAmong (map (text_of sites) runs) text → IsTextOfRuns sites runs text

-- In an honest hub no run refuses a text for anything but that its delta is early: never with 42, 43, 44 or 45.
abbrev pub HubsNeverFork : Type 0
HubsNeverFork = (sites : ℕ) (run : Run) (earlier : List Run) → IsHonest sites (run ∷ earlier)
    → (text : List ℕ) → IsAmong run.given text → IsAcceptedOrEarly (core_of sites run) text

-- two lists of entries have equal vectors
abbrev pub HaveEqualVectors : List Placed → List Placed → Type 0
HaveEqualVectors some other = (origin : ℕ) → held_from origin some ≡ held_from origin other

-- they hold the same entries
abbrev pub HoldAlike : List Placed → List Placed → Type 0
HoldAlike some other = (entry : Placed) → holds some entry ≡ holds other entry

-- In an honest hub two runs with equal vectors hold the same entries.
abbrev pub EqualVectorsHoldAlike : Type 0
EqualVectorsHoldAlike = (sites : ℕ) (runs : List Run) → IsHonest sites runs → (one other : Run)
    → IsAmong runs one → IsAmong runs other → HaveEqualVectors (arrivals_of sites one) (arrivals_of sites other)
    → HoldAlike (arrivals_of sites one) (arrivals_of sites other)

-- And `site` writes the same bytes.
abbrev pub EqualVectorsWriteAlike : Type 0
EqualVectorsWriteAlike = (sites : ℕ) (runs : List Run) → IsHonest sites runs → (one other : Run)
    → IsAmong runs one → IsAmong runs other → HaveEqualVectors (arrivals_of sites one) (arrivals_of sites other)
    → site_text (arrivals_of sites one) ≡ site_text (arrivals_of sites other)

-- each text of the first list is one of the second
abbrev pub AreAmong : List (List ℕ) → List (List ℕ) → Type 0
AreAmong texts others = (text : List ℕ) → IsAmong texts text → IsAmong others text

-- In an honest hub two runs of one site with one journal hold the same entries, if they are given the same texts in any
-- order and any number of times.
abbrev pub OrderDoesNotMatter : Type 0
OrderDoesNotMatter = (sites : ℕ) (runs : List Run) → IsHonest sites runs → (one other : Run)
    → IsHonestRun sites runs one → IsHonestRun sites runs other → one.site ≡ other.site → one.journal ≡ other.journal
    → AreAmong one.given other.given → AreAmong other.given one.given
    → HoldAlike (arrivals_of sites one) (arrivals_of sites other)
