-- Laws of hubs of keepers. Read by an auditor. Each law is the contract of a function.
use Rattle.std.specs.Prelude.{◌≡◌, ℕ, ◌-◌, ◌++◌, true, false, List, [], ◌∷◌, codes, flat_map, map, Option, Some, Result, Ok, Err, if◌then◌else◌}
use Rattle.std.specs.FinSet as set
use Rattle.std.specs.List.{slice_get}
use Rattle.sct_element.specs.Text.{is_text}
use Rattle.sct_message.specs.declared.draft.Draft.{Draft}
use Rattle.sct_json.specs.Reading.{message_in}
use Rattle.sct_json.specs.declared.faults.JsonFault.{JsonFault}
use Rattle.sct_delta.specs.DeltaText.{delta_in}
use Rattle.sct_delta.specs.Entries.{holds, messages_of}
use Rattle.sct_site.specs.Cores.{Core, is_open}
use Rattle.sct_site.specs.declared.answers.Took.TheVariants as took
use Rattle.sct_exchange.specs.Hubs.{IsHonest, IsTextOfRuns, Run, journal_at, text_of}
use Rattle.sct_exchange.specs.Journals.{Begins, opened, own_log}
use Rattle.sct_exchange.specs.Laws.{HaveEqualVectors, HoldAlike, IsAcceptedOrEarly}
use Rattle.sct_exchange.specs.Rounds.{File}
use Rattle.sct_exchange.specs.Ways.{IsAmong}
use Rattle.sct_journal.specs.Kept.{AreLines, recorded}
use Rattle.sct_requests.specs.Questions.{answer_asked}
use Rattle.sct_requests.specs.Grants.{answer_to_request, core_after_requests, core_requested, granted}
use Rattle.sct_requests.specs.Steps.{AreKept, answer_to, brought, core_after, core_kept, is_delta_line, text_in}
use Rattle.sct_requests.specs.declared.steps.Reply.{Reply}
use Rattle.sct_requests.specs.declared.steps.Reply.TheVariants as answer
use Rattle.sct_hub.specs.Hubs.{AreTheirOrigins, Event, IsHub, IsTextOfHub, MayBegin, World, after, arrivals_in, at_first, own_journal, site_in, texts_given}
use Rattle.sct_hub.specs.Hubs.Event.{Round}

-- ---- where a hub may begin

-- new journals
abbrev pub NewHubsMayBegin : Type 0
NewHubsMayBegin = (sites : ℕ) → MayBegin sites at_first

-- journals of messages alone, each of them new
abbrev pub ImportedHubsMayBegin : Type 0
ImportedHubsMayBegin =
    (sites : ℕ) (lines : ℕ → List (List ℕ)) → ((site : ℕ) → AreLines (lines site))
    → ((site : ℕ) → AreKept (opened site sites) (lines site)) → ((site : ℕ) → texts_given (lines site) ≡ [])
    → MayBegin sites (record { lines = lines; texts = [] })

-- journals that go on those of honest runs of the commands, with the texts that those cut: each delta in a journal has only
-- entries that a site of the runs holds
abbrev pub HonestHubsMayBegin : Type 0
HonestHubsMayBegin =
    (sites : ℕ) (lines : ℕ → List (List ℕ)) (runs : List Run) → IsHonest sites runs
    → ((site : ℕ) → AreLines (lines site)) → ((site : ℕ) → AreKept (opened site sites) (lines site))
    → ((site : ℕ) → Begins (journal_at runs site) (own_journal (lines site)))
    → ((site : ℕ) (text : List ℕ) → IsAmong (texts_given (lines site)) text → IsTextOfRuns sites runs text)
    → MayBegin sites (record { lines = lines; texts = map (text_of sites) runs })

-- a hub may begin again where another ended
abbrev pub HubsMayGoOn : Type 0
HubsMayGoOn = (sites : ℕ) (world : World) → IsHub sites world → MayBegin sites world

-- ---- entries and texts

-- In a hub each entry that a site holds is its origin's: the site of the origin holds it, under that number. So no number
-- has two messages.
abbrev pub EntriesAreTheirOrigins : Type 0
EntriesAreTheirOrigins = (sites : ℕ) (world : World) → IsHub sites world → AreTheirOrigins sites world

-- Each text that was written in a hub is a text of the hub, from then on. So it may be given to any site, at any time.
abbrev pub WrittenTextsAreOfTheHub : Type 0
WrittenTextsAreOfTheHub =
    (sites : ℕ) (world : World) → IsHub sites world → (text : List ℕ) → IsAmong world.texts text
    → IsTextOfHub sites world text

-- A keeper refuses a text of its hub only because it is early: never with 42, 43, 44 or 45.
abbrev pub KeepersNeverFork : Type 0
KeepersNeverFork =
    (sites : ℕ) (world : World) → IsHub sites world → (site : ℕ) → is_open site sites ≡ true
    → (text : List ℕ) → IsTextOfHub sites world text → IsAcceptedOrEarly (site_in sites world site) text

-- So it is with each text that a keeper of the hub wrote.
abbrev pub WrittenTextsNeverFork : Type 0
WrittenTextsNeverFork =
    (sites : ℕ) (world : World) → IsHub sites world → (site : ℕ) → is_open site sites ≡ true
    → (text : List ℕ) → IsAmong world.texts text → IsAcceptedOrEarly (site_in sites world site) text

-- ---- what sites answer

-- Two sites answer alike: they hold the same entries and the same set of messages, and each question has the same answer.
-- Only `changes` is another matter: its answer goes by the order in which entries came.
pub record SitesAnswerAlike (one other : Core) : Type 0 where
  pub entries : HoldAlike one.arrivals other.arrivals
  pub messages : messages_of one.arrivals ≡ messages_of other.arrivals
  pub answers : (question : List ℕ) (watched also : Option ℕ) → is_text question (codes "changes") ≡ false
      → answer_asked (record { core = one; watched = watched }) question
      ≡ answer_asked (record { core = other; watched = also }) question

-- Two sites of a hub with equal vectors answer alike.
abbrev pub EqualVectorsAnswerAlike : Type 0
EqualVectorsAnswerAlike =
    (sites : ℕ) (world : World) → IsHub sites world
    → (one other : ℕ) → is_open one sites ≡ true → is_open other sites ≡ true
    → HaveEqualVectors (arrivals_in sites world one) (arrivals_in sites world other)
    → SitesAnswerAlike (site_in sites world one) (site_in sites world other)

-- the messages that are read: those of a delta, or one message
abbrev pub messages_of_file : File → List Draft
messages_of_file (Ok delta) = map (λ entry. entry.message) delta
messages_of_file (Err line) = []

abbrev pub message_read : Result Draft JsonFault → List Draft
message_read (Ok message) = message ∷ []
message_read (Err fault) = []

-- the messages of a line of a journal: those of its delta, or its message
abbrev pub messages_of_line : List ℕ → List Draft
messages_of_line line = if is_delta_line line then messages_of_file (delta_in (text_in line)) else message_read (message_in line)

-- A site of a hub holds exactly the messages of the lines that its journal records: its own, and those of the deltas that it
-- accepted.
abbrev pub KeepersHoldExactly : Type 0
KeepersHoldExactly =
    (sites : ℕ) (world : World) → IsHub sites world → (site : ℕ)
    → messages_of (arrivals_in sites world site) ≡ set.from_list (flat_map messages_of_line (world.lines site))

-- the messages of a line, if it is answered that the site has them: it took them, held them already, or accepted them
abbrev pub acknowledged_by : Reply → List ℕ → List Draft
acknowledged_by (answer.Took took) line = messages_of_line line
acknowledged_by (answer.Accepted fresh) line = messages_of_line line
acknowledged_by other line = []

-- the messages of requests to a site, as far as it answers that it has them; of a request in the name of banks those of its line
abbrev pub acknowledged : Core → List (List ℕ) → List Draft
acknowledged core [] = []
acknowledged core (request ∷ requests) =
    acknowledged_by (answer_to_request core request) (granted core request) ++ acknowledged (core_requested core request) requests

-- After requests a site holds exactly what it held and what it acknowledged.
abbrev pub KeepersHoldWhatTheyAnswer : Type 0
KeepersHoldWhatTheyAnswer =
    (core : Core) (requests : List (List ℕ))
    → messages_of (core_after_requests core requests).arrivals
    ≡ set.union (messages_of core.arrivals) (set.from_list (acknowledged core requests))

-- ---- what lasts

-- The number that a message is answered is its place in the own log of the journal that has it. It stays that, whatever
-- lines come after it.
abbrev pub NumbersAreKept : Type 0
NumbersAreKept =
    (site sites : ℕ) (lines more : List (List ℕ)) (line : List ℕ) (message : Draft) (n : ℕ)
    → AreLines (lines ++ line ∷ []) → AreKept (opened site sites) (lines ++ line ∷ [])
    → is_delta_line line ≡ false → message_in line ≡ Ok message
    → answer_to (core_kept site sites lines) line ≡ answer.Took (took.Taken n)
    → slice_get (own_log (own_journal (lines ++ line ∷ more))) (n - 1) ≡ Some message

-- A message that was answered with a number, in a round that lasts, is held under that number from then on, whatever
-- happens.
abbrev pub AnsweredNumbersLast : Type 0
AnsweredNumbersLast =
    (sites : ℕ) (world : World) (site : ℕ) (before more : List (List ℕ)) (line : List ℕ) (message : Draft) (n : ℕ)
    → message_in line ≡ Ok message
    → answer_to (core_after (site_in sites world site) before) line ≡ answer.Took (took.Taken n)
    → (events : List Event)
    → holds (arrivals_in sites (after sites world (Round site (before ++ line ∷ more) true ∷ events)) site)
    (record { origin = site; n = n; message = message })
    ≡ true

-- A restart gives the same site. A file recorded lines, and the site that they make was given more. What those brought was
-- recorded too. Then the site that is made of the file is the one that was given the lines, with the same entries in the
-- same order: so it has the same numbers and vector, and answers the same.
abbrev pub RestartsAreTheSame : Type 0
RestartsAreTheSame =
    (number group : ℕ) (before lasting : List (List ℕ)) (file : List ℕ)
    → recorded file ≡ before ++ brought (core_kept number group before) lasting
    → core_kept number group (recorded file) ≡ core_after (core_kept number group before) lasting

-- Nothing is lost: whatever happens, the entries of a site begin with those that it had, each under its number.
abbrev pub NothingIsLost : Type 0
NothingIsLost =
    (sites : ℕ) (world : World) (events : List Event) (site : ℕ)
    → Begins (arrivals_in sites world site) (arrivals_in sites (after sites world events) site)
