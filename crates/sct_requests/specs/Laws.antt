-- Laws of requests. Each law is the contract of a function. Read by an auditor.
use Rattle.std.specs.Prelude.{◌≡◌, ◌++◌, ◌∷◌, ℕ, true, false, List, Option, Some, Ok}
use Rattle.sct_message.specs.Sets.{MessageSet}
use Rattle.sct_message.specs.declared.draft.Draft.{Draft}
use Rattle.sct_json.specs.Reading.{message_in}
use Rattle.sct_journal.specs.Kept.{AreLines}
use Rattle.sct_delta.specs.Entries.{messages_of}
use Rattle.sct_site.specs.Cores.{Core, core_taken}
use Rattle.sct_site.specs.declared.answers.Took.{Took}
use Rattle.sct_exchange.specs.Ways.{IsAmong}
use Rattle.sct_rights.specs.Laws.{AreAlikeFor}
use Rattle.sct_rights.specs.Listing.{banks_in}
use Rattle.sct_rights.specs.Rights.{verdict}
use Rattle.sct_rights.specs.declared.permission.Permission.TheVariants as permission
use Rattle.sct_requests.specs.Grants.{answer_to_request, answers_to_requests, banks_text, brought_by, core_after_requests, core_requested, granted, grants, is_as_line, line_sent}
use Rattle.sct_requests.specs.Questions.{answer_named_for}
use Rattle.sct_requests.specs.Steps.{answer_to, brings, core_after}
use Rattle.sct_requests.specs.declared.steps.Reply.TheVariants as answer

-- A request is a message in the name of banks that it lists. The message may be sent in their name, and the site took it.
pub record IsSentInTheirName (core : Core) (request : List ℕ) : Type 0 where
  pub banks : List (List ℕ)
  pub message : Draft
  pub listed : banks_in (banks_text request) ≡ Some banks
  pub read : message_in (line_sent request) ≡ Ok message
  pub allowed : verdict banks (messages_of core.arrivals) message ≡ permission.Allowed
  pub given : granted core request ≡ line_sent request
  pub taken : core_requested core request ≡ core_taken core message

-- A line that the journal has is that of a request. If that is in the name of banks, its message may be sent in their name, by what the
-- site held then.
pub record WasSent (core : Core) (requests : List (List ℕ)) (line : List ℕ) : Type 0 where
  pub before : List (List ℕ)
  pub request : List ℕ
  pub later : List (List ℕ)
  pub all : requests ≡ before ++ request ∷ later
  pub its : line ≡ granted (core_after_requests core before) request
  pub named : is_as_line request ≡ true → IsSentInTheirName (core_after_requests core before) request

-- In their own name: each entry that a request in the name of banks brings is a message that may be sent in their name, by what the
-- site held then. Nothing else happens: a request that brings none leaves the site as it was.
pub record RequestsAreInTheirName : Type 0 where
  pub allowed : (core : Core) (request : List ℕ) → is_as_line request ≡ true → brings core (granted core request) ≡ true
      → IsSentInTheirName core request
  pub others : (core : Core) (request : List ℕ) → is_as_line request ≡ true → brings core (granted core request) ≡ false
      → core_requested core request ≡ core
  pub each : (core : Core) (requests : List (List ℕ)) (line : List ℕ) → IsAmong (brought_by core requests) line → WasSent core requests line

-- Two sets are alike for the banks that a text lists, if it lists some.
abbrev pub AreAlikeForList : List ℕ → MessageSet → MessageSet → Type 0
AreAlikeForList text one other = (banks : List (List ℕ)) → banks_in text ≡ Some banks → AreAlikeFor banks one other

-- Nothing leaks: sites whose messages are alike for banks have the same reply to each question of these banks.
abbrev pub NothingLeaksToBanks : Type 0
NothingLeaksToBanks =
    (text : List ℕ) (one other : MessageSet) → AreAlikeForList text one other
    → (question : Option (List ℕ × List ℕ)) → answer_named_for one text question ≡ answer_named_for other text question

-- A request that is not in the name of banks is given as it is. One that is taken has the answer of its line. What is given in parts is what is given together, and so are
-- the answers. What the journal keeps are lines, which make the site that the requests made.
pub record RequestsAreGivenInOrder : Type 0 where
  pub plain : (core : Core) (request : List ℕ) → is_as_line request ≡ false → granted core request ≡ request
  pub alike : (core : Core) (request : List ℕ) → is_as_line request ≡ false → answer_to_request core request ≡ answer_to core request
  pub took : (core : Core) (request : List ℕ) (took : Took) → answer_to_request core request ≡ answer.Took took
      → answer_to core (granted core request) ≡ answer.Took took
  pub given : (core : Core) (first later : List (List ℕ))
      → grants core (first ++ later) ≡ grants core first ++ grants (core_after_requests core first) later
  pub answers : (core : Core) (first later : List (List ℕ))
      → answers_to_requests core (first ++ later) ≡ answers_to_requests core first ++ answers_to_requests (core_after_requests core first) later
  pub lines : (core : Core) (requests : List (List ℕ)) → AreLines requests → AreLines (brought_by core requests)
  pub kept : (core : Core) (requests : List (List ℕ)) → core_after core (brought_by core requests) ≡ core_after_requests core requests
