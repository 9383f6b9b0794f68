-- What is sent to a site in the name of banks: the line that the site is given, and the answer. Read by an auditor.
use Rattle.std.specs.Prelude.{ℕ, ◌&&◌, not, nat_eq, Bool, true, false, List, [], ◌∷◌, codes, drop, take, Option, None, Some, Result, Ok, Err, if◌then◌else◌}
use Rattle.std.specs.Cmp.Lexicographic.{pointwise}
use Rattle.sct_message.specs.Sets.{MessageSet}
use Rattle.sct_message.specs.declared.draft.Draft.{Draft}
use Rattle.sct_json.specs.Reading.{message_in}
use Rattle.sct_json.specs.declared.faults.JsonFault.{JsonFault}
use Rattle.sct_json.specs.declared.faults.JsonFault.TheVariants.{NotJson}
use Rattle.sct_lines.specs.Lines.{is_blank}
use Rattle.sct_delta.specs.Entries.{messages_of}
use Rattle.sct_site.specs.Cores.{Core, took_by}
use Rattle.sct_site.specs.declared.answers.Took.{Took}
use Rattle.sct_rights.specs.Listing.{banks_in}
use Rattle.sct_rights.specs.Rights.{verdict}
use Rattle.sct_rights.specs.Sent.{is_allowed}
use Rattle.sct_rights.specs.declared.permission.Permission.{Permission}
use Rattle.sct_rights.specs.declared.permission.Permission.TheVariants as permission
use Rattle.sct_requests.specs.Steps.{answer_to, brought, core_after, core_given, is_delta_line, is_question_line}
use Rattle.sct_requests.specs.Words.{two_parts}
use Rattle.sct_requests.specs.declared.steps.Reply.{Reply}
use Rattle.sct_requests.specs.declared.steps.Reply.TheVariants as answer

-- ---- the words of a request

-- a request in the name of banks begins with `as `
abbrev pub is_as_line : List ℕ → Bool
is_as_line line = pointwise nat_eq (take 3 line) (codes "as ")

-- its banks are what comes before the next space, and its line is what comes after that; without a space the line is empty
abbrev pub parts_or_all : List ℕ → Option (List ℕ × List ℕ) → List ℕ × List ℕ
parts_or_all words None = (words, [])
parts_or_all words (Some parts) = parts

abbrev pub as_parts : List ℕ → List ℕ × List ℕ
as_parts request = parts_or_all (drop 3 request) (two_parts (drop 3 request))

abbrev pub banks_text : List ℕ → List ℕ
banks_text request = (as_parts request).0

abbrev pub line_sent : List ℕ → List ℕ
line_sent request = (as_parts request).1

-- the line that a request has for the journal
abbrev pub line_of_request : List ℕ → List ℕ
line_of_request request = if is_as_line request then line_sent request else request

-- ---- the line that the site is given

-- the line is to be a message
abbrev pub is_plain : List ℕ → Bool
is_plain line = not (is_delta_line line) && not (is_question_line line) && not (is_as_line line) && not (is_blank line)

-- the message may be sent in the name of the banks
abbrev pub is_permitted : List (List ℕ) → MessageSet → Result Draft JsonFault → Bool
is_permitted banks held (Ok message) = is_allowed (verdict banks held message)
is_permitted banks held (Err fault) = false

-- the line of a request, if it is a message that may be sent; else an empty line, which gives the site nothing
abbrev pub granted_to : Core → Option (List (List ℕ)) → List ℕ → List ℕ
granted_to core None line = []
granted_to core (Some banks) line = if is_plain line && is_permitted banks (messages_of core.arrivals) (message_in line) then line else []

-- what the site is given for a request
unfoldable pub granted : Core → List ℕ → List ℕ
granted core request = if is_as_line request then granted_to core (banks_in (banks_text request)) (line_sent request) else request

-- what the site is given for requests, each by what it holds then
abbrev pub grants : Core → List (List ℕ) → List (List ℕ)
grants core [] = []
grants core (request ∷ requests) = granted core request ∷ grants (core_given core (granted core request)) requests

-- ---- the site after requests, and what its journal keeps of them

abbrev pub core_requested : Core → List ℕ → Core
core_requested core request = core_given core (granted core request)

abbrev pub core_after_requests : Core → List (List ℕ) → Core
core_after_requests core requests = core_after core (grants core requests)

abbrev pub brought_by : Core → List (List ℕ) → List (List ℕ)
brought_by core requests = brought core (grants core requests)

-- ---- the answer

abbrev pub answer_by_verdict : Permission → Took → Reply
answer_by_verdict permission.Allowed took = answer.Took took
answer_by_verdict other took = answer.Withheld other

abbrev pub answer_to_sender : Core → List (List ℕ) → Result Draft JsonFault → Reply
answer_to_sender core banks (Ok message) = answer_by_verdict (verdict banks (messages_of core.arrivals) message) (took_by core message)
answer_to_sender core banks (Err fault) = answer.Unread fault

abbrev pub answer_as : Core → Option (List (List ℕ)) → List ℕ → Reply
answer_as core None line = answer.WrongBanks
answer_as core (Some banks) line = if is_plain line then answer_to_sender core banks (message_in line) else answer.Unread NotJson

-- the answer to a request: one in the name of banks, or another
unfoldable pub answer_to_request : Core → List ℕ → Reply
answer_to_request core request = if is_as_line request then answer_as core (banks_in (banks_text request)) (line_sent request) else answer_to core request

-- the answers to requests, each by what the site holds then
abbrev pub answers_to_requests : Core → List (List ℕ) → List Reply
answers_to_requests core [] = []
answers_to_requests core (request ∷ requests) = answer_to_request core request ∷ answers_to_requests (core_requested core request) requests
