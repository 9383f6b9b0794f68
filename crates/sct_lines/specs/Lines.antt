-- The lines of an input: which messages are read of them, and how refused ones are told. Read by an auditor.
use Rattle.std.specs.Prelude.{ℕ, Bool, List, [], ◌∷◌, ◌++◌, ◌==◌, ◌||◌, not, if◌then◌else◌, filter, codes}
use Rattle.std.specs.List.{enumerate_from, filter_map, flat_map, list_all}
use Rattle.std.specs.FinSet as set
use Rattle.std.specs.Fmt.{decimal}
use Rattle.std.specs.Option.{option_map}
use Rattle.std.specs.Result.{result_ok, result_err}
use Rattle.serde_json.specs.Written.{compact_text}
use Rattle.serde_json.specs.Data.{string}
use Rattle.sct_element.specs.Faults.{element_fault_number}
use Rattle.sct_message.specs.Rules.{rule_number}
use Rattle.sct_message.specs.declared.draft.Draft.{Draft}
use Rattle.sct_json.specs.declared.faults.JsonFault.{JsonFault}
use Rattle.sct_json.specs.declared.faults.JsonFault.TheVariants.{Memory, NotJson, NotObject, UnknownKind, Missing, NotText, Element, Extra, Rule, BadTransactions, At}
use Rattle.sct_json.specs.declared.faults.KeyFault.{KeyFault}
use Rattle.sct_json.specs.declared.faults.KeyFault.TheVariants as key_fault
use Rattle.sct_json.specs.Keys.{key_text}
use Rattle.sct_json.specs.Reading.{message_in}
use Rattle.sct_message.specs.Sets.{MessageSet}

-- ---- lines

-- the lines where a byte that is no line feed stands before them: it begins the first, or is a line of its own
abbrev pub onto_first : ℕ → List (List ℕ) → List (List ℕ)
onto_first byte [] = (byte ∷ []) ∷ []
onto_first byte (line ∷ lines) = (byte ∷ line) ∷ lines

-- the lines of a text, without their line feeds: a line ends at a line feed (10) or at the end of the text, and
-- after the last line feed nothing more is a line
unfoldable pub lines_of : List ℕ → List (List ℕ)
lines_of [] = []
lines_of (byte ∷ bytes) = if byte == 10 then [] ∷ lines_of bytes else onto_first byte (lines_of bytes)

-- a line of spaces, tabs and carriage returns alone
unfoldable pub is_blank : List ℕ → Bool
is_blank line = list_all (λ byte. byte == 32 || byte == 9 || byte == 13) line

-- the lines that are not blank, each with its number, where the first line has the number given
unfoldable pub numbered_from : ℕ → List (List ℕ) → List (ℕ × List ℕ)
numbered_from first lines = filter (λ line. not (is_blank line.1)) (enumerate_from first lines)

-- ---- what the lines are

-- the messages of which some of the lines are a form, line by line
unfoldable pub messages_among : List (ℕ × List ℕ) → List Draft
messages_among lines = filter_map (λ line. result_ok (message_in line.1)) lines

-- the numbers of the lines that are no form of a message, each with the first fault of its line
unfoldable pub refusals_among : List (ℕ × List ℕ) → List (ℕ × JsonFault)
refusals_among lines = filter_map (λ line. option_map (λ fault. (line.0, fault)) (result_err (message_in line.1))) lines

-- the messages that are read from an input, in the order of its lines, which count from 1
abbrev pub messages_read : List ℕ → List Draft
messages_read input = messages_among (numbered_from 1 (lines_of input))

-- the set of the messages that are read from an input
abbrev pub set_read : List ℕ → MessageSet
set_read input = set.from_list (messages_read input)

-- the lines of an input that are refused, in their order, which count from 1
abbrev pub refusals_told : List ℕ → List (ℕ × JsonFault)
refusals_told input = refusals_among (numbered_from 1 (lines_of input))

-- ---- how a refusal is told

-- the number of a fault of an element of a list and its arguments, parted by spaces
unfoldable pub key_fault_text : KeyFault → List ℕ
key_fault_text (key_fault.Missing key) = codes "34 " ++ key_text key
key_fault_text (key_fault.NotText key) = codes "35 " ++ key_text key
key_fault_text (key_fault.Element key fault) = codes "36 " ++ key_text key ++ codes " " ++ decimal (element_fault_number fault)
key_fault_text (key_fault.Extra key) = codes "37 " ++ compact_text (string key)

-- the number of a fault and its arguments, parted by spaces; a fault of an element of a list is told behind its place
unfoldable pub json_fault_text : JsonFault → List ℕ
json_fault_text Memory = codes "30"
json_fault_text NotJson = codes "31"
json_fault_text NotObject = codes "32"
json_fault_text UnknownKind = codes "33"
json_fault_text (Missing key) = codes "34 " ++ key_text key
json_fault_text (NotText key) = codes "35 " ++ key_text key
json_fault_text (Element key fault) = codes "36 " ++ key_text key ++ codes " " ++ decimal (element_fault_number fault)
json_fault_text (Extra key) = codes "37 " ++ compact_text (string key)
json_fault_text (Rule fault) = codes "38 " ++ decimal (rule_number fault)
json_fault_text (BadTransactions place) = codes "46 " ++ decimal place
json_fault_text (At place fault) = codes "56 " ++ decimal place ++ codes " " ++ key_fault_text fault

-- the line that tells a refusal, with its line feed
unfoldable pub refusal_line : ℕ × JsonFault → List ℕ
refusal_line refusal = codes "line " ++ decimal refusal.0 ++ codes ": " ++ json_fault_text refusal.1 ++ 10 ∷ []

-- the lines that tell the refusals
unfoldable pub told_text_of : List (ℕ × JsonFault) → List ℕ
told_text_of refusals = flat_map refusal_line refusals

-- the same, with a text in front of each line
unfoldable pub told_after : List ℕ → List (ℕ × JsonFault) → List ℕ
told_after front refusals = flat_map (λ refusal. front ++ refusal_line refusal) refusals
