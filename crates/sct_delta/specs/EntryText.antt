-- Form 1 of the delta text: a line for each entry. Read by an auditor.
use Rattle.std.specs.Prelude.{◌≡◌, ℕ, ◌+◌, ◌^◌, ◌<◌, List, [], ◌∷◌, ◌++◌, length, Option, Some, None, option_map, option_and_then, Result, Ok, Err, codes, decimal, if◌then◌else◌, true, ⊤}
use Rattle.std.specs.Result.{result_ok}
use Rattle.sct_json.specs.Reading.{message_in}
use Rattle.sct_delta.specs.Sites.{is_site_of_form_1}
use Rattle.sct_delta.specs.Entries.{Placed, IsDelta}
use Rattle.sct_delta.specs.Shapes.{may_be_next, are_of_form_1}
use Rattle.sct_delta.specs.TextLines.{Line, lines_by_end, lines_as, end_line, entries_ended, Field, number_before_space, after_prefix}

-- ---- the form of a delta, as a relation

-- The line has the entry: the word `entry`, its origin and its number in decimal, and a JSON text that is read as its
-- message, separated by one space (32).
pub record TellsEntry (line : List ℕ) (entry : Placed) : Type 0 where
  pub json : List ℕ
  pub fields : line ≡ codes "entry " ++ (decimal entry.origin ++ 32 ∷ (decimal entry.n ++ 32 ∷ json))
  pub number : entry.n < 2 ^ 64
  pub message : message_in json ≡ Ok entry.message

-- each line has the entry at its place
abbrev pub TellEntries : List (List ℕ) → List Placed → Type 0
TellEntries [] [] = ⊤
TellEntries [] (entry ∷ entries) = ⊥
TellEntries (line ∷ lines) [] = ⊥
TellEntries (line ∷ lines) (entry ∷ entries) = TellsEntry line entry × TellEntries lines entries

-- the first line of a text of form 1
abbrev pub entries_head : List ℕ
entries_head = codes "delta 1"

-- A text is the form 1 of a delta if its lines are these: the head line, one line for each entry in their order, and
-- the end line with the number of entries. A line feed ends each line. Form 1 has only the sites 1 to 64.
pub record IsEntryText (bytes : List ℕ) (entries : List Placed) : Type 0 where
  pub lines : List (List ℕ)
  pub text : lines_by_end bytes ≡ lines_as (entries_head ∷ lines ++ end_line (length entries) ∷ [])
  pub told : TellEntries lines entries
  pub shape : IsDelta entries
  pub sites : are_of_form_1 entries ≡ true

-- ---- the fields of an entry line

-- the site of that number; none if form 1 does not have it
abbrev pub site_in_form_1 : ℕ → Option ℕ
site_in_form_1 number = if is_site_of_form_1 number then Some number else None

-- an origin, a number and a JSON text
abbrev pub EntryFields : Type 0
EntryFields = ℕ × ℕ × List ℕ

abbrev pub fields_behind : ℕ → List ℕ → Option EntryFields
fields_behind origin rest = option_map (λ field. (origin, field.0, field.1)) (number_before_space rest)

abbrev pub fields_after : Field → Option EntryFields
fields_after first = option_and_then (λ origin. fields_behind origin first.1) (site_in_form_1 first.0)

-- the origin, the number and the JSON text of an entry line
unfoldable pub fields_in : List ℕ → Option EntryFields
fields_in line = option_and_then fields_after (option_and_then number_before_space (after_prefix (codes "entry ") line))

-- the entry of a line
abbrev pub entry_of : EntryFields → Option Placed
entry_of fields =
    option_map (λ message. record { origin = fields.0; n = fields.1; message = message }) (result_ok (message_in fields.2))

unfoldable pub entry_in : List ℕ → Option Placed
entry_in line = option_and_then entry_of (fields_in line)

-- ---- reading lines: the entries of a delta, or the number of the first wrong line, from 1

-- Continues at a line: an entry that may be the next one, or the end.
abbrev pub entries_on :
    ℕ → ℕ → ℕ → List Placed → List ℕ → List Line → (Placed → Result (List Placed) ℕ) → Option Placed → Result (List Placed) ℕ
entries_on place origin n entries line lines more None = entries_ended place entries line lines
entries_on place origin n entries line lines more (Some entry) =
    if may_be_next origin n entry then more entry else Err place

-- The reading of the lines from a place on, after these entries. The last entry has this origin and number.
unfoldable pub entries_in : ℕ → ℕ → ℕ → List Placed → List Line → Result (List Placed) ℕ
entries_in place origin n entries [] = Err place
entries_in place origin n entries (None ∷ lines) = Err place
entries_in place origin n entries (Some line ∷ lines) =
    entries_on place origin n entries line lines
    (λ entry. entries_in (place + 1) entry.origin entry.n (entries ++ entry ∷ []) lines) (entry_in line)

-- The reading of the lines after the head line. It begins on line 2, with no origin or number before it and no entry.
abbrev pub entries_after_head : List Line → Result (List Placed) ℕ
entries_after_head lines = entries_in 2 0 0 [] lines
