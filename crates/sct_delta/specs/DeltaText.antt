-- The delta text in both of its forms: the forms of a delta, the delta that bytes are read as or their first wrong
-- line, and the bytes that are written. Read by an auditor. The law `a_text_is_read_where_it_is_a_form` says that bytes
-- are read as a delta exactly if they are a form of it.
use Rattle.std.specs.Prelude.{◌≡◌, ◌⊎◌, ℕ, List, [], ◌∷◌, ◌++◌, length, take, flat_map, nat_eq, Option, Some, None, Result, Ok, Err, if◌then◌else◌, ⊤}
use Rattle.std.specs.Cmp.Lexicographic.{pointwise}
use Rattle.sct_delta.specs.declared.fault.DeltaFault.{DeltaFault}
use Rattle.sct_delta.specs.declared.fault.DeltaFault.TheVariants as fault
use Rattle.sct_delta.specs.Entries.{Placed}
use Rattle.sct_delta.specs.TextLines.{Line, lines_by_end, ended, end_line}
use Rattle.sct_delta.specs.EntryText.{IsEntryText, entries_head, entries_after_head}
use Rattle.sct_delta.specs.GroupText.{IsGroupText, groups_head, groups_after_head, lines_after}

-- A text is a form of a delta: form 1, a line for each entry, or form 2, the messages by origin.
abbrev pub IsDeltaText : List ℕ → List Placed → Type 0
IsDeltaText bytes entries = IsEntryText bytes entries ⊎ IsGroupText bytes entries

-- the written form of a delta, of form 2
unfoldable pub written_delta : List Placed → List ℕ
written_delta entries =
    flat_map ended (groups_head ∷ lines_after 0 entries ++ end_line (length entries) ∷ [])

-- ---- reading a text

-- what the lines after a head line are read as, by the form that the head line names
abbrev pub entries_behind : List ℕ → List Line → Result (List Placed) ℕ
entries_behind head lines =
    if pointwise nat_eq head entries_head then entries_after_head lines
    else if pointwise nat_eq head groups_head then groups_after_head lines
    else Err 1

abbrev pub delta_of_lines : List Line → Result (List Placed) ℕ
delta_of_lines [] = Err 1
delta_of_lines (None ∷ lines) = Err 1
delta_of_lines (Some line ∷ lines) = entries_behind line lines

-- the delta that a text is a form of, or its first wrong line
unfoldable pub delta_in : List ℕ → Result (List Placed) ℕ
delta_in bytes = delta_of_lines (lines_by_end bytes)

abbrev pub wrong_line : Result (List Placed) ℕ → Option ℕ
wrong_line (Ok entries) = None
wrong_line (Err line) = Some line

-- the first line of a text, from 1, that is wrong: it does not have its shape, is missing, has
-- no line feed, or comes after the end line
abbrev pub first_wrong_line : List ℕ → Option ℕ
first_wrong_line bytes = wrong_line (delta_in bytes)

-- the first `count` lines of both texts are equal; if one of them has fewer lines, all lines are equal
abbrev pub AgreeTo : ℕ → List ℕ → List ℕ → Type 0
AgreeTo count some other = take count (lines_by_end some) ≡ take count (lines_by_end other)

-- A call returns what a text is read as, or is out of memory.
abbrev pub Reads : Result (List Placed) DeltaFault → Result (List Placed) ℕ → Type 0
Reads (Ok entries) read = read ≡ Ok entries
Reads (Err fault.Memory) read = ⊤
Reads (Err (fault.BadDelta line)) read = read ≡ Err line
Reads (Err other) read = ⊥
