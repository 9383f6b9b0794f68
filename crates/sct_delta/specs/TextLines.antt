-- Lines of a text, their numbers and fields, and the line that ends a delta. Read by an auditor. Both forms of
-- the delta text and scripts use these words.
use Rattle.std.specs.Prelude.{ℕ, ◌+◌, ◌^◌, ◌==◌, ◌&&◌, ◌||◌, not, Bool, List, [], ◌∷◌, ◌++◌, length, take, drop, map, nat_eq, nat_lt, slice_index, position, Option, Some, None, option_map, Result, Ok, Err, codes, decimal, if◌then◌else◌}
use Rattle.std.specs.Char.{is_ascii_digit}
use Rattle.std.specs.Cmp.Lexicographic.{pointwise}
use Rattle.std.specs.List.{list_all}
use Rattle.std.specs.Str.Parse.{digits_value}
use Rattle.sct_delta.specs.Entries.{Placed}

-- ---- lines

-- a line of a text, without the line feed (10) that ends it; None is a last line that is not ended by a line feed
abbrev pub Line : Type 0
Line = Option (List ℕ)

-- the lines after a byte that is not a line feed: it begins the first line
abbrev pub lines_from_byte : ℕ → List Line → List Line
lines_from_byte byte [] = None ∷ []
lines_from_byte byte (None ∷ lines) = None ∷ lines
lines_from_byte byte (Some line ∷ lines) = Some (byte ∷ line) ∷ lines

-- the lines of a text: the bytes before each line feed, and, if bytes come after the last line feed, a last
-- line without one (law `lines_make_the_text`)
unfoldable pub lines_by_end : List ℕ → List Line
lines_by_end [] = []
lines_by_end (byte ∷ bytes) = if byte == 10 then Some [] ∷ lines_by_end bytes else lines_from_byte byte (lines_by_end bytes)

-- the first line, if a line feed ends it
abbrev pub ended_first : List Line → Option (List ℕ)
ended_first [] = None
ended_first (line ∷ lines) = line

-- a line with the line feed that ends it
abbrev pub ended : List ℕ → List ℕ
ended line = line ++ 10 ∷ []

-- lines, each ended by a line feed
abbrev pub lines_as : List (List ℕ) → List Line
lines_as lines = map (λ line. Some line) lines

-- ---- the fields of a line

-- at least one character, and a zero (48) in front only if it is alone
abbrev pub begins_right : List ℕ → Bool
begins_right text = length text == 1 || nat_lt 1 (length text) && not (slice_index text 0 == 48)

abbrev pub is_numeral : List ℕ → Bool
is_numeral text = begins_right text && list_all is_ascii_digit text

-- the number that a text writes in decimal: ASCII digits, no sign, no leading zero, at most 18446744073709551615
unfoldable pub number_in : List ℕ → Option ℕ
number_in text =
    if is_numeral text then (if nat_lt (digits_value 10 text) (2 ^ 64) then Some (digits_value 10 text) else None) else None

-- a number, and the bytes after the space that follows it
abbrev pub Field : Type 0
Field = ℕ × List ℕ

abbrev pub is_space : ℕ → Bool
is_space byte = byte == 32

abbrev pub number_to : Option ℕ → List ℕ → Option Field
number_to None text = None
number_to (Some at) text = option_map (λ n. (n, drop (at + 1) text)) (number_in (take at text))

-- the number before the first space, and the bytes after that space
unfoldable pub number_before_space : List ℕ → Option Field
number_before_space text = number_to (position is_space text) text

-- the bytes after the word that a line begins with
abbrev pub after_prefix : List ℕ → List ℕ → Option (List ℕ)
after_prefix prefix text =
    if pointwise nat_eq (take (length prefix) text) prefix then Some (drop (length prefix) text) else None

-- ---- the end of a delta

-- the last line of a delta: the word `end`, and the number of its entries
abbrev pub end_line : ℕ → List ℕ
end_line count = codes "end " ++ decimal count

unfoldable pub is_end_line : ℕ → List ℕ → Bool
is_end_line count line = pointwise nat_eq line (end_line count)

-- Ends at a line that is not an entry: it is the end line, and no line comes after it.
abbrev pub entries_ended : ℕ → List Placed → List ℕ → List Line → Result (List Placed) ℕ
entries_ended place entries line [] = if is_end_line (length entries) line then Ok entries else Err place
entries_ended place entries line (next ∷ lines) =
    if is_end_line (length entries) line then Err (place + 1) else Err place
