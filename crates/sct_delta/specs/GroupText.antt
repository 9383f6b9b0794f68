-- Form 2 of the delta text: the messages of each origin after a line that names it. Read by an auditor.
use Rattle.std.specs.Prelude.{◌≡◌, ℕ, ◌+◌, ◌-◌, ◌^◌, ◌<◌, ◌&&◌, Bool, List, [], ◌∷◌, ◌++◌, length, flat_map, nat_eq, nat_le, nat_lt, Option, Some, None, option_map, option_and_then, Result, Ok, Err, codes, decimal, if◌then◌else◌, true, ⊤}
use Rattle.std.specs.Result.{result_ok}
use Rattle.sct_message.specs.declared.draft.Draft.{Draft}
use Rattle.sct_json.specs.Reading.{message_in}
use Rattle.sct_json.specs.Writing.{written_text}
use Rattle.sct_delta.specs.Sites.{is_site}
use Rattle.sct_delta.specs.Entries.{Placed, numbered}
use Rattle.sct_delta.specs.TextLines.{Line, lines_by_end, lines_as, end_line, entries_ended, Field, number_in, number_before_space, after_prefix}

-- ---- the form of a delta, as a relation

-- the line that begins an origin: its first number, and how many messages follow, in decimal, each after one space (32)
abbrev pub origin_line : ℕ → ℕ → ℕ → List ℕ
origin_line origin first count = codes "origin " ++ (decimal origin ++ 32 ∷ (decimal first ++ 32 ∷ decimal count))

-- The messages of one origin, from its first number on, and a JSON text of each.
pub record Group : Type 0 where
  pub origin : ℕ
  pub first : ℕ
  pub messages : List Draft
  pub texts : List (List ℕ)

abbrev pub group_lines : Group → List (List ℕ)
group_lines group = origin_line group.origin group.first (length group.messages) ∷ group.texts

abbrev pub group_entries : Group → List Placed
group_entries group = numbered group.origin group.first group.messages

-- each text is read as the message at its place
abbrev pub TellMessages : List (List ℕ) → List Draft → Type 0
TellMessages [] [] = ⊤
TellMessages [] (message ∷ messages) = ⊥
TellMessages (text ∷ texts) [] = ⊥
TellMessages (text ∷ texts) (message ∷ messages) = (message_in text ≡ Ok message) × TellMessages texts messages

-- When a group may begin after the groups up to an origin: its origin is a later site, and it has at least one message.
-- Its first number is at least 1, and its last number is at most 18446744073709551615.
abbrev pub may_begin : ℕ → ℕ → ℕ → ℕ → Bool
may_begin before origin first count =
    nat_lt before origin && (is_site origin && (nat_le 1 first && (nat_le 1 count && nat_le (first + count) (2 ^ 64))))

-- each group may begin after the one before it, and its texts are read as its messages
abbrev pub AreGroups : ℕ → List Group → Type 0
AreGroups before [] = ⊤
AreGroups before (group ∷ groups) =
    (may_begin before group.origin group.first (length group.messages) ≡ true) × TellMessages group.texts group.messages
    × AreGroups group.origin groups

-- the first line of a text of form 2
abbrev pub groups_head : List ℕ
groups_head = codes "delta 2"

-- A text is the form 2 of a delta if its lines are these: the head line, the lines of each group, and the end line with
-- the number of all entries. A line feed ends each line. The origins of the groups ascend.
pub record IsGroupText (bytes : List ℕ) (entries : List Placed) : Type 0 where
  pub groups : List Group
  pub text : lines_by_end bytes ≡ lines_as (groups_head ∷ flat_map group_lines groups ++ end_line (length entries) ∷ [])
  pub stand : AreGroups 0 groups
  pub all : entries ≡ flat_map group_entries groups

-- ---- the written form

-- how many entries of an origin a list begins with
abbrev pub run_length : ℕ → List Placed → ℕ
run_length origin [] = 0
run_length origin (entry ∷ entries) = if nat_eq entry.origin origin then 1 + run_length origin entries else 0

-- the line before an entry, if the entry is the first one of its origin
abbrev pub line_before : ℕ → Placed → List Placed → List (List ℕ)
line_before previous entry entries =
    if nat_eq entry.origin previous then []
    else origin_line entry.origin entry.n (1 + run_length entry.origin entries) ∷ []

-- the lines of entries after an entry of an origin, each message in its written form
abbrev pub lines_after : ℕ → List Placed → List (List ℕ)
lines_after previous [] = []
lines_after previous (entry ∷ entries) =
    line_before previous entry entries ++ written_text entry.message ∷ lines_after entry.origin entries

-- An entry that can be written: the written form of its message is read as the message, and its number is below 2^64.
pub record IsWritable (entry : Placed) : Type 0 where
  pub reads_back : message_in (written_text entry.message) ≡ Ok entry.message
  pub small : entry.n < 2 ^ 64

-- ---- the fields of an origin line

-- an origin, its first number, and how many messages follow
abbrev pub OriginFields : Type 0
OriginFields = ℕ × ℕ × ℕ

abbrev pub count_behind : ℕ → Field → Option OriginFields
count_behind origin first = option_map (λ count. (origin, first.0, count)) (number_in first.1)

abbrev pub numbers_behind : Field → Option OriginFields
numbers_behind origin = option_and_then (count_behind origin.0) (number_before_space origin.1)

-- the three numbers of an origin line
unfoldable pub origin_in : List ℕ → Option OriginFields
origin_in line = option_and_then numbers_behind (option_and_then number_before_space (after_prefix (codes "origin ") line))

-- ---- reading lines: the entries of a delta, or the number of the first wrong line, from 1

-- Continues if no message is due: a group that may begin, or the end.
abbrev pub origin_on :
    ℕ → ℕ → List Placed → List ℕ → List Line → (OriginFields → Result (List Placed) ℕ) → Option OriginFields → Result (List Placed) ℕ
origin_on place before entries line lines more None = entries_ended place entries line lines
origin_on place before entries line lines more (Some fields) =
    if may_begin before fields.0 fields.1 fields.2 then more fields else Err place

-- Continues if a message is due.
abbrev pub message_on : ℕ → (Draft → Result (List Placed) ℕ) → Option Draft → Result (List Placed) ℕ
message_on place more None = Err place
message_on place more (Some message) = more message

-- The reading of the lines from a place on, after these entries: `due` messages of this origin
-- are due, and the next one has this number.
unfoldable pub groups_in : ℕ → ℕ → ℕ → ℕ → List Placed → List Line → Result (List Placed) ℕ
groups_in place origin n due entries [] = Err place
groups_in place origin n due entries (None ∷ lines) = Err place
groups_in place origin n due entries (Some line ∷ lines) =
    if nat_eq due 0 then
    origin_on place origin entries line lines
    (λ fields. groups_in (place + 1) fields.0 fields.1 fields.2 entries lines) (origin_in line)
    else
    message_on place
    (λ message. groups_in (place + 1) origin (n + 1) (due - 1)
    (entries ++ record { origin = origin; n = n; message = message } ∷ []) lines)
    (result_ok (message_in line))

-- The reading of the lines after the head line. It begins on line 2, with no origin before it, no message due and no entry.
abbrev pub groups_after_head : List Line → Result (List Placed) ℕ
groups_after_head lines = groups_in 2 0 1 0 [] lines
