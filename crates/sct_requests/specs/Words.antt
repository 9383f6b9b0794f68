-- The words of a request, separated by spaces. Read by an auditor.
use Rattle.std.specs.Prelude.{ℕ, ◌+◌, List, drop, take, position, Option, None, Some}
use Rattle.sct_delta.specs.TextLines.{is_space}

-- the text, if it has no space
abbrev pub one_word_at : List ℕ → Option ℕ → Option (List ℕ)
one_word_at text None = Some text
one_word_at text (Some place) = None

abbrev pub one_word : List ℕ → Option (List ℕ)
one_word text = one_word_at text (position is_space text)

-- the text up to its first space, and what comes after that
abbrev pub two_parts_at : List ℕ → Option ℕ → Option (List ℕ × List ℕ)
two_parts_at text None = None
two_parts_at text (Some place) = Some (take place text, drop (place + 1) text)

abbrev pub two_parts : List ℕ → Option (List ℕ × List ℕ)
two_parts text = two_parts_at text (position is_space text)
