-- Read by an auditor: what the rules of several types of text share, by the bytes of a text.
use Rattle.std.specs.Prelude.{ℕ, ◌||◌, List, Bool, Option, Some, None, nat_eq, if◌then◌else◌}
use Rattle.std.specs.Char.{is_ascii_uppercase, is_ascii_digit}
use Rattle.std.specs.Cmp.Lexicographic.{pointwise}

-- the two texts are the same
abbrev pub is_text : List ℕ → List ℕ → Bool
is_text s t = pointwise nat_eq s t

-- a text that passes its type's test is kept in a written form, and any other is refused
abbrev pub where_read : Bool → List ℕ → Option (List ℕ)
where_read passes written = if passes then Some written else None

-- A-Z and 0-9
abbrev pub is_capital_or_digit : ℕ → Bool
is_capital_or_digit c = is_ascii_uppercase c || is_ascii_digit c
