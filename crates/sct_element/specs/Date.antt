-- Read by an auditor: dates of the form YYYY-MM-DD (ISODate), by the bytes of their texts. No calendar is consulted.
use Rattle.std.specs.Prelude.{ℕ, ◌&&◌, ◌==◌, List, length, take, drop, slice_index, Bool, Option}
use Rattle.std.specs.Char.{is_ascii_digit}
use Rattle.std.specs.List.{list_all}
use Rattle.sct_element.specs.Text.{where_read}

-- ten characters: four digits, a hyphen, two digits, a hyphen, two digits
abbrev pub is_day : List ℕ → Bool
is_day s = (length s == 10)
    && list_all is_ascii_digit (take 4 s)
    && (slice_index s 4 == 45)
    && list_all is_ascii_digit (take 2 (drop 5 s))
    && (slice_index s 7 == 45)
    && list_all is_ascii_digit (drop 8 s)

-- a date is kept as it was read
unfoldable pub written_day : List ℕ → Option (List ℕ)
written_day s = where_read (is_day s) s
