-- Read by an auditor: identifications, time stamps and codes, by the bytes of their texts.
use Rattle.std.specs.Prelude.{ℕ, ◌-◌, ◌&&◌, ◌||◌, ◌==◌, List, length, drop, zip, slice_index, nat_le, not, Bool, Option, codes}
use Rattle.std.specs.Char.{is_ascii_alphanumeric}
use Rattle.std.specs.List.{list_all, list_any}
use Rattle.sct_element.specs.Text.{where_read, is_capital_or_digit}

-- the characters that SEPA messages may carry: letters, digits, / - ? : ( ) . , ' + and the space
abbrev pub is_sepa_character : ℕ → Bool
is_sepa_character c = is_ascii_alphanumeric c || list_any (λ x. x == c) (codes "/-?:().,'+ ")

-- 1 to 35 of these characters
abbrev pub is_short_text : List ℕ → Bool
is_short_text s = nat_le 1 (length s) && nat_le (length s) 35 && list_all is_sepa_character s

-- two neighbours are both slashes
abbrev pub has_double_slash : List ℕ → Bool
has_double_slash s = list_any (λ p. p.0 == 47 && p.1 == 47) (zip s (drop 1 s))

-- such a text without a slash at either end and without two slashes in a row
abbrev pub is_identification : List ℕ → Bool
is_identification s = is_short_text s
    && not (slice_index s 0 == 47)
    && not (slice_index s (length s - 1) == 47)
    && not (has_double_slash s)

-- 1 to 4 capitals and digits
abbrev pub is_code : List ℕ → Bool
is_code s = nat_le 1 (length s) && nat_le (length s) 4 && list_all is_capital_or_digit s

-- each is kept as it was read
unfoldable pub written_identification : List ℕ → Option (List ℕ)
written_identification s = where_read (is_identification s) s

unfoldable pub written_stamp : List ℕ → Option (List ℕ)
written_stamp s = where_read (is_short_text s) s

unfoldable pub written_code : List ℕ → Option (List ℕ)
written_code s = where_read (is_code s) s
