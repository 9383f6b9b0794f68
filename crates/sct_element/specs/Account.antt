-- Read by an auditor: international bank account numbers (ISO 13616), by the bytes of their texts.
use Rattle.std.specs.Prelude.{ℕ, ◌&&◌, ◌==◌, ◌-◌, ◌/◌, ◌%◌, List, [], ◌∷◌, ◌++◌, length, take, drop, map, flat_map, nat_le, Bool, Option, if◌then◌else◌}
use Rattle.std.specs.Char.{is_ascii_uppercase, is_ascii_digit, is_ascii_alphanumeric, to_ascii_uppercase}
use Rattle.std.specs.Int.Digits.{number_from_digits}
use Rattle.std.specs.List.{list_all}
use Rattle.sct_element.specs.Text.{where_read}

-- a digit has its own value, and the letters A to Z have the values 10 to 35, of two digits each
abbrev pub digits_of_char : ℕ → List ℕ
digits_of_char c = if is_ascii_digit c then (c - 48) ∷ [] else ((c - 55) / 10) ∷ ((c - 55) % 10) ∷ []

-- the number of an account, after its first four characters are moved to its end
abbrev pub account_number : List ℕ → ℕ
account_number s = number_from_digits 10 (flat_map digits_of_char (drop 4 s ++ take 4 s))

-- small letters count as their capitals
abbrev pub capitals : List ℕ → List ℕ
capitals s = map to_ascii_uppercase s

-- 5 to 34 characters: two capitals for the country, two check digits, then letters and digits
abbrev pub is_account_shaped : List ℕ → Bool
is_account_shaped s = nat_le 5 (length s) && nat_le (length s) 34
    && list_all is_ascii_uppercase (take 2 s)
    && list_all is_ascii_digit (take 2 (drop 2 s))
    && list_all is_ascii_alphanumeric (drop 4 s)

-- a text of that shape whose number leaves 1 when divided by 97
abbrev pub is_iban : List ℕ → Bool
is_iban s = is_account_shaped s && (account_number (capitals s) % 97 == 1)

-- the form in which a text is kept and written; none if it is not an account number
unfoldable pub written_iban : List ℕ → Option (List ℕ)
written_iban s = where_read (is_iban s) (capitals s)
