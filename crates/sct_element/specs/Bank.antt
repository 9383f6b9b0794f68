-- Read by an auditor: business identifier codes (ISO 9362), by the bytes of their texts.
use Rattle.std.specs.Prelude.{ℕ, ◌&&◌, ◌||◌, ◌==◌, List, ◌++◌, length, slice_index, Bool, Option, if◌then◌else◌, codes}
use Rattle.std.specs.Char.{is_ascii_uppercase}
use Rattle.std.specs.List.{list_all}
use Rattle.sct_element.specs.Text.{where_read, is_capital_or_digit}

-- 8 or 11 capitals and digits; the fifth and the sixth name a country and are capitals
abbrev pub is_bic : List ℕ → Bool
is_bic s = (length s == 8 || length s == 11)
    && list_all is_capital_or_digit s
    && is_ascii_uppercase (slice_index s 4)
    && is_ascii_uppercase (slice_index s 5)

-- a code of 8 characters names the head office, whose branch is XXX
abbrev pub full_bic : List ℕ → List ℕ
full_bic s = if length s == 8 then s ++ codes "XXX" else s

-- the form in which a text is kept and written; none if it is not a BIC
unfoldable pub written_bic : List ℕ → Option (List ℕ)
written_bic s = where_read (is_bic s) (full_bic s)
