-- Read by an auditor: amounts in euro, by the bytes of their texts. A cent is the unit.
use Rattle.std.specs.Prelude.{◌≡◌, ◌≤◌, ◌⊎◌, ℕ, ◌+◌, ◌*◌, ◌/◌, ◌%◌, ◌&&◌, ◌==◌, List, [], ◌∷◌, ◌++◌, length, take, drop, position, nat_le, Bool, IsTrue, Option, Some, None, option_and_then, if◌then◌else◌, decimal}
use Rattle.std.specs.Char.{is_ascii_digit}
use Rattle.std.specs.List.{list_all}
use Rattle.std.specs.Str.Parse.{digits_value}

-- ---- which texts are amounts

-- 1 to 9 digits write whole euros, and may begin with zeros
abbrev pub IsEuros : List ℕ → ℕ → Type 0
IsEuros s euros = (1 ≤ length s) × (length s ≤ 9) × IsTrue (list_all is_ascii_digit s) × (euros ≡ digits_value 10 s)

-- one digit writes tenths of a euro, and two digits hundredths; the number is in cents
abbrev pub IsDecimals : List ℕ → ℕ → Type 0
IsDecimals s cents = IsTrue (list_all is_ascii_digit s)
    × (((length s ≡ 1) × (cents ≡ 10 * digits_value 10 s)) ⊎ ((length s ≡ 2) × (cents ≡ digits_value 10 s)))

-- whole euros, a point, and decimals
pub record HasDecimals (s : List ℕ) (cents : ℕ) : Type 0 where
  pub before : List ℕ
  pub behind : List ℕ
  pub euros : ℕ
  pub rest : ℕ
  pub spelled : s ≡ before ++ 46 ∷ behind
  pub whole : IsEuros before euros
  pub decimals : IsDecimals behind rest
  pub counted : cents ≡ 100 * euros + rest

-- whole euros alone
pub record IsWhole (s : List ℕ) (cents : ℕ) : Type 0 where
  pub euros : ℕ
  pub whole : IsEuros s euros
  pub counted : cents ≡ 100 * euros

-- The text writes 1 to 99999999999 cents: as whole euros, or as whole euros, a point, and one or two decimals.
abbrev pub IsAmountText : List ℕ → ℕ → Type 0
IsAmountText s cents = (1 ≤ cents) × (cents ≤ 99999999999) × (IsWhole s cents ⊎ HasDecimals s cents)

-- ---- the amount of a text, by the place of its first point: the law amounts_are_exact
-- says that it is the amount above

abbrev pub is_point : ℕ → Bool
is_point c = c == 46

-- 1 to 9 digits write whole euros, and may begin with zeros
abbrev pub euros_of : List ℕ → Option ℕ
euros_of s =
    if nat_le 1 (length s) && nat_le (length s) 9 && list_all is_ascii_digit s then Some (digits_value 10 s) else None

-- one digit after the point writes tenths of a euro, two digits hundredths; the number is in cents
abbrev pub hundredths_of : List ℕ → Option ℕ
hundredths_of s =
    if nat_le 1 (length s) && nat_le (length s) 2 && list_all is_ascii_digit s
    then Some (if length s == 1 then 10 * digits_value 10 s else digits_value 10 s) else None

-- the euros and the cents of a text, by the place of its first point
abbrev pub euros_before : Option ℕ → List ℕ → Option ℕ
euros_before None s = euros_of s
euros_before (Some point) s = euros_of (take point s)

abbrev pub cents_after : Option ℕ → List ℕ → Option ℕ
cents_after None s = Some 0
cents_after (Some point) s = hundredths_of (drop (point + 1) s)

-- zero cents are not an amount
abbrev pub where_positive : ℕ → Option ℕ
where_positive cents = if nat_le 1 cents then Some cents else None

-- the sum of euros and cents in cents; none if either is none
abbrev pub in_all : Option ℕ → Option ℕ → Option ℕ
in_all euros cents = option_and_then (λ e. option_and_then (λ c. where_positive (100 * e + c)) cents) euros

-- the cents that a text writes
unfoldable pub cents_of : List ℕ → Option ℕ
cents_of s = in_all (euros_before (position is_point s) s) (cents_after (position is_point s) s)

-- the written form: euros without leading zeros, a point, two digits
unfoldable pub amount_text : ℕ → List ℕ
amount_text cents = decimal (cents / 100) ++ 46 ∷ (48 + cents % 100 / 10) ∷ (48 + cents % 10) ∷ []
