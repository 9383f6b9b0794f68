-- The written form of an amount is read as the same amount.
use Rattle.std.proofs.Common.{◌≡◌, ◌∙◌, ap, refl, arith, ℕ, ◌+◌, ◌*◌, ◌/◌, ◌%◌, ◌<◌, ◌≤◌, true, false, List, [], ◌∷◌, ◌++◌, length, Some}
use Rattle.std.specs.Prelude.{decimal, nat_le, nat_lt, position}
use Rattle.std.specs.Char.{is_ascii_digit, digit_value}
use Rattle.std.specs.List.{list_all, position_or_len}
use Rattle.std.specs.Str.Parse.{digits_value, AllDigits, IsNumeral}
use Rattle.std.proofs.lemmas.Bool.{and_from}
use Rattle.std.proofs.lemmas.Bool.Decides.{nat_tests}
use Rattle.std.proofs.lemmas.Fmt.{decimal_is_IsNumeral}
use Rattle.std.proofs.Math.Seq.{take-append_seam, drop-append-add}
use Rattle.std.proofs.Math.ListN.{length-append}
use Rattle.sct_element.specs.Money.{is_point, euros_of, hundredths_of, cents_of, amount_text}
use Rattle.sct_element.proofs.Decimals.{nine_long}

digit_from_its_value : (c : ℕ) → digit_value c < 10 → is_ascii_digit c ≡ true
digit_from_its_value c h = grind (arith, nat_tests)

pub no_point : (c : ℕ) → digit_value c < 10 → is_point c ≡ false
no_point c h = grind (arith, nat_tests)

digits_alone : (s : List ℕ) → AllDigits 10 s → list_all is_ascii_digit s ≡ true
digits_alone [] h = refl
digits_alone (c ∷ cs) h = and_from _ _ (digit_from_its_value c h.0) (digits_alone cs h.1)

-- the first point stands behind the digits
digits_long : (s rest : List ℕ) → AllDigits 10 s → position_or_len is_point (s ++ 46 ∷ rest) ≡ length s
digits_long [] rest h = refl
digits_long (c ∷ cs) rest h = rw (no_point c h.0, digits_long cs rest h.1) (omega arith)

point_behind : (s rest : List ℕ) → AllDigits 10 s → position is_point (s ++ 46 ∷ rest) ≡ Some (length s)
point_behind s rest h =
    let inside : nat_lt (length s) (length (s ++ 46 ∷ rest)) ≡ true =
    grind (arith, nat_tests, length-append s (46 ∷ rest)) in
    rw (digits_long s rest h, inside) refl

-- one to nine digits are whole euros
euros_written : (k : ℕ) → k ≤ 999999999 → euros_of (decimal k) ≡ Some k
euros_written k few =
    let numeral : IsNumeral 10 (decimal k) × (digits_value 10 (decimal k) ≡ k) =
    decimal_is_IsNumeral k (omega arith) in
    let some : nat_le 1 (length (decimal k)) ≡ true = grind (arith, nat_tests, numeral.0.0) in
    let nine : nat_le (length (decimal k)) 9 ≡ true = grind (arith, nat_tests, nine_long k few) in
    rw (some, nine, digits_alone (decimal k) numeral.0.1, numeral.1) refl

value_of_digit : (d : ℕ) → d < 10 → digit_value (48 + d) ≡ d
value_of_digit d h = grind (arith, nat_tests)

-- two digits are cents
cents_written : (r : ℕ) → r < 100 → hundredths_of ((48 + r / 10) ∷ (48 + r % 10) ∷ []) ≡ Some r
cents_written r few =
    let tens : digit_value (48 + r / 10) ≡ r / 10 = value_of_digit (r / 10) (omega arith) in
    let ones : digit_value (48 + r % 10) ≡ r % 10 = value_of_digit (r % 10) (omega arith) in
    let first : is_ascii_digit (48 + r / 10) ≡ true =
    digit_from_its_value (48 + r / 10) (omega (arith, tens)) in
    let second : is_ascii_digit (48 + r % 10) ≡ true =
    digit_from_its_value (48 + r % 10) (omega (arith, ones)) in
    let whole : (0 * 10 + r / 10) * 10 + r % 10 ≡ r = omega arith in
    rw (first, second, tens, ones, whole) refl

-- what the digits before a point and those behind it stand for
pub parts_read : (s rest : List ℕ) (euros cents : ℕ) → AllDigits 10 s → euros_of s ≡ Some euros
    → hundredths_of rest ≡ Some cents → 1 ≤ 100 * euros + cents
    → cents_of (s ++ 46 ∷ rest) ≡ Some (100 * euros + cents)
unfolding cents_of
parts_read s rest euros cents digits e c some =
    let positive : nat_le 1 (100 * euros + cents) ≡ true = grind (arith, nat_tests) in
    rw (point_behind s rest digits, take-append_seam s (46 ∷ rest), e, drop-append-add s (46 ∷ rest) 1, c, positive) refl

pub amount_reads_back : (n : ℕ) → 1 ≤ n → n ≤ 99999999999 → cents_of (amount_text n) ≡ Some n
unfolding amount_text
amount_reads_back n some few =
    let digits : AllDigits 10 (decimal (n / 100)) = (decimal_is_IsNumeral (n / 100) (omega arith)).0.1 in
    let ones : n % 100 % 10 ≡ n % 10 = omega arith in
    let cents : hundredths_of ((48 + n % 100 / 10) ∷ (48 + n % 10) ∷ []) ≡ Some (n % 100) =
    rw (← ones) (cents_written (n % 100) (omega arith)) in
    let whole : 100 * (n / 100) + n % 100 ≡ n = omega arith in
    parts_read (decimal (n / 100)) ((48 + n % 100 / 10) ∷ (48 + n % 10) ∷ []) (n / 100) (n % 100) digits (euros_written (n / 100) (omega arith)) cents (omega arith)
    ∙ ap (λ (m : ℕ). Some m) whole
