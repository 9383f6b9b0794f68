-- The written form of an amount writes the amount. Proof plumbing.
use Rattle.std.proofs.Common.{◌≡◌, ◌∙◌, inr, sym, refl, arith, ℕ, ◌+◌, ◌*◌, ◌/◌, ◌%◌, ◌<◌, ◌≤◌, true, List, [], ◌∷◌, length}
use Rattle.std.specs.Prelude.{decimal}
use Rattle.std.specs.Char.{is_ascii_digit, digit_value}
use Rattle.std.specs.List.{list_all}
use Rattle.std.specs.Str.Parse.{digits_value, AllDigits, IsNumeral}
use Rattle.std.proofs.lemmas.Bool.{and_from}
use Rattle.std.proofs.lemmas.Bool.Decides.{nat_tests}
use Rattle.std.proofs.lemmas.Fmt.{decimal_is_IsNumeral, length-decimal-le}
use Rattle.sct_element.specs.Money.{IsAmountText, IsDecimals, IsEuros, amount_text}

digit_from_its_value : (c : ℕ) → digit_value c < 10 → is_ascii_digit c ≡ true
digit_from_its_value c h = grind (arith, nat_tests)

digits_alone : (s : List ℕ) → AllDigits 10 s → list_all is_ascii_digit s ≡ true
digits_alone [] h = refl
digits_alone (c ∷ cs) h = and_from _ _ (digit_from_its_value c h.0) (digits_alone cs h.1)

value_of_digit : (d : ℕ) → d < 10 → digit_value (48 + d) ≡ d
value_of_digit d h = grind (arith, nat_tests)

euros_written : (k : ℕ) → k ≤ 999999999 → IsEuros (decimal k) k
euros_written k few =
    let numeral : IsNumeral 10 (decimal k) × (digits_value 10 (decimal k) ≡ k) = decimal_is_IsNumeral k (omega arith) in
    (numeral.0.0, length-decimal-le 9 k (omega arith) (omega arith) (omega arith), digits_alone (decimal k) numeral.0.1, sym numeral.1)

cents_written : (tens ones r : ℕ) → tens < 10 → ones < 10 → r ≡ tens * 10 + ones → IsDecimals ((48 + tens) ∷ (48 + ones) ∷ []) r
cents_written tens ones r few less is =
    let first : is_ascii_digit (48 + tens) ≡ true = digit_from_its_value (48 + tens) (omega (arith, value_of_digit tens few)) in
    let second : is_ascii_digit (48 + ones) ≡ true = digit_from_its_value (48 + ones) (omega (arith, value_of_digit ones less)) in
    let value : digits_value 10 ((48 + tens) ∷ (48 + ones) ∷ []) ≡ r = rw (value_of_digit tens few, value_of_digit ones less) (omega (arith, is)) in
    (and_from _ _ first (and_from _ _ second refl), inr (refl, sym value))

pub amount_written : (n : ℕ) → 1 ≤ n → n ≤ 99999999999 → IsAmountText (amount_text n) n
unfolding amount_text
amount_written n some few = (
  some,
  few,
  inr (record {
    before = decimal (n / 100);
    behind = (48 + n % 100 / 10) ∷ (48 + n % 10) ∷ [];
    euros = n / 100;
    rest = n % 100;
    spelled = refl;
    whole = euros_written (n / 100) (omega arith);
    decimals = cents_written (n % 100 / 10) (n % 10) (n % 100) (omega arith) (omega arith) (omega arith);
    counted = omega arith;
  }),
)
