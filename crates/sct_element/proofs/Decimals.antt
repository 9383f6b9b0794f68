-- What digits stand for, and how a number is written in them.
use Rattle.std.proofs.Common.{◌≡◌, ◌∙◌, ap, sym, arith, ℕ, ◌+◌, ◌-◌, ◌*◌, ◌/◌, ◌%◌, ◌^◌, ◌<◌, ◌≤◌, true, List, [], ◌∷◌, ◌++◌, take, drop, length, get_or}
use Rattle.std.specs.Char.{is_ascii_digit, digit_value}
use Rattle.std.specs.List.{list_all}
use Rattle.std.specs.Str.Parse.{digits_value, AllDigits}
use Rattle.std.proofs.lemmas.Bool.{and_parts}
use Rattle.std.proofs.lemmas.Bool.Decides.{nat_tests}
use Rattle.std.proofs.lemmas.Int.Digits.{digits_value-lt, digits_value_more}
use Rattle.std.proofs.Math.Nat.{pow-le-pow_right}
use Rattle.std.proofs.Math.ListN.{length-append, length-take}
use Rattle.std.specs.Prelude.{decimal}
use Rattle.std.proofs.lemmas.Fmt.{decimal_digit, decimal_step, length-decimal-le}
use Rattle.std.proofs.lemmas.List.{take-append-drop}
use Rattle.std.proofs.lemmas.List.Folds.{list_all-append, list_all_more}

digit_below_ten : (c : ℕ) → is_ascii_digit c ≡ true → digit_value c < 10
digit_below_ten c h = grind (arith, nat_tests)

pub digit_is : (c : ℕ) → is_ascii_digit c ≡ true → digit_value c ≡ c - 48
digit_is c h = grind (arith, nat_tests)

pub all_digits : (s : List ℕ) → list_all is_ascii_digit s ≡ true → AllDigits 10 s
all_digits [] h = tt
all_digits (c ∷ cs) h =
    let parts : (is_ascii_digit c ≡ true) × (list_all is_ascii_digit cs ≡ true) = and_parts _ _ h in
    (digit_below_ten c parts.0, all_digits cs parts.1)

pub value_below : (s : List ℕ) → list_all is_ascii_digit s ≡ true → digits_value 10 s < 10 ^ length s
value_below s h = digits_value-lt 10 s (all_digits s h)

pub few_digits_below : (v n k : ℕ) → v < 10 ^ n → n ≤ k → v < 10 ^ k
few_digits_below v n k h le = let grows : 10 ^ n ≤ 10 ^ k = pow-le-pow_right (omega arith) le in omega arith

pub nine_digits_below : (s : List ℕ) → list_all is_ascii_digit s ≡ true → length s ≤ 9
    → digits_value 10 s ≤ 999999999
nine_digits_below s h few =
    let b : digits_value 10 s < 10 ^ 9 = few_digits_below _ _ 9 (value_below s h) few in omega arith

pub two_digits_below : (s : List ℕ) → list_all is_ascii_digit s ≡ true → length s ≤ 2 → digits_value 10 s ≤ 99
two_digits_below s h few =
    let b : digits_value 10 s < 10 ^ 2 = few_digits_below _ _ 2 (value_below s h) few in omega arith

pub one_digit_below : (s : List ℕ) → list_all is_ascii_digit s ≡ true → length s ≡ 1 → digits_value 10 s ≤ 9
one_digit_below s h one =
    let b : digits_value 10 s < 10 ^ 1 = few_digits_below _ _ 1 (value_below s h) (omega arith) in omega arith

-- ---- a number so far

all_of_front : (s : List ℕ) (i : ℕ) → list_all is_ascii_digit s ≡ true
    → list_all is_ascii_digit (take i s) ≡ true
all_of_front s i h =
    let parts : (list_all is_ascii_digit (take i s) ≡ true) × (list_all is_ascii_digit (drop i s) ≡ true) =
    and_parts _ _ (sym (list_all-append is_ascii_digit (take i s) (drop i s)) ∙ ap (list_all is_ascii_digit) (take-append-drop i s) ∙ h) in
    parts.0

pub digit_at : (s : List ℕ) (i : ℕ) → list_all is_ascii_digit s ≡ true → i < length s
    → is_ascii_digit (get_or s i 0) ≡ true
digit_at s i h lt =
    let parts : (list_all is_ascii_digit (take i s) ≡ true) × (is_ascii_digit (get_or s i 0) ≡ true) =
    and_parts _ _ (sym (list_all_more is_ascii_digit s i 0 lt) ∙ all_of_front s (i + 1) h) in
    parts.1

pub one_more_digit : (s : List ℕ) (i : ℕ) → list_all is_ascii_digit s ≡ true → i < length s
    → digits_value 10 (take (i + 1) s) ≡ digits_value 10 (take i s) * 10 + (get_or s i 0 - 48)
one_more_digit s i h lt = digits_value_more 10 s i lt
    ∙ ap (λ (d : ℕ). digits_value 10 (take i s) * 10 + d) (digit_is (get_or s i 0) (digit_at s i h lt))

pub front_below : (s : List ℕ) (i : ℕ) → list_all is_ascii_digit s ≡ true → length s ≤ 9
    → digits_value 10 (take i s) < 1000000000
front_below s i h few =
    few_digits_below _ _ 9 (value_below (take i s) (all_of_front s i h)) (omega (arith, length-take i s, few))

-- ---- a number in decimal

pub one_digit : (n : ℕ) → n < 10 → decimal n ≡ (48 + n) ∷ []
one_digit = decimal_digit

pub last_digit : (n : ℕ) → 10 ≤ n → n < 2 ^ 64 → decimal n ≡ decimal (n / 10) ++ (48 + n % 10) ∷ []
last_digit = decimal_step

pub one_digit_long : (n : ℕ) → n < 10 → length (decimal n) ≡ 1
one_digit_long n h = ap (λ (s : List ℕ). length s) (decimal_digit n h)

pub last_digit_long : (n : ℕ) → 10 ≤ n → n < 2 ^ 64 → length (decimal n) ≡ length (decimal (n / 10)) + 1
last_digit_long n h k = ap (λ (s : List ℕ). length s) (decimal_step n h k)
    ∙ length-append (decimal (n / 10)) ((48 + n % 10) ∷ [])

pub nine_long : (n : ℕ) → n ≤ 999999999 → length (decimal n) ≤ 9
nine_long n h = length-decimal-le 9 n (omega arith) (omega arith) (omega arith)
