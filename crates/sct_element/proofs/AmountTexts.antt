-- An amount is read from a text exactly where the text writes it.
use Rattle.std.proofs.Common.{◌≡◌, ◌∙◌, ◌⊎◌, inl, inr, ap, sym, refl, arith, ℕ, ◌+◌, ◌*◌, ◌==◌, ◌&&◌, ◌<◌, ◌≤◌, Bool, true, false, if◌then◌else◌, List, [], ◌∷◌, ◌++◌, length, take, drop, get_or, drop-cons, add-one, Option, Some, None}
use Rattle.std.specs.Prelude.{nat_le, nat_lt, position}
use Rattle.std.specs.Char.{is_ascii_digit}
use Rattle.std.specs.List.{list_all, position_or_len}
use Rattle.std.specs.Str.Parse.{digits_value, AllDigits}
use Rattle.std.proofs.lemmas.Bool.{and_parts, and_from, eqb-true}
use Rattle.std.proofs.lemmas.Bool.Decides.{nat_tests}
use Rattle.std.proofs.lemmas.List.{take-append-drop}
use Rattle.std.proofs.lemmas.List.Quantifiers.{position-Some}
use Rattle.sct_element.specs.Money.{IsEuros, IsDecimals, HasDecimals, IsWhole, IsAmountText, is_point, euros_of, hundredths_of, euros_before, cents_after, in_all, cents_of}
use Rattle.sct_element.proofs.Decimals.{all_digits, nine_digits_below, two_digits_below, one_digit_below}
use Rattle.sct_element.proofs.Amounts.{parts_read, no_point}

-- what passed a test, and what stands there now
passed : (b : Bool) (n m : ℕ) → (if b then Some n else None) ≡ Some m → (b ≡ true) × (n ≡ m)
passed true n m e = (refl, cc)
passed false n m e = cc

read_where : (b : Bool) (n : ℕ) → b ≡ true → (if b then Some n else None) ≡ Some n
read_where b n e = rw e refl

-- one digit at least, and at most so many
sized : (s : List ℕ) (most : ℕ)
    → (nat_le 1 (length s) && nat_le (length s) most && list_all is_ascii_digit s) ≡ true
    → (1 ≤ length s) × (length s ≤ most) × (list_all is_ascii_digit s ≡ true)
sized s most h =
    let outer : ((nat_le 1 (length s) && nat_le (length s) most) ≡ true) × (list_all is_ascii_digit s ≡ true) = and_parts _ _ h in
    let inner : (nat_le 1 (length s) ≡ true) × (nat_le (length s) most ≡ true) = and_parts _ _ outer.0 in
    (grind (arith, nat_tests, inner.0), grind (arith, nat_tests, inner.1), outer.1)

sized_passes : (s : List ℕ) (most : ℕ) → 1 ≤ length s → length s ≤ most → list_all is_ascii_digit s ≡ true
    → (nat_le 1 (length s) && nat_le (length s) most && list_all is_ascii_digit s) ≡ true
sized_passes s most some few digits =
    let least : nat_le 1 (length s) ≡ true = grind (arith, nat_tests, some) in
    let greatest : nat_le (length s) most ≡ true = grind (arith, nat_tests, few) in
    and_from _ _ (and_from _ _ least greatest) digits

-- ---- whole euros

euros_written : (s : List ℕ) (euros : ℕ) → euros_of s ≡ Some euros → IsEuros s euros
euros_written s euros e =
    let k : ((nat_le 1 (length s) && nat_le (length s) 9 && list_all is_ascii_digit s) ≡ true) × (digits_value 10 s ≡ euros) = passed _ _ _ e in
    let long : (1 ≤ length s) × (length s ≤ 9) × (list_all is_ascii_digit s ≡ true) = sized s 9 k.0 in
    (long.0, long.1, long.2, sym k.1)

euros_read : (s : List ℕ) (euros : ℕ) → IsEuros s euros → euros_of s ≡ Some euros
euros_read s euros (some, few, digits, value) =
    read_where _ (digits_value 10 s) (sized_passes s 9 some few digits) ∙ ap (λ (n : ℕ). Some n) (sym value)

-- ---- decimals

abbrev counted : List ℕ → Bool → ℕ
counted s one = if one then 10 * digits_value 10 s else digits_value 10 s

length_told : (s : List ℕ) (cents : ℕ) (one : Bool) → (length s == 1) ≡ one → 1 ≤ length s → length s ≤ 2
    → counted s one ≡ cents
    → ((length s ≡ 1) × (cents ≡ 10 * digits_value 10 s)) ⊎ ((length s ≡ 2) × (cents ≡ digits_value 10 s))
length_told s cents true e some few h = inl (eqb-true _ _ e, sym h)
length_told s cents false e some few h = inr (grind (arith, nat_tests, e), sym h)

decimals_written : (s : List ℕ) (cents : ℕ) → hundredths_of s ≡ Some cents → IsDecimals s cents
decimals_written s cents e =
    let k : ((nat_le 1 (length s) && nat_le (length s) 2 && list_all is_ascii_digit s) ≡ true) × (counted s (length s == 1) ≡ cents) = passed _ _ _ e in
    let long : (1 ≤ length s) × (length s ≤ 2) × (list_all is_ascii_digit s ≡ true) = sized s 2 k.0 in
    (long.2, length_told s cents (length s == 1) refl long.0 long.1 k.1)

decimals_by : (s : List ℕ) (cents : ℕ) → list_all is_ascii_digit s ≡ true
    → ((length s ≡ 1) × (cents ≡ 10 * digits_value 10 s)) ⊎ ((length s ≡ 2) × (cents ≡ digits_value 10 s))
    → hundredths_of s ≡ Some cents
decimals_by s cents digits (inl (one, value)) =
    read_where _ (counted s (length s == 1)) (sized_passes s 2 (omega (arith, one)) (omega (arith, one)) digits)
    ∙ ap (λ (n : ℕ). Some (counted s (n == 1))) one ∙ ap (λ (n : ℕ). Some n) (sym value)
decimals_by s cents digits (inr (two, value)) =
    read_where _ (counted s (length s == 1)) (sized_passes s 2 (omega (arith, two)) (omega (arith, two)) digits)
    ∙ ap (λ (n : ℕ). Some (counted s (n == 1))) two ∙ ap (λ (n : ℕ). Some n) (sym value)

decimals_read : (s : List ℕ) (cents : ℕ) → IsDecimals s cents → hundredths_of s ≡ Some cents
decimals_read s cents (digits, value) = decimals_by s cents digits value

-- ---- the place of the point

digits_through : (s : List ℕ) → AllDigits 10 s → position_or_len is_point s ≡ length s
digits_through [] h = refl
digits_through (c ∷ cs) h = rw (no_point c h.0, digits_through cs h.1) (omega arith)

no_place : (s : List ℕ) → AllDigits 10 s → position is_point s ≡ None
no_place s h =
    let outside : nat_lt (length s) (length s) ≡ false = grind (arith, nat_tests) in
    rw (digits_through s h, outside) refl

cut_there : (s : List ℕ) (at : ℕ) → position is_point s ≡ Some at → s ≡ take at s ++ 46 ∷ drop (at + 1) s
cut_there s at e =
    let there : (at < length s) × (is_point (get_or s at 0) ≡ true) × ((k : ℕ) → k < at → is_point (get_or s k 0) ≡ false) = position-Some is_point s at 0 e in
    let point : get_or s at 0 ≡ 46 = eqb-true _ _ there.1 in
    let behind : drop at s ≡ get_or s at 0 ∷ drop (at + 1) s =
    rw (drop-cons s at 0 there.0, add-one at) refl in
    sym (take-append-drop at s) ∙ ap (λ (t : List ℕ). take at s ++ t) behind
    ∙ ap (λ (c : ℕ). take at s ++ c ∷ drop (at + 1) s) point

-- ---- a text that is read

joined : (e c : Option ℕ) (n : ℕ) → in_all e c ≡ Some n
    → (euros : ℕ) × (rest : ℕ) × (e ≡ Some euros) × (c ≡ Some rest) × (n ≡ 100 * euros + rest) × (1 ≤ n)
joined None c n h = cc
joined (Some euros) None n h = cc
joined (Some euros) (Some rest) n h =
    let k : (nat_le 1 (100 * euros + rest) ≡ true) × (100 * euros + rest ≡ n) = passed _ _ _ h in
    let some : 1 ≤ 100 * euros + rest = grind (arith, nat_tests, k.0) in
    (euros, rest, refl, refl, sym k.1, omega arith)

euros_few : (s : List ℕ) (euros : ℕ) → IsEuros s euros → euros ≤ 999999999
euros_few s euros (some, few, digits, value) =
    let small : digits_value 10 s ≤ 999999999 = nine_digits_below s digits few in omega arith

cents_few : (s : List ℕ) (cents : ℕ) → IsDecimals s cents → cents ≤ 99
cents_few s cents (digits, inl (one, value)) =
    let small : digits_value 10 s ≤ 9 = one_digit_below s digits one in omega arith
cents_few s cents (digits, inr (two, value)) =
    let small : digits_value 10 s ≤ 99 = two_digits_below s digits (omega (arith, two)) in omega arith

in_bounds : (euros rest n : ℕ) → euros ≤ 999999999 → rest ≤ 99 → n ≡ 100 * euros + rest → n ≤ 99999999999
in_bounds euros rest n few small sum = omega arith

written_at : (s : List ℕ) (n : ℕ) (place : Option ℕ) → position is_point s ≡ place
    → in_all (euros_before place s) (cents_after place s) ≡ Some n
    → IsAmountText s n
written_at s n None e h =
    let k : (euros : ℕ) × (rest : ℕ) × (euros_of s ≡ Some euros) × (Some 0 ≡ Some rest) × (n ≡ 100 * euros + rest) × (1 ≤ n) = joined (euros_of s) (Some 0) n h in
    let none : 0 ≡ k.1 = cc in
    let whole : IsEuros s k.0 = euros_written s k.0 k.2 in
    let sum : n ≡ 100 * k.0 = omega (arith, none, k.4) in
    (k.5, in_bounds k.0 k.1 n (euros_few s k.0 whole) (omega (arith, none)) k.4, inl (record { euros = k.0; whole = whole; counted = sum }))
written_at s n (Some at) e h =
    let k : (euros : ℕ) × (rest : ℕ) × (euros_of (take at s) ≡ Some euros) × (hundredths_of (drop (at + 1) s) ≡ Some rest) × (n ≡ 100 * euros + rest) × (1 ≤ n) =
    joined (euros_of (take at s)) (hundredths_of (drop (at + 1) s)) n h in
    let whole : IsEuros (take at s) k.0 = euros_written (take at s) k.0 k.2 in
    let decimals : IsDecimals (drop (at + 1) s) k.1 = decimals_written (drop (at + 1) s) k.1 k.3 in (
      k.5,
      in_bounds k.0 k.1 n (euros_few (take at s) k.0 whole) (cents_few (drop (at + 1) s) k.1 decimals) k.4,
      inr (record { before = take at s; behind = drop (at + 1) s; euros = k.0; rest = k.1; spelled = cut_there s at e; whole = whole; decimals = decimals; counted = k.4 }),
    )

pub amount_written : (s : List ℕ) (n : ℕ) → cents_of s ≡ Some n → IsAmountText s n
unfolding cents_of
amount_written s n h = written_at s n (position is_point s) refl h

-- ---- a text that writes an amount

whole_read : (s : List ℕ) (n : ℕ) → 1 ≤ n → IsWhole s n → cents_of s ≡ Some n
unfolding cents_of
whole_read s n some w =
    let digits : list_all is_ascii_digit s ≡ true = w.whole.2 in
    let read : euros_of s ≡ Some w.euros = euros_read s w.euros w.whole in
    let positive : nat_le 1 (100 * w.euros + 0) ≡ true = grind (arith, nat_tests, some, w.counted) in
    let same : 100 * w.euros + 0 ≡ n = omega (arith, w.counted) in
    rw (no_place s (all_digits s digits), read, positive, same) refl

with_decimals_read : (s : List ℕ) (n : ℕ) → 1 ≤ n → HasDecimals s n → cents_of s ≡ Some n
with_decimals_read s n some w =
    let digits : AllDigits 10 w.before = all_digits w.before w.whole.2 in
    let parts : cents_of (w.before ++ 46 ∷ w.behind) ≡ Some (100 * w.euros + w.rest) =
    parts_read w.before w.behind w.euros w.rest digits (euros_read w.before w.euros w.whole) (decimals_read w.behind w.rest w.decimals) (omega (arith, w.counted)) in
    ap cents_of w.spelled ∙ parts ∙ ap (λ (m : ℕ). Some m) (sym w.counted)

pub amount_read : (s : List ℕ) (n : ℕ) → IsAmountText s n → cents_of s ≡ Some n
amount_read s n (some, few, inl whole) = whole_read s n some whole
amount_read s n (some, few, inr decimals) = with_decimals_read s n some decimals
