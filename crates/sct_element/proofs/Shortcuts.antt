-- What one look at the bytes of a text shows: that it has no small letter, no slash, or no more characters than allowed.
use lib.Utf8.{encodes}
use Rattle.std.proofs.Common.{◌≡◌, ◌∙◌, ap, subst, refl, arith, cond, ℕ, zero, suc, ◌-◌, ◌<◌, ◌≤◌, ◌==◌, ◌&&◌, ◌||◌, Bool, true, false, List, [], ◌∷◌, length, map, get_or}
use Rattle.std.specs.Prelude.{nat_le, not, IsUtf8, chars}
use Rattle.std.proofs.lemmas.List.FromFn.{get_or-map-range_with_len}
use Rattle.sct_element.specs.declared.identification.TheConstants.{SEPA_CHARACTERS}
use Rattle.std.specs.List.{list_all, range_with_len}
use Rattle.std.proofs.lemmas.Bool.{and_parts, and_from}
use Rattle.std.proofs.lemmas.Bool.Decides.{nat_tests}
use Rattle.std.proofs.lemmas.Str.{encodes-chars, length-le-encodes}
use Rattle.std.proofs.lemmas.Str.Ascii.{uppercase_is}
use Rattle.sct_element.specs.Text.{is_capital_or_digit}
use Rattle.sct_element.specs.Account.{capitals}
use Rattle.sct_element.specs.Identification.{is_sepa_character, is_identification, has_double_slash}
use Rattle.sct_element.specs.Party.{has_characters}

-- ---- a text without small letters

no_small : (c : ℕ) → is_capital_or_digit c ≡ true → c < 97
no_small c h = grind (arith, nat_tests)

pub capitals_stay : (s : List ℕ) → list_all is_capital_or_digit s ≡ true → capitals s ≡ s
capitals_stay [] h = refl
capitals_stay (c ∷ cs) h =
    let parts : (is_capital_or_digit c ≡ true) × (list_all is_capital_or_digit cs ≡ true) = and_parts _ _ h in
    ap (λ (d : ℕ). d ∷ capitals cs) ((uppercase_is c).1 (no_small c parts.0))
    ∙ ap (λ (ds : List ℕ). c ∷ ds) (capitals_stay cs parts.1)

-- ---- the table of characters, held against the definition at each of the 256 bytes, by computing

abbrev mark : ℕ → ℕ
mark b = cond (is_sepa_character b) (cond (b == 47) 2 1) 0

table_is : SEPA_CHARACTERS ≡ map mark (range_with_len 0 256)
table_is = refl

mark_at : (b : ℕ) → b < 256 → get_or SEPA_CHARACTERS b 0 ≡ mark b
mark_at b h =
    ap (λ (t : List ℕ). get_or t b 0) table_is ∙ get_or-map-range_with_len mark 0 256 b b 0 h (omega arith)

marked : (carried slash : Bool) → not (cond carried (cond slash 2 1) 0 == 0) ≡ carried
marked false slash = refl
marked true false = refl
marked true true = refl

marked_plain : (carried slash : Bool) → (cond carried (cond slash 2 1) 0 == 1) ≡ (carried && not slash)
marked_plain false slash = refl
marked_plain true false = refl
marked_plain true true = refl

pub read_carried : (b : ℕ) → b < 256 → not (get_or SEPA_CHARACTERS b 0 == 0) ≡ is_sepa_character b
read_carried b h = ap (λ (n : ℕ). not (n == 0)) (mark_at b h) ∙ marked (is_sepa_character b) (b == 47)

pub read_plain : (b : ℕ) → b < 256 → (get_or SEPA_CHARACTERS b 0 == 1) ≡ (is_sepa_character b && not (b == 47))
read_plain b h = ap (λ (n : ℕ). n == 1) (mark_at b h) ∙ marked_plain (is_sepa_character b) (b == 47)

-- ---- a text without slashes

abbrev plain : ℕ → Bool
plain c = is_sepa_character c && not (c == 47)

abbrev slashes : ℕ × ℕ → Bool
slashes p = p.0 == 47 && p.1 == 47

not_so : (b : Bool) → not b ≡ true → b ≡ false
not_so true h = cc
not_so false h = refl

plain_carried : (s : List ℕ) → list_all plain s ≡ true → list_all is_sepa_character s ≡ true
plain_carried [] h = refl
plain_carried (c ∷ cs) h =
    let parts : (plain c ≡ true) × (list_all plain cs ≡ true) = and_parts _ _ h in
    and_from _ _ (and_parts _ _ parts.0).0 (plain_carried cs parts.1)

no_slash : (c : ℕ) → plain c ≡ true → (c == 47) ≡ false
no_slash c h = not_so (c == 47) (and_parts _ _ h).1

no_slash_at : (s : List ℕ) (i : ℕ) → list_all plain s ≡ true → i < length s → (get_or s i 0 == 47) ≡ false
no_slash_at [] i h l = absurd (omega (arith, l))
no_slash_at (c ∷ cs) zero h l = no_slash c (and_parts _ _ h).0
no_slash_at (c ∷ cs) (suc i) h l = no_slash_at cs i (and_parts _ _ h).1 (omega (arith, l))

no_pair : (c d : ℕ) → (c == 47) ≡ false → slashes (c, d) ≡ false
no_pair c d h = ap (λ (b : Bool). b && (d == 47)) h

no_two_slashes : (s : List ℕ) → list_all plain s ≡ true → has_double_slash s ≡ false
no_two_slashes [] h = refl
no_two_slashes (c ∷ []) h = refl
no_two_slashes (c ∷ (d ∷ ds)) h =
    let parts : (plain c ≡ true) × (list_all plain (d ∷ ds) ≡ true) = and_parts _ _ h in
    ap (λ (b : Bool). b || has_double_slash (d ∷ ds)) (no_pair c d (no_slash c parts.0))
    ∙ no_two_slashes (d ∷ ds) parts.1

length_tested : (n : ℕ) → (nat_le 1 n && nat_le n 35) ≡ true → 1 ≤ n
length_tested n h = grind (arith, nat_tests)

pub plain_identifies : (s : List ℕ) → (nat_le 1 (length s) && nat_le (length s) 35) ≡ true → list_all plain s ≡ true
    → is_identification s ≡ true
plain_identifies s sized h =
    let some : 1 ≤ length s = length_tested (length s) sized in
    and_from _ _ (and_from _ _ (and_from _ _
    (and_from _ _ sized (plain_carried s h))
    (ap not (no_slash_at s 0 h (omega (arith, some)))))
    (ap not (no_slash_at s (length s - 1) h (omega (arith, some)))))
    (ap not (no_two_slashes s h))

-- ---- a text of no more bytes than it may have characters

chars_no_more : (s : List ℕ) → IsUtf8 s → length (chars s) ≤ length s
chars_no_more s u = subst (λ (t : List ℕ). length (chars s) ≤ length t) (encodes-chars s u) (length-le-encodes (chars s))

some_chars : (cs s : List ℕ) → encodes cs ≡ s → 1 ≤ length s → 1 ≤ length cs
some_chars [] s e l = absurd (omega (arith, l, ap length e))
some_chars (c ∷ cs) s e l = omega arith

within : (n m most : ℕ) → 1 ≤ n → n ≤ m → (nat_le 1 m && nat_le m most) ≡ true → (nat_le 1 n && nat_le n most) ≡ true
within n m most some l h = grind (arith, nat_tests)

sized_tested : (n most : ℕ) → (nat_le 1 n && nat_le n most) ≡ true → 1 ≤ n
sized_tested n most h = grind (arith, nat_tests)

pub bytes_suffice : (most : ℕ) (s : List ℕ) → IsUtf8 s → (nat_le 1 (length s) && nat_le (length s) most) ≡ true
    → has_characters most s ≡ true
bytes_suffice most s u h =
    within (length (chars s)) (length s) most (some_chars (chars s) s (encodes-chars s u) (sized_tested (length s) most h)) (chars_no_more s u) h
