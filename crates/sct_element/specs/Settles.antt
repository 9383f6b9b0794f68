-- Proof plumbing: each rule of texts keeps this law, that a written form is read as itself.
use Rattle.std.specs.Prelude.{codes, slice_index, nat_le}
use Rattle.std.specs.Char.{is_ascii_uppercase, is_ascii_digit, is_ascii_alphanumeric, to_ascii_uppercase}
use Rattle.std.specs.List.{list_all}
use Rattle.std.proofs.Common.{◌≡◌, ◌∙◌, ap, sym, subst, refl, arith, ℕ, ◌==◌, ◌&&◌, ◌||◌, Bool, true, false, if◌then◌else◌, List, [], ◌∷◌, ◌++◌, ◌%◌, length, take, drop, get_or, Some}
use Rattle.std.proofs.Math.ListN.{get_or-append, length-append}
use Rattle.std.proofs.lemmas.Bool.{and_parts, and_from, eqb-true}
use Rattle.std.proofs.lemmas.Bool.Decides.{nat_tests}
use Rattle.std.proofs.lemmas.Str.Ascii.{uppercase-uppercase}
use Rattle.std.proofs.Math.ListN.{length-map}
use Rattle.std.specs.List.{take-map, drop-map}
use Rattle.std.proofs.lemmas.List.Folds.{list_all-append}
use Rattle.sct_element.specs.Text.{where_read, is_capital_or_digit}
use Rattle.sct_element.specs.Account.{capitals, account_number, is_account_shaped, is_iban, written_iban}
use Rattle.sct_element.specs.Bank.{is_bic, full_bic, written_bic}
use Rattle.sct_element.specs.Date.{is_day, written_day}
use Rattle.sct_element.specs.Identification.{is_identification, is_short_text, is_code, written_identification, written_stamp, written_code}

-- a text that was read passed the test, and is the written form
pub read_parts : (b : Bool) (s t : List ℕ) → where_read b s ≡ Some t → (b ≡ true) × (s ≡ t)
read_parts true s t e = (refl, cc)
read_parts false s t e = cc

pub read_where_passed : (b : Bool) (s : List ℕ) → b ≡ true → where_read b s ≡ Some s
read_where_passed b s e = rw e refl

pub unchanged_settles : (p : List ℕ → Bool) (s t : List ℕ) → where_read (p s) s ≡ Some t
    → where_read (p t) t ≡ Some t
unchanged_settles p s t e =
    let k : (p s ≡ true) × (s ≡ t) =
    read_parts (p s) s t e in read_where_passed (p t) t (ap p (sym k.1) ∙ k.0)

pub identification_settles : (s t : List ℕ) → written_identification s ≡ Some t
    → written_identification t ≡ Some t
unfolding written_identification
identification_settles = unchanged_settles is_identification

pub stamp_settles : (s t : List ℕ) → written_stamp s ≡ Some t → written_stamp t ≡ Some t
unfolding written_stamp
stamp_settles = unchanged_settles is_short_text

pub code_settles : (s t : List ℕ) → written_code s ≡ Some t → written_code t ≡ Some t
unfolding written_code
code_settles = unchanged_settles is_code

pub day_settles : (s t : List ℕ) → written_day s ≡ Some t → written_day t ≡ Some t
unfolding written_day
day_settles = unchanged_settles is_day

-- ---- a BIC of 11 characters is its own written form

abbrev head_office : List ℕ → List ℕ
head_office s = s ++ codes "XXX"

head_office_length : (s : List ℕ) → length s ≡ 8 → length (head_office s) ≡ 11
head_office_length s l = simp length-append (omega (arith, l))

head_office_is_bic : (s : List ℕ) → length s ≡ 8 → is_bic s ≡ true → is_bic (head_office s) ≡ true
head_office_is_bic s l h =
    let outer : (((length s == 8 || length s == 11) && list_all is_capital_or_digit s && is_ascii_uppercase (slice_index s 4)) ≡ true) × (is_ascii_uppercase (slice_index s 5) ≡ true) = and_parts _ _ h in
    let inner : (((length s == 8 || length s == 11) && list_all is_capital_or_digit s) ≡ true) × (is_ascii_uppercase (slice_index s 4) ≡ true) = and_parts _ _ outer.0 in
    let spelled : ((length s == 8 || length s == 11) ≡ true) × (list_all is_capital_or_digit s ≡ true) =
    and_parts _ _ inner.0 in
    let fifth : get_or (head_office s) 4 0 ≡ get_or s 4 0 =
    get_or-append s (codes "XXX") 0 4 (omega (arith, l)) in
    let sixth : get_or (head_office s) 5 0 ≡ get_or s 5 0 =
    get_or-append s (codes "XXX") 0 5 (omega (arith, l)) in
    and_from _ _ (and_from _ _ (and_from _ _
    (ap (λ (n : ℕ). n == 8 || n == 11) (head_office_length s l))
    (list_all-append is_capital_or_digit s (codes "XXX") ∙ and_from _ _ spelled.1 refl))
    (ap is_ascii_uppercase fifth ∙ inner.1))
    (ap is_ascii_uppercase sixth ∙ outer.1)

full_bic_when : (s : List ℕ) (b : Bool) → (length s == 8) ≡ b → full_bic s ≡ (if b then head_office s else s)
full_bic_when s b e = ap (λ (c : Bool). if c then head_office s else s) e

full_bic_read : (s : List ℕ) (b : Bool) → (length s == 8) ≡ b → is_bic s ≡ true
    → where_read (is_bic (full_bic s)) (full_bic (full_bic s)) ≡ Some (full_bic s)
full_bic_read s false e h =
    let stays : full_bic s ≡ s = full_bic_when s false e in
    subst (λ (u : List ℕ). where_read (is_bic u) (full_bic u) ≡ Some u) (sym stays) (rw (h, stays) refl)
full_bic_read s true e h =
    let grows : full_bic s ≡ head_office s = full_bic_when s true e in
    let l : length s ≡ 8 = eqb-true _ _ e in
    let stays : full_bic (head_office s) ≡ head_office s =
    full_bic_when (head_office s) false (ap (λ (n : ℕ). n == 8) (head_office_length s l)) in
    let read : is_bic (head_office s) ≡ true = head_office_is_bic s l h in
    subst (λ (u : List ℕ). where_read (is_bic u) (full_bic u) ≡ Some u) (sym grows) (rw (read, stays) refl)

pub bic_settles : (s t : List ℕ) → written_bic s ≡ Some t → written_bic t ≡ Some t
unfolding written_bic
bic_settles s t e =
    let k : (is_bic s ≡ true) × (full_bic s ≡ t) = read_parts (is_bic s) (full_bic s) t e in
    subst (λ (u : List ℕ). where_read (is_bic u) (full_bic u) ≡ Some u) k.1 (full_bic_read s (length s == 8) refl k.0)

-- ---- an IBAN in capitals is its own written form

capitals_again : (s : List ℕ) → capitals (capitals s) ≡ capitals s
capitals_again [] = refl
capitals_again (c ∷ cs) = ap (λ (d : ℕ). d ∷ capitals (capitals cs)) (uppercase-uppercase c)
    ∙ ap (λ (ds : List ℕ). to_ascii_uppercase c ∷ ds) (capitals_again cs)

-- a test that passes a capital if it passes the letter
all_in_capitals : (p : ℕ → Bool) → ((c : ℕ) → p c ≡ true → p (to_ascii_uppercase c) ≡ true) → (s : List ℕ)
    → list_all p s ≡ true → list_all p (capitals s) ≡ true
all_in_capitals p keeps [] h = refl
all_in_capitals p keeps (c ∷ cs) h =
    let parts : (p c ≡ true) × (list_all p cs ≡ true) = and_parts _ _ h in
    and_from _ _ (keeps c parts.0) (all_in_capitals p keeps cs parts.1)

capital_stays : (c : ℕ) → is_ascii_uppercase c ≡ true → is_ascii_uppercase (to_ascii_uppercase c) ≡ true
capital_stays c h = grind (arith, nat_tests)

digit_stays : (c : ℕ) → is_ascii_digit c ≡ true → is_ascii_digit (to_ascii_uppercase c) ≡ true
digit_stays c h = grind (arith, nat_tests)

alphanumeric_stays : (c : ℕ) → is_ascii_alphanumeric c ≡ true
    → is_ascii_alphanumeric (to_ascii_uppercase c) ≡ true
alphanumeric_stays c h = grind (arith, nat_tests)

capitals_shaped : (s : List ℕ) → is_account_shaped s ≡ true → is_account_shaped (capitals s) ≡ true
capitals_shaped s h =
    let tail : ((nat_le 5 (length s) && nat_le (length s) 34 && list_all is_ascii_uppercase (take 2 s) && list_all is_ascii_digit (take 2 (drop 2 s))) ≡ true) × (list_all is_ascii_alphanumeric (drop 4 s) ≡ true) = and_parts _ _ h in
    let check : ((nat_le 5 (length s) && nat_le (length s) 34 && list_all is_ascii_uppercase (take 2 s)) ≡ true) × (list_all is_ascii_digit (take 2 (drop 2 s)) ≡ true) = and_parts _ _ tail.0 in
    let country : ((nat_le 5 (length s) && nat_le (length s) 34) ≡ true) × (list_all is_ascii_uppercase (take 2 s) ≡ true) = and_parts _ _ check.0 in
    and_from _ _ (and_from _ _ (and_from _ _
    (ap (λ (n : ℕ). nat_le 5 n && nat_le n 34) (length-map s to_ascii_uppercase) ∙ country.0)
    (ap (list_all is_ascii_uppercase) (take-map to_ascii_uppercase 2 s) ∙ all_in_capitals is_ascii_uppercase capital_stays (take 2 s) country.1))
    (ap (λ (t : List ℕ). list_all is_ascii_digit (take 2 t)) (drop-map to_ascii_uppercase 2 s) ∙ ap (list_all is_ascii_digit) (take-map to_ascii_uppercase 2 (drop 2 s)) ∙ all_in_capitals is_ascii_digit digit_stays (take 2 (drop 2 s)) check.1))
    (ap (list_all is_ascii_alphanumeric) (drop-map to_ascii_uppercase 4 s) ∙ all_in_capitals is_ascii_alphanumeric alphanumeric_stays (drop 4 s) tail.1)

capitals_read : (s : List ℕ) → is_iban s ≡ true
    → where_read (is_iban (capitals s)) (capitals (capitals s)) ≡ Some (capitals s)
capitals_read s h =
    let parts : (is_account_shaped s ≡ true) × ((account_number (capitals s) % 97 == 1) ≡ true) =
    and_parts _ _ h in
    let again : is_iban (capitals s) ≡ true =
    and_from _ _ (capitals_shaped s parts.0) (ap (λ (t : List ℕ). account_number t % 97 == 1) (capitals_again s) ∙ parts.1) in
    ap (λ (b : Bool). where_read b (capitals (capitals s))) again
    ∙ ap (λ (t : List ℕ). Some t) (capitals_again s)

pub iban_settles : (s t : List ℕ) → written_iban s ≡ Some t → written_iban t ≡ Some t
unfolding written_iban
iban_settles s t e =
    let k : (is_iban s ≡ true) × (capitals s ≡ t) = read_parts (is_iban s) (capitals s) t e in
    subst (λ (u : List ℕ). where_read (is_iban u) (capitals u) ≡ Some u) k.1 (capitals_read s k.0)
