-- Lines, numbers and fields of the delta text. Proof plumbing.
use Rattle.std.proofs.Common.{ℕ, ◌≡◌, ◌+◌, ◌<◌, ◌^◌, ◌++◌, ◌∷◌, [], List, Bool, true, false, cond, Option, Some, None, Result, Ok, Err, ◌==◌, length, take, drop, refl, sym, ap, ◌∙◌, rules, arith, add-one, get_or, zero, suc}
use Rattle.std.specs.Prelude.{nat_lt, decimal, IsUtf8}
use Rattle.std.specs.Char.{is_ascii_digit, digit_value}
use Rattle.std.specs.List.{list_all, position_from}
use Rattle.std.specs.Result.{result_ok}
use Rattle.std.specs.Str.Parse.{digits_value, ParsesUnsigned, AllDigits}
use Rattle.std.proofs.lemmas.Bool.{and_parts, and_from}
use Rattle.std.proofs.lemmas.Bool.Decides.{nat_tests}
use Rattle.std.proofs.lemmas.Str.{IsUtf8-from_ascii}
use Rattle.std.proofs.lemmas.Str.Parse.{IsDigitsTest, IsNumeralModel, numerals_by_value, parse_digits}
use Rattle.std.proofs.lemmas.Fmt.{IsAscii-from_digits, digits_decimal, digits_value-decimal, decimal-digits_value, decimal_nonempty, first_decimal, decimal_digit}
use Rattle.std.proofs.lemmas.Bool.{eqb-true}
use Rattle.std.proofs.lemmas.List.{take-append-drop}
use Rattle.std.proofs.lemmas.List.Quantifiers.{position-Some}
use Rattle.std.proofs.Math.Seq.{take-append_seam, drop-append-add}
use Rattle.std.proofs.Math.ListN.{length-append}
use Rattle.std.specs.Prelude.{option_map, option_and_then, position, codes, nat_eq}
use Rattle.std.specs.Cmp.Lexicographic.{pointwise, same_text, nat_list_eq_equiv}
use Rattle.std.specs.List.{position_or_len}
use Rattle.std.proofs.Common.{drop-cons}
use Rattle.sct_delta.specs.Sites.{is_site, is_site_of_form_1}
use Rattle.sct_delta.specs.TextLines.{is_numeral, number_in, begins_right, lines_by_end, lines_from_byte, ended_first, is_space, Field, number_to, number_before_space, after_prefix}
use Rattle.sct_delta.specs.EntryText.{site_in_form_1, EntryFields, fields_behind, fields_after, fields_in}

abbrev AreDigits : List ℕ → Type 0
AreDigits text = list_all is_ascii_digit text ≡ true

tests_digits : IsDigitsTest AreDigits
tests_digits = search rules

pub numerals : IsNumeralModel AreDigits (digits_value 10)
numerals = numerals_by_value AreDigits tests_digits

digits_of : (text : List ℕ) → is_numeral text ≡ true → AreDigits text
digits_of text h = (and_parts (begins_right text) (list_all is_ascii_digit text) h).1

begins_of : (text : List ℕ) → is_numeral text ≡ true → begins_right text ≡ true
begins_of text h = (and_parts (begins_right text) (list_all is_ascii_digit text) h).0

some_digits : (text : List ℕ) → begins_right text ≡ true → 0 < length text
some_digits text h = grind (arith, nat_tests)

pub numeral_is_text : (text : List ℕ) → is_numeral text ≡ true → IsUtf8 text
numeral_is_text text h = IsUtf8-from_ascii text (IsAscii-from_digits text (numerals.to text (digits_of text h)))

not_below : (a b : ℕ) → ¬ (a < b) → nat_lt a b ≡ false
not_below a b h = grind (arith, nat_tests, h)

pub passed : {A : Type 0} (b : Bool) (x : Option A) (y : A) → (cond b x None) ≡ Some y → (b ≡ true) × (x ≡ Some y)
passed true x y e = (refl, e)
passed false x y e = cc

zero_alone : (text : List ℕ) → begins_right text ≡ true → get_or text 0 0 ≡ 48 → length text ≡ 1
zero_alone text h first = grind (arith, nat_tests, h, first)

begins_decimal : (n : ℕ) → n < 2 ^ 64 → begins_right (decimal n) ≡ true
begins_decimal zero small = rw (decimal_digit 0 (omega arith)) refl
begins_decimal (suc n) small =
    let first : 48 < get_or (decimal (suc n)) 0 0 = first_decimal (suc n) (omega arith) small in
    let some : 0 < length (decimal (suc n)) = decimal_nonempty (suc n) small in
    grind (arith, nat_tests, first, some)

-- what an option was mapped from
pub mapped_from : {A B : Type 0} (f : A → B) (x : Option A) (y : B) → option_map f x ≡ Some y → (a : A) × (x ≡ Some a) × (f a ≡ y)
mapped_from f None y e = cc
mapped_from f (Some a) y e = (a, refl, cc)

pub numeral_parsed : {E : Type 0} (text : List ℕ) (read : Result ℕ E) → is_numeral text ≡ true → ParsesUnsigned 64 10 text read → result_ok read ≡ number_in text
unfolding number_in
numeral_parsed {E = E} text (Ok n) h parsed =
    let gives : ((0 < length text) × (digits_value 10 text < 2 ^ 64)) × (n ≡ digits_value 10 text) = parse_digits numerals {E = E} 64 text (Ok n) parsed (digits_of text h) in
    let small : nat_lt (digits_value 10 text) (2 ^ 64) ≡ true = grind (arith, nat_tests, gives.0.1) in
    rw (h, small, gives.1) refl
numeral_parsed {E = E} text (Err e) h parsed =
    let refuses : ¬ ((0 < length text) × (digits_value 10 text < 2 ^ 64)) = parse_digits numerals {E = E} 64 text (Err e) parsed (digits_of text h) in
    let large : nat_lt (digits_value 10 text) (2 ^ 64) ≡ false = not_below _ _ (λ small. refuses (some_digits text (begins_of text h), small)) in
    rw (h, large) refl

-- a text is a number's numeral exactly where the number is read of it
pub number_written : (text : List ℕ) (n : ℕ) → number_in text ≡ Some n → (text ≡ decimal n) × (n < 2 ^ 64)
unfolding number_in
number_written text n read =
    let numeral : (is_numeral text ≡ true) × (cond (nat_lt (digits_value 10 text) (2 ^ 64)) (Some (digits_value 10 text)) None ≡ Some n) = passed _ _ _ read in
    let small : (nat_lt (digits_value 10 text) (2 ^ 64) ≡ true) × (Some (digits_value 10 text) ≡ Some n) = passed _ _ _ numeral.1 in
    let same : digits_value 10 text ≡ n = cc in
    let below : digits_value 10 text < 2 ^ 64 = grind (arith, nat_tests, small.0) in
    let digits : AreDigits text = digits_of text numeral.0 in
    let written : decimal (digits_value 10 text) ≡ text =
    decimal-digits_value numerals text digits (some_digits text (begins_of text numeral.0)) (zero_alone text (begins_of text numeral.0)) below in
    (sym written ∙ ap decimal same, omega (arith, same))

pub number_read : (n : ℕ) → n < 2 ^ 64 → number_in (decimal n) ≡ Some n
unfolding number_in
number_read n small =
    let digits : AreDigits (decimal n) = digits_decimal numerals n small in
    let value : digits_value 10 (decimal n) ≡ n = digits_value-decimal numerals n small in
    let numeral : is_numeral (decimal n) ≡ true = and_from _ _ (begins_decimal n small) digits in
    let below : nat_lt n (2 ^ 64) ≡ true = grind (arith, nat_tests, small) in
    rw (numeral, value, below) refl

-- ---- lines

pub lines_of_none : lines_by_end [] ≡ []
unfolding lines_by_end
lines_of_none = refl

onto_open : (byte : ℕ) (lines : List (Option (List ℕ))) → ended_first lines ≡ None → ended_first (lines_from_byte byte lines) ≡ None
onto_open byte [] h = refl
onto_open byte (None ∷ lines) h = refl
onto_open byte (Some line ∷ lines) h = cc

abbrev pub is_feed : ℕ → Bool
is_feed byte = byte == 10

pub line_behind : (byte : ℕ) (bytes line : List ℕ) (lines : List (Option (List ℕ))) → (byte == 10) ≡ false → lines_by_end bytes ≡ Some line ∷ lines → lines_by_end (byte ∷ bytes) ≡ Some (byte ∷ line) ∷ lines
unfolding lines_by_end
line_behind byte bytes line lines other rest = rw (other, rest) refl

pub feed_first : (byte : ℕ) (bytes : List ℕ) → (byte == 10) ≡ true → lines_by_end (byte ∷ bytes) ≡ Some [] ∷ lines_by_end bytes
unfolding lines_by_end
feed_first byte bytes feed = rw feed refl

pub open_behind : (byte : ℕ) (bytes : List ℕ) → (byte == 10) ≡ false → ended_first (lines_by_end bytes) ≡ None → ended_first (lines_by_end (byte ∷ bytes)) ≡ None
unfolding lines_by_end
open_behind byte bytes other open_there = rw other (onto_open byte (lines_by_end bytes) open_there)

-- the first line of a text whose first line feed stands at a place, where places count from one given
pub record EndsFirstAt (text : List ℕ) (from place : ℕ) : Type 0 where
  pub count : ℕ
  pub at : place ≡ from + count
  pub lines : lines_by_end text ≡ Some (take count text) ∷ lines_by_end (drop (count + 1) text)

later : (byte : ℕ) (bytes : List ℕ) (from place : ℕ) → EndsFirstAt bytes (from + 1) place → (byte == 10) ≡ false → EndsFirstAt (byte ∷ bytes) from place
later byte bytes from place found other = record {
  count = found.count + 1;
  at = omega (arith, found.at);
  lines = simp add-one (simp add-one at (line_behind byte bytes (take found.count bytes) (lines_by_end (drop (found.count + 1) bytes)) other found.lines));
}

here : (byte : ℕ) (bytes : List ℕ) (from place : ℕ) → Some from ≡ Some place → (byte == 10) ≡ true → EndsFirstAt (byte ∷ bytes) from place
here byte bytes from place found feed = record {
  count = 0;
  at = let same : from ≡ place = cc in omega (arith, same);
  lines = feed_first byte bytes feed;
}

first_line_to_feed : (text : List ℕ) (from place : ℕ) → position_from is_feed from text ≡ Some place → EndsFirstAt text from place
first_line_to_feed [] from place found = cc
first_line_to_feed (byte ∷ bytes) from place found =
    (elim (byte == 10) as (λ feed. (byte == 10) ≡ feed → cond feed (Some from) (position_from is_feed (from + 1) bytes) ≡ Some place → EndsFirstAt (byte ∷ bytes) from place) [
      | true ↦ λ feed first. here byte bytes from place first feed
      | false ↦ λ other next. later byte bytes from place (first_line_to_feed bytes (from + 1) place next) other
    ]) refl found

pub line_to_feed : (text : List ℕ) (place : ℕ) → position_from is_feed 0 text ≡ Some place → lines_by_end text ≡ Some (take place text) ∷ lines_by_end (drop (place + 1) text)
line_to_feed text place found =
    let first = first_line_to_feed text 0 place found in
    let same : place ≡ first.count = omega (arith, first.at) in
    rw same first.lines

pub no_line_ended : (text : List ℕ) (from : ℕ) → position_from is_feed from text ≡ None → ended_first (lines_by_end text) ≡ None
no_line_ended [] from none = rw lines_of_none refl
no_line_ended (byte ∷ bytes) from none =
    (elim (byte == 10) as (λ feed. (byte == 10) ≡ feed → cond feed (Some from) (position_from is_feed (from + 1) bytes) ≡ None → ended_first (lines_by_end (byte ∷ bytes)) ≡ None) [
      | true ↦ λ feed first. cc
      | false ↦ λ other next. open_behind byte bytes other (no_line_ended bytes (from + 1) next)
    ]) refl none

-- ---- fields

no_space : (c : ℕ) → digit_value c < 10 → is_space c ≡ false
no_space c h = grind (arith, nat_tests)

digits_long : (s rest : List ℕ) → AllDigits 10 s → position_or_len is_space (s ++ 32 ∷ rest) ≡ length s
digits_long [] rest h = refl
digits_long (c ∷ cs) rest h = rw (no_space c h.0, digits_long cs rest h.1) (omega arith)

space_behind : (s rest : List ℕ) → AllDigits 10 s → position is_space (s ++ 32 ∷ rest) ≡ Some (length s)
space_behind s rest h =
    let inside : nat_lt (length s) (length (s ++ 32 ∷ rest)) ≡ true =
    grind (arith, nat_tests, length-append s (32 ∷ rest)) in
    rw (digits_long s rest h, inside) refl

cut_there : (s : List ℕ) (at : ℕ) → position is_space s ≡ Some at → s ≡ take at s ++ 32 ∷ drop (at + 1) s
cut_there s at e =
    let there : (at < length s) × (is_space (get_or s at 0) ≡ true) × ((k : ℕ) → k < at → is_space (get_or s k 0) ≡ false) = position-Some is_space s at 0 e in
    let point : get_or s at 0 ≡ 32 = eqb-true _ _ there.1 in
    let behind : drop at s ≡ get_or s at 0 ∷ drop (at + 1) s =
    rw (drop-cons s at 0 there.0, add-one at) refl in
    sym (take-append-drop at s) ∙ ap (λ (t : List ℕ). take at s ++ t) behind
    ∙ ap (λ (c : ℕ). take at s ++ c ∷ drop (at + 1) s) point

-- a number, a space, and the rest
pub record IsNumbered (text : List ℕ) (n : ℕ) (rest : List ℕ) : Type 0 where
  pub spelled : text ≡ decimal n ++ 32 ∷ rest
  pub small : n < 2 ^ 64

pub field_read : (text rest : List ℕ) (n : ℕ) → IsNumbered text n rest → number_before_space text ≡ Some (n, rest)
unfolding number_before_space
field_read text rest n shape =
    let digits : AllDigits 10 (decimal n) = numerals.to (decimal n) (digits_decimal numerals n shape.small) in
    rw (shape.spelled, space_behind (decimal n) rest digits, take-append_seam (decimal n) (32 ∷ rest), number_read n shape.small, drop-append-add (decimal n) (32 ∷ rest) 1) refl

field_at : (text rest : List ℕ) (n : ℕ) (place : Option ℕ) → position is_space text ≡ place → number_to place text ≡ Some (n, rest) → IsNumbered text n rest
field_at text rest n None found read = cc
field_at text rest n (Some at) found read =
    let mapped : (m : ℕ) × (number_in (take at text) ≡ Some m) × ((m, drop (at + 1) text) ≡ (n, rest)) =
    mapped_from {B = Field} (λ m. (m, drop (at + 1) text)) (number_in (take at text)) (n, rest) read in
    let same : mapped.0 ≡ n = ap (λ (field : Field). field.0) mapped.2 in
    let behind : drop (at + 1) text ≡ rest = ap (λ (field : Field). field.1) mapped.2 in
    let written : (take at text ≡ decimal mapped.0) × (mapped.0 < 2 ^ 64) = number_written (take at text) mapped.0 mapped.1 in
    record {
      spelled = cut_there text at found
          ∙ ap (λ (t : List ℕ). t ++ 32 ∷ drop (at + 1) text) (written.0 ∙ ap decimal same)
          ∙ ap (λ (t : List ℕ). decimal n ++ 32 ∷ t) behind;
      small = omega (arith, same, written.1);
    }

pub field_written : (text rest : List ℕ) (n : ℕ) → number_before_space text ≡ Some (n, rest) → IsNumbered text n rest
unfolding number_before_space
field_written text rest n read = field_at text rest n (position is_space text) refl read

-- an entry line, by its fields
pub record HasFields (line : List ℕ) (origin n : ℕ) (json : List ℕ) : Type 0 where
  pub spelled : line ≡ codes "entry " ++ (decimal origin ++ 32 ∷ (decimal n ++ 32 ∷ json))
  pub site : is_site_of_form_1 origin ≡ true
  pub number : n < 2 ^ 64

pub site_below : (origin : ℕ) → is_site origin ≡ true → origin < 2 ^ 64
site_below origin h = grind (arith, nat_tests, h)

site_of_form_1_below : (origin : ℕ) → is_site_of_form_1 origin ≡ true → origin < 2 ^ 64
site_of_form_1_below origin h = grind (arith, nat_tests, h)

pub same_texts : (some other : List ℕ) → pointwise nat_eq some other ≡ true → some ≡ other
same_texts some other h = same_text some other (sym h)

pub texts_same : (text : List ℕ) → pointwise nat_eq text text ≡ true
texts_same text = search (rules, nat_list_eq_equiv)

pub prefix_written : (prefix text rest : List ℕ) → after_prefix prefix text ≡ Some rest → text ≡ prefix ++ rest
prefix_written prefix text rest h =
    let parts : (pointwise nat_eq (take (length prefix) text) prefix ≡ true) × (Some (drop (length prefix) text) ≡ Some rest) = passed _ _ _ h in
    let behind : drop (length prefix) text ≡ rest = cc in
    sym (take-append-drop (length prefix) text)
    ∙ ap (λ (t : List ℕ). t ++ drop (length prefix) text) (same_texts _ _ parts.0)
    ∙ ap (λ (t : List ℕ). prefix ++ t) behind

pub fields_read : (line json : List ℕ) (origin n : ℕ) → HasFields line origin n json → fields_in line ≡ Some (origin, n, json)
unfolding fields_in
fields_read line json origin n shape =
    let first : number_before_space (decimal origin ++ 32 ∷ (decimal n ++ 32 ∷ json)) ≡ Some (origin, decimal n ++ 32 ∷ json) =
    field_read _ _ origin (record { spelled = refl; small = site_of_form_1_below origin shape.site }) in
    let second : number_before_space (decimal n ++ 32 ∷ json) ≡ Some (n, json) =
    field_read _ _ n (record { spelled = refl; small = shape.number }) in
    rw (shape.spelled, first, shape.site, second) refl

pub then_from : {A B : Type 0} (f : A → Option B) (x : Option A) (y : B) → option_and_then f x ≡ Some y → (a : A) × (x ≡ Some a) × (f a ≡ Some y)
then_from f None y e = cc
then_from f (Some a) y e = (a, refl, e)

-- the word, and the fields behind it, one after another
fields_joined : (line front behind rest json : List ℕ) (first origin second n : ℕ) → line ≡ codes "entry " ++ front
    → IsNumbered front first behind → IsNumbered behind second rest → first ≡ origin → second ≡ n → rest ≡ json → is_site_of_form_1 first ≡ true
    → HasFields line origin n json
fields_joined line front behind rest json first origin second n word one two same_origin same_n same_json site = record {
  spelled = word
      ∙ ap (λ (t : List ℕ). codes "entry " ++ t) (one.spelled
      ∙ ap (λ (m : ℕ). decimal m ++ 32 ∷ behind) same_origin
      ∙ ap (λ (t : List ℕ). decimal origin ++ 32 ∷ t) (two.spelled
      ∙ ap (λ (m : ℕ). decimal m ++ 32 ∷ rest) same_n
      ∙ ap (λ (t : List ℕ). decimal n ++ 32 ∷ t) same_json));
  site = rw (← same_origin) site;
  number = omega (arith, same_n, two.small);
}

pub fields_written : (line json : List ℕ) (origin n : ℕ) → fields_in line ≡ Some (origin, n, json) → HasFields line origin n json
unfolding fields_in
fields_written line json origin n read =
    let whole : (first : Field) × (option_and_then number_before_space (after_prefix (codes "entry ") line) ≡ Some first) × (fields_after first ≡ Some (origin, n, json)) =
    then_from {A = Field} {B = EntryFields} fields_after _ (origin, n, json) read in
    let front : (rest : List ℕ) × (after_prefix (codes "entry ") line ≡ Some rest) × (number_before_space rest ≡ Some whole.0) =
    then_from {B = Field} number_before_space (after_prefix (codes "entry ") line) whole.0 whole.1 in
    let origins : (site : ℕ) × (site_in_form_1 whole.0.0 ≡ Some site) × (fields_behind site whole.0.1 ≡ Some (origin, n, json)) =
    then_from {B = EntryFields} (λ site. fields_behind site whole.0.1) (site_in_form_1 whole.0.0) (origin, n, json) whole.2 in
    let is : (is_site_of_form_1 whole.0.0 ≡ true) × (Some whole.0.0 ≡ Some origins.0) = passed _ _ _ origins.1 in
    let site : whole.0.0 ≡ origins.0 = cc in
    let next : (field : Field) × (number_before_space whole.0.1 ≡ Some field) × ((origins.0, field.0, field.1) ≡ (origin, n, json)) =
    mapped_from {A = Field} {B = EntryFields} (λ field. (origins.0, field.0, field.1)) (number_before_space whole.0.1) (origin, n, json) origins.2 in
    let same_origin : origins.0 ≡ origin = ap (λ (fields : EntryFields). fields.0) next.2 in
    let same_n : next.0.0 ≡ n = ap (λ (fields : EntryFields). fields.1) next.2 in
    let same_json : next.0.1 ≡ json = ap (λ (fields : EntryFields). fields.2) next.2 in
    let one : IsNumbered front.0 whole.0.0 whole.0.1 = field_written front.0 whole.0.1 whole.0.0 front.2 in
    let two : IsNumbered whole.0.1 next.0.0 next.0.1 = field_written whole.0.1 next.0.1 next.0.0 next.1 in
    fields_joined line front.0 whole.0.1 next.0.1 json whole.0.0 origin next.0.0 n (prefix_written (codes "entry ") line front.0 front.1) one two
    (site ∙ same_origin) same_n same_json is.0
