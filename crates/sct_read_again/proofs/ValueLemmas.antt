-- The strings of the value of a text are texts: a fact of JSON. Proof plumbing.
use Rattle.std.proofs.Common.{◌≡◌, ◌≢◌, ◌∙◌, inl, inr, refl, ap, sym, subst, arith, ℕ, zero, suc, ◌+◌, ◌-◌, ◌<◌, ◌≤◌, ◌*◌, Bool, true, false, not, cond, ◌&&◌, ◌||◌, ◌==◌, List, [], ◌∷◌, ◌++◌, length, take, drop, get_or, nat_eq, nat_le, nat_lt, IsUtf8, length-append}
use Rattle.std.specs.Prelude.{Option, None, Some, option_and_then, option_map}
use Rattle.std.specs.Char.{digit_value, encode_utf8, is_digit}
use Rattle.std.proofs.lemmas.Bool.{and_parts, cases_lt, eqb-true, false≢true}
use Rattle.std.proofs.lemmas.Bool.Decides.{nat_tests}
use Rattle.std.proofs.lemmas.List.{drop_more, length-drop}
use Rattle.std.proofs.Math.Seq.{get_or-append_seam}
use Rattle.std.specs.List.{starts_with}
use Rattle.std.proofs.lemmas.Option.{same_Some}
use Rattle.std.proofs.lemmas.Str.{IsCharBoundary-after_ascii, IsCharBoundary-before_ascii, IsCharBoundary-from_drop, IsUtf8-append, IsUtf8-between, IsUtf8-drop, IsUtf8-encode, IsUtf8-nil}
use Rattle.json.specs.Text.{Within, plain, after_backslash, after_u, after_high, code_unit, content, is_high_surrogate, is_low_surrogate, prepend, short_escape, surrogate_pair}
use Rattle.json.specs.Run.{is_plain}
use Rattle.json.specs.Ascii as ascii
use Rattle.json.specs.Json as json
use Rattle.json.specs.Lex.{Class, Lexeme, Mode, Place, begins_colon, class, if_allowed, lex, lex_byte, may_begin, may_close, operator_lexeme, place_token, punctuate, string_token, tokens}
use Rattle.json.specs.Token.{Token}
use Rattle.json.specs.Word.{after_number, ends_word, head, is_operator, is_space, literal, number_before, word}
use Rattle.json.proofs.Printed.Utf8.{IsUtf8-are_ascii}
use Rattle.serde_json.specs.Data.{Data, Num, null, boolean, number, string, array, object, Items, no_items, item, Members, no_members, member, put}
use Rattle.serde_json.specs.Read.{max_depth, number_of, of_items, of_json, of_members, read}
use Rattle.sct_json.proofs.Rows.{kept_put}
use Rattle.sct_read_again.proofs.TextValues.{AreTexts, ItemsAreTexts, MembersAreTexts, ValuesAreTexts}

-- ---- a text behind an ASCII byte

pub behind_ascii : (x : ℕ) (xs : List ℕ) → IsUtf8 (x ∷ xs) → x < 128 → IsUtf8 xs
behind_ascii x xs utf8 small = IsUtf8-drop (x ∷ xs) 1 utf8 (IsCharBoundary-after_ascii (x ∷ xs) 0 utf8 (omega arith) small)

one_utf8 : (x : ℕ) → x < 128 → IsUtf8 (x ∷ [])
one_utf8 x small = IsUtf8-are_ascii (x ∷ []) (grind (arith, nat_tests, small))

abbrev IsTextIfAny : Option (List ℕ) → Type 0
IsTextIfAny None = Unit {0}
IsTextIfAny (Some s) = IsUtf8 s

prepend_text : (a : List ℕ) (r : Option (List ℕ)) → IsUtf8 a → IsTextIfAny r → IsTextIfAny (prepend a r)
prepend_text a None utf8 rest = tt
prepend_text a (Some s) utf8 rest = IsUtf8-append a s utf8 rest

-- ---- escapes

not_same : (c k : ℕ) → 128 ≤ c → k < 128 → (c == k) ≡ false
not_same c k high low = grind (arith, nat_tests, high, low)

short_high : (c : ℕ) → 128 ≤ c → short_escape c ≡ None
unfolding short_escape
short_high c high =
    λ i. cond ((not_same c 34 high (omega arith) i) || (not_same c 92 high (omega arith) i) || (not_same c 47 high (omega arith) i)) (Some c)
    (cond (not_same c 98 high (omega arith) i) (Some 8) (cond (not_same c 102 high (omega arith) i) (Some 12) (cond (not_same c 110 high (omega arith) i) (Some 10) (cond (not_same c 114 high (omega arith) i) (Some 13) (cond (not_same c 116 high (omega arith) i) (Some 9) None)))))

abbrev is_low : Option ℕ → Bool
is_low None = true
is_low (Some e) = nat_lt e 128

abbrev all_low : ℕ → Bool
all_low zero = true
all_low (suc n) = is_low (short_escape n) && all_low n

all_are_low : all_low 128 ≡ true
unfolding short_escape
all_are_low = refl

low_below : (n : ℕ) → all_low n ≡ true → (c : ℕ) → c < n → is_low (short_escape c) ≡ true
low_below zero all c h = absurd (omega (arith, h))
low_below (suc n) all c h =
    let parts = and_parts (is_low (short_escape n)) (all_low n) all in
    elim (cases_lt c n) as (λ x. is_low (short_escape c) ≡ true) [
      | inl before ↦ low_below n parts.1 c before
      | inr here ↦ subst (λ (k : ℕ). is_low (short_escape k) ≡ true) (same_by c n h here) parts.0
    ]
  where
    same_by : (c n : ℕ) → c < suc n → n ≤ c → n ≡ c
    same_by c n below above = omega (arith, below, above)

digit_small : (x : ℕ) → is_digit x 16 ≡ true → x < 128
digit_small x h = grind (arith, nat_tests, h)

digit_value_small : (x : ℕ) → is_digit x 16 ≡ true → digit_value x < 16
digit_value_small x h = grind (arith, nat_tests, h)

-- four hexadecimal digits, and the number that they write
record AreDigits (a b c d u : ℕ) : Type 0 where
  first : a < 128
  second : b < 128
  third : c < 128
  fourth : d < 128
  small : u < 65536

unit_by : (a b c d u : ℕ) (t : Bool) → (is_digit a 16 && is_digit b 16 && is_digit c 16 && is_digit d 16) ≡ t
    → cond t (Some (digit_value a * 4096 + digit_value b * 256 + digit_value c * 16 + digit_value d)) None ≡ Some u → AreDigits a b c d u
unit_by a b c d u true all is =
    let three : ((is_digit a 16 && is_digit b 16 && is_digit c 16) ≡ true) × (is_digit d 16 ≡ true) = and_parts _ _ all in
    let two : ((is_digit a 16 && is_digit b 16) ≡ true) × (is_digit c 16 ≡ true) = and_parts _ _ three.0 in
    let one : (is_digit a 16 ≡ true) × (is_digit b 16 ≡ true) = and_parts _ _ two.0 in
    record {
      first = digit_small a one.0;
      second = digit_small b one.1;
      third = digit_small c two.1;
      fourth = digit_small d three.1;
      small = omega (arith, same_Some _ u is, digit_value_small a one.0, digit_value_small b one.1, digit_value_small c two.1, digit_value_small d three.1);
    }
unit_by a b c d u false some is = cc

unit_is : (a b c d u : ℕ) → code_unit a b c d ≡ Some u → AreDigits a b c d u
unfolding code_unit
unit_is a b c d u is = unit_by a b c d u (is_digit a 16 && is_digit b 16 && is_digit c 16 && is_digit d 16) refl is

behind_four : (a b c d u : ℕ) (xs : List ℕ) → AreDigits a b c d u → IsUtf8 (a ∷ b ∷ c ∷ d ∷ xs) → IsUtf8 xs
behind_four a b c d u xs are utf8 =
    behind_ascii d xs (behind_ascii c (d ∷ xs) (behind_ascii b (c ∷ d ∷ xs) (behind_ascii a (b ∷ c ∷ d ∷ xs) utf8 are.first) are.second) are.third) are.fourth

unit_utf8 : (u : ℕ) → u < 65536 → is_high_surrogate u ≡ false → is_low_surrogate u ≡ false → IsUtf8 (encode_utf8 u)
unit_utf8 u small high low = IsUtf8-encode u (grind (arith, nat_tests, small, high, low))

pair_utf8 : (h l : ℕ) → is_high_surrogate h ≡ true → is_low_surrogate l ≡ true → IsUtf8 (encode_utf8 (surrogate_pair h l))
pair_utf8 h l high low = IsUtf8-encode (surrogate_pair h l) (grind (arith, nat_tests, high, low))

-- ---- the bytes that stand for themselves

prepend_none : (r : Option (List ℕ)) → r ≡ prepend [] r
prepend_none None = refl
prepend_none (Some s) = refl

prepend_both : (x : ℕ) (a : List ℕ) (r : Option (List ℕ)) → prepend (x ∷ []) (prepend a r) ≡ prepend (x ∷ a) r
prepend_both x a None = refl
prepend_both x a (Some s) = refl

no_quote : (x : ℕ) → is_plain x ≡ true → (x == 34) ≡ false
no_quote x h = grind (arith, nat_tests, h)

no_slash : (x : ℕ) → is_plain x ≡ true → (x == 92) ≡ false
no_slash x h = grind (arith, nat_tests, h)

no_control : (x : ℕ) → is_plain x ≡ true → nat_lt x 32 ≡ false
no_control x h = grind (arith, nat_tests, h)

record IsRun (xs : List ℕ) : Type 0 where
  count : ℕ
  is : content plain xs ≡ prepend (take count xs) (content plain (drop count xs))
  stops : count < length xs → is_plain (get_or xs count 0) ≡ false

run_more : (x : ℕ) (xs : List ℕ) → is_plain x ≡ true → IsRun xs → IsRun (x ∷ xs)
unfolding content
run_more x xs plainly run = record {
  count = suc run.count;
  is =
      (λ i. cond (no_quote x plainly i) (Some []) (cond (no_slash x plainly i) (content after_backslash xs) (cond (no_control x plainly i) None (prepend (x ∷ []) (run.is i)))))
      ∙ prepend_both x (take run.count xs) (content plain (drop run.count xs));
  stops = λ inside. run.stops (omega (arith, inside));
}

run_of : (xs : List ℕ) → IsRun xs
run_of [] = record { count = 0; is = prepend_none (content plain []); stops = λ inside. absurd (omega (arith, inside)) }
run_of (x ∷ xs) = (elim (is_plain x) as (λ b. is_plain x ≡ b → IsRun (x ∷ xs)) [
  | true ↦ λ plainly. run_more x xs plainly (run_of xs)
  | false ↦ λ stop. record { count = 0; is = prepend_none (content plain (x ∷ xs)); stops = λ inside. stop }
]) refl

content_none : content plain [] ≡ None
unfolding content
content_none = refl

content_past : (n : ℕ) (xs : List ℕ) → length xs ≤ n → content plain (drop n xs) ≡ None
content_past zero [] past = content_none
content_past zero (x ∷ xs) past = absurd (omega (arith, past))
content_past (suc n) [] past = content_none
content_past (suc n) (x ∷ xs) past = content_past n xs (omega (arith, past))

-- ---- the content of a string

module _ (fuel : ℕ) (later : (ys : List ℕ) → length ys ≤ fuel → IsUtf8 ys → IsTextIfAny (content plain ys)) where
  high_text : (h : ℕ) → is_high_surrogate h ≡ true → (xs : List ℕ) → length xs ≤ fuel → IsUtf8 xs → IsTextIfAny (content (after_high h) xs)
  unfolding content
  high_text h high [] low utf8 = tt
  high_text h high (s ∷ []) low utf8 = tt
  high_text h high (s ∷ u ∷ []) low utf8 = tt
  high_text h high (s ∷ u ∷ a ∷ []) low utf8 = tt
  high_text h high (s ∷ u ∷ a ∷ b ∷ []) low utf8 = tt
  high_text h high (s ∷ u ∷ a ∷ b ∷ c ∷ []) low utf8 = tt
  high_text h high (s ∷ u ∷ a ∷ b ∷ c ∷ d ∷ xs) low utf8 =
      (elim ((s == 92) && (u == 117)) as (λ t. ((s == 92) && (u == 117)) ≡ t → IsTextIfAny (cond t (option_and_then (λ l. cond (is_low_surrogate l) (prepend (encode_utf8 (surrogate_pair h l)) (content plain xs)) None) (code_unit a b c d)) None)) [
        | true ↦ λ both.
            let parts = and_parts (s == 92) (u == 117) both in
            let rest : IsUtf8 (a ∷ b ∷ c ∷ d ∷ xs) =
            behind_ascii u (a ∷ b ∷ c ∷ d ∷ xs) (behind_ascii s (u ∷ a ∷ b ∷ c ∷ d ∷ xs) utf8 (small_is s 92 parts.0 (omega arith))) (small_is u 117 parts.1 (omega arith)) in
            (elim (code_unit a b c d) as (λ o. code_unit a b c d ≡ o → IsTextIfAny (option_and_then (λ l. cond (is_low_surrogate l) (prepend (encode_utf8 (surrogate_pair h l)) (content plain xs)) None) o)) [
              | None ↦ λ none. tt
              | Some l ↦ λ is. (elim (is_low_surrogate l) as (λ t. is_low_surrogate l ≡ t → IsTextIfAny (cond t (prepend (encode_utf8 (surrogate_pair h l)) (content plain xs)) None)) [
                | true ↦ λ lower. prepend_text (encode_utf8 (surrogate_pair h l)) (content plain xs) (pair_utf8 h l high lower)
                    (later xs (omega (arith, low)) (behind_four a b c d l xs (unit_is a b c d l is) rest))
                | false ↦ λ other. tt
              ]) refl
            ]) refl
        | false ↦ λ other. tt
      ]) refl
    where
      small_is : (x k : ℕ) → (x == k) ≡ true → k < 128 → x < 128
      small_is x k same small = grind (arith, nat_tests, same, small)

  u_text : (xs : List ℕ) → length xs ≤ fuel → IsUtf8 xs → IsTextIfAny (content after_u xs)
  unfolding content
  u_text [] low utf8 = tt
  u_text (a ∷ []) low utf8 = tt
  u_text (a ∷ b ∷ []) low utf8 = tt
  u_text (a ∷ b ∷ c ∷ []) low utf8 = tt
  u_text (a ∷ b ∷ c ∷ d ∷ xs) low utf8 =
      (elim (code_unit a b c d) as (λ o. code_unit a b c d ≡ o → IsTextIfAny (option_and_then (λ u. cond (is_high_surrogate u) (content (after_high u) xs) (cond (is_low_surrogate u) None (prepend (encode_utf8 u) (content plain xs)))) o)) [
        | None ↦ λ none. tt
        | Some u ↦ λ is.
            let are : AreDigits a b c d u = unit_is a b c d u is in
            let rest : IsUtf8 xs = behind_four a b c d u xs are utf8 in
            (elim (is_high_surrogate u) as (λ t. is_high_surrogate u ≡ t → IsTextIfAny (cond t (content (after_high u) xs) (cond (is_low_surrogate u) None (prepend (encode_utf8 u) (content plain xs))))) [
              | true ↦ λ high. high_text u high xs (omega (arith, low)) rest
              | false ↦ λ plainly. (elim (is_low_surrogate u) as (λ t. is_low_surrogate u ≡ t → IsTextIfAny (cond t None (prepend (encode_utf8 u) (content plain xs)))) [
                | true ↦ λ lower. tt
                | false ↦ λ other. prepend_text (encode_utf8 u) (content plain xs) (unit_utf8 u are.small plainly other) (later xs (omega (arith, low)) rest)
              ]) refl
            ]) refl
      ]) refl

  backslash_text : (xs : List ℕ) → length xs ≤ fuel → IsUtf8 xs → IsTextIfAny (content after_backslash xs)
  unfolding content
  backslash_text [] low utf8 = tt
  backslash_text (c ∷ xs) low utf8 =
      elim (cases_lt c 128) as (λ x. IsTextIfAny (cond (c == 117) (content after_u xs) (option_and_then (λ e. prepend (e ∷ []) (content plain xs)) (short_escape c)))) [
        | inl small ↦
            let rest : IsUtf8 xs = behind_ascii c xs utf8 small in
            (elim (c == 117) as (λ t. IsTextIfAny (cond t (content after_u xs) (option_and_then (λ e. prepend (e ∷ []) (content plain xs)) (short_escape c)))) [
              | true ↦ u_text xs (omega (arith, low)) rest
              | false ↦ (elim (short_escape c) as (λ o. is_low o ≡ true → IsTextIfAny (option_and_then (λ e. prepend (e ∷ []) (content plain xs)) o)) [
                | None ↦ λ none. tt
                | Some e ↦ λ lower. prepend_text (e ∷ []) (content plain xs) (one_utf8 e (small_by e lower)) (later xs (omega (arith, low)) rest)
              ]) (low_below 128 all_are_low c small)
            ])
        | inr high ↦
            subst IsTextIfAny
            (sym (λ i. cond (not_same c 117 high (omega arith) i) (content after_u xs) (option_and_then (λ e. prepend (e ∷ []) (content plain xs)) (short_high c high i)))) tt
      ]
    where
      small_by : (e : ℕ) → nat_lt e 128 ≡ true → e < 128
      small_by e h = grind (arith, nat_tests, h)

  stop_text : (y : ℕ) (rest : List ℕ) → is_plain y ≡ false → length rest ≤ fuel → IsUtf8 rest → IsTextIfAny (content plain (y ∷ rest))
  unfolding content
  stop_text y rest stop low utf8 =
      (elim (y == 34) as (λ t. (y == 34) ≡ t → IsTextIfAny (cond t (Some []) (cond (y == 92) (content after_backslash rest) (cond (nat_lt y 32) None (prepend (y ∷ []) (content plain rest)))))) [
        | true ↦ λ quote. IsUtf8-nil
        | false ↦ λ no_quote. (elim (y == 92) as (λ t. (y == 92) ≡ t → IsTextIfAny (cond t (content after_backslash rest) (cond (nat_lt y 32) None (prepend (y ∷ []) (content plain rest))))) [
          | true ↦ λ slash. backslash_text rest low utf8
          | false ↦ λ no_slash. (elim (nat_lt y 32) as (λ t. nat_lt y 32 ≡ t → IsTextIfAny (cond t None (prepend (y ∷ []) (content plain rest)))) [
            | true ↦ λ control. tt
            | false ↦ λ no_control. absurd (not_plain y stop no_quote no_slash no_control)
          ]) refl
        ]) refl
      ]) refl
    where
      not_plain : (y : ℕ) → is_plain y ≡ false → (y == 34) ≡ false → (y == 92) ≡ false → nat_lt y 32 ≡ false → ⊥
      not_plain y stop a b c = grind (arith, nat_tests, stop, a, b, c)

  run_text : (xs : List ℕ) → length xs ≤ suc fuel → IsUtf8 xs → IsTextIfAny (content plain xs)
  run_text xs low utf8 =
      let run : IsRun xs = run_of xs in
      let n : ℕ = run.count in
      subst IsTextIfAny (sym run.is)
      (elim (cases_lt n (length xs)) as (λ x. IsTextIfAny (prepend (take n xs) (content plain (drop n xs)))) [
        | inl inside ↦
            let y : ℕ = get_or xs n 0 in
            let stop : is_plain y ≡ false = run.stops inside in
            let small : y < 128 = stop_small y stop in
            let first : IsUtf8 (take n xs) = subst (λ (k : ℕ). IsUtf8 (take k xs)) (minus_none n)
            (IsUtf8-between xs 0 n utf8 (omega arith) (IsCharBoundary-from_drop xs 0 (omega arith) utf8) (IsCharBoundary-before_ascii xs n inside small)) in
            let rest : IsUtf8 (drop (n + 1) xs) = IsUtf8-drop xs (n + 1) utf8 (IsCharBoundary-after_ascii xs n utf8 inside small) in
            prepend_text (take n xs) (content plain (drop n xs)) first
            (subst (λ (l : List ℕ). IsTextIfAny (content plain l)) (sym (drop_more xs n 0 inside))
            (stop_text y (drop (n + 1) xs) stop (omega (arith, low, inside, length-drop (n + 1) xs)) rest))
        | inr past ↦ subst (λ (r : Option (List ℕ)). IsTextIfAny (prepend (take n xs) r)) (sym (content_past n xs past)) tt
      ])
    where
      minus_none : (n : ℕ) → n - 0 ≡ n
      minus_none n = omega arith

      stop_small : (y : ℕ) → is_plain y ≡ false → y < 128
      stop_small y stop = grind (arith, nat_tests, stop)

content_by : (fuel : ℕ) (xs : List ℕ) → length xs ≤ fuel → IsUtf8 xs → IsTextIfAny (content plain xs)
content_by zero [] low utf8 = subst IsTextIfAny (sym content_none) tt
content_by zero (x ∷ xs) low utf8 = absurd (omega (arith, low))
content_by (suc fuel) xs low utf8 = run_text fuel (content_by fuel) xs low utf8

pub content_text : (xs : List ℕ) → IsUtf8 xs → IsTextIfAny (content plain xs)
content_text xs utf8 = content_by (length xs) xs (omega arith) utf8

-- ---- tokens

abbrev IsTextToken : Token → Type 0
IsTextToken Token.begin_object = Unit {0}
IsTextToken Token.end_object = Unit {0}
IsTextToken Token.begin_array = Unit {0}
IsTextToken Token.end_array = Unit {0}
IsTextToken (Token.key s) = Unit {0}
IsTextToken (Token.string s) = IsUtf8 s
IsTextToken (Token.number s) = Unit {0}
IsTextToken (Token.boolean b) = Unit {0}
IsTextToken Token.null = Unit {0}
IsTextToken Token.bad = Unit {0}

abbrev AreTextTokens : List Token → Type 0
AreTextTokens [] = Unit {0}
AreTextTokens (t ∷ ts) = IsTextToken t × AreTextTokens ts

abbrev IsTextLexeme : Lexeme → Type 0
IsTextLexeme (Lexeme.token t) = IsTextToken t
IsTextLexeme Lexeme.comma = Unit {0}
IsTextLexeme Lexeme.colon = Unit {0}

abbrev AreTextLexemes : List Lexeme → Type 0
AreTextLexemes [] = Unit {0}
AreTextLexemes (l ∷ ls) = IsTextLexeme l × AreTextLexemes ls

string_token_text : (o : Option (List ℕ)) → IsTextIfAny o → IsTextToken (string_token o)
string_token_text None all = tt
string_token_text (Some s) all = all

-- behind each quote stands a text
abbrev IsTextBehindQuotes : List ℕ → Type 0
IsTextBehindQuotes xs = (before behind : List ℕ) → xs ≡ before ++ 34 ∷ behind → IsUtf8 behind

behind_quotes : (xs : List ℕ) → IsUtf8 xs → IsTextBehindQuotes xs
behind_quotes xs utf8 before behind is =
    let inside : length before < length xs = omega (arith, ap length is, length-append before (34 ∷ behind)) in
    let here : get_or xs (length before) 0 ≡ 34 = ap (λ (l : List ℕ). get_or l (length before) 0) is ∙ get_or-append_seam before 34 behind 0 in
    subst IsUtf8 (ap (drop (length before + 1)) is ∙ drop_seam before behind)
    (IsUtf8-drop xs (length before + 1) utf8 (IsCharBoundary-after_ascii xs (length before) utf8 inside (omega (arith, here))))
  where
    drop_seam : (before behind : List ℕ) → drop (length before + 1) (before ++ 34 ∷ behind) ≡ behind
    drop_seam [] behind = refl
    drop_seam (x ∷ before) behind = ap (λ (k : ℕ). drop k (x ∷ (before ++ 34 ∷ behind))) (next (length before)) ∙ drop_seam before behind
      where
        next : (n : ℕ) → suc n + 1 ≡ suc (n + 1)
        next n = omega arith

word_text : (xs : List ℕ) → IsTextToken (word xs)
unfolding word after_number
word_text xs =
    elim (head xs == 116) as (λ a. IsTextToken (cond a (literal ascii.true_text (Token.boolean true) xs) (cond (head xs == 102) (literal ascii.false_text (Token.boolean false) xs) (cond (head xs == 110) (literal ascii.null_text Token.null xs) (number_before xs (after_number xs)))))) [
      | true ↦ literal_text ascii.true_text (Token.boolean true) xs tt
      | false ↦ elim (head xs == 102) as (λ a. IsTextToken (cond a (literal ascii.false_text (Token.boolean false) xs) (cond (head xs == 110) (literal ascii.null_text Token.null xs) (number_before xs (after_number xs))))) [
        | true ↦ literal_text ascii.false_text (Token.boolean false) xs tt
        | false ↦ elim (head xs == 110) as (λ a. IsTextToken (cond a (literal ascii.null_text Token.null xs) (number_before xs (after_number xs)))) [
          | true ↦ literal_text ascii.null_text Token.null xs tt
          | false ↦ number_text_token xs (after_number xs)
        ]
      ]
    ]
  where
    literal_text : (name : List ℕ) (t : Token) (xs : List ℕ) → IsTextToken t → IsTextToken (literal name t xs)
    literal_text name t xs all = elim (starts_with nat_eq xs name && ends_word (drop (length name) xs)) as (λ b. IsTextToken (cond b t Token.bad)) [ true ↦ all | false ↦ tt ]

    number_text_token : (xs : List ℕ) (o : Option (List ℕ)) → IsTextToken (number_before xs o)
    number_text_token xs None = tt
    number_text_token xs (Some rest) = elim (ends_word rest) as (λ b. IsTextToken (cond b (Token.number (take (length xs - length rest) xs)) Token.bad)) [ true ↦ tt | false ↦ tt ]

operator_text : (x : ℕ) → IsTextLexeme (operator_lexeme x)
operator_text x =
    elim (x == ascii.open_brace) as (λ a. IsTextLexeme (cond a (Lexeme.token Token.begin_object) (cond (x == ascii.close_brace) (Lexeme.token Token.end_object) (cond (x == ascii.open_bracket) (Lexeme.token Token.begin_array) (cond (x == ascii.close_bracket) (Lexeme.token Token.end_array) (cond (x == ascii.comma) Lexeme.comma Lexeme.colon)))))) [
      | true ↦ tt
      | false ↦ elim (x == ascii.close_brace) as (λ a. IsTextLexeme (cond a (Lexeme.token Token.end_object) (cond (x == ascii.open_bracket) (Lexeme.token Token.begin_array) (cond (x == ascii.close_bracket) (Lexeme.token Token.end_array) (cond (x == ascii.comma) Lexeme.comma Lexeme.colon))))) [
        | true ↦ tt
        | false ↦ elim (x == ascii.open_bracket) as (λ a. IsTextLexeme (cond a (Lexeme.token Token.begin_array) (cond (x == ascii.close_bracket) (Lexeme.token Token.end_array) (cond (x == ascii.comma) Lexeme.comma Lexeme.colon)))) [
          | true ↦ tt
          | false ↦ elim (x == ascii.close_bracket) as (λ a. IsTextLexeme (cond a (Lexeme.token Token.end_array) (cond (x == ascii.comma) Lexeme.comma Lexeme.colon))) [
            | true ↦ tt
            | false ↦ elim (x == ascii.comma) as (λ a. IsTextLexeme (cond a Lexeme.comma Lexeme.colon)) [ true ↦ tt | false ↦ tt ]
          ]
        ]
      ]
    ]

byte_text : (m : Mode) (c : Class) (x : ℕ) (xs : List ℕ) (k : Mode → List Lexeme) → (c ≡ Class.quote → IsTextIfAny (content plain xs)) → ((next : Mode) → AreTextLexemes (k next)) → AreTextLexemes (lex_byte m c x xs k)
byte_text Mode.between Class.quote x xs k quoted later = (string_token_text (content plain xs) (quoted refl), later Mode.in_string)
byte_text Mode.between Class.backslash x xs k quoted later = (tt, later Mode.in_word)
byte_text Mode.between Class.operator x xs k quoted later = (operator_text x, later Mode.between)
byte_text Mode.between Class.space x xs k quoted later = later Mode.between
byte_text Mode.between Class.other x xs k quoted later = (word_text (x ∷ xs), later Mode.in_word)
byte_text Mode.in_word Class.quote x xs k quoted later = later Mode.in_word
byte_text Mode.in_word Class.backslash x xs k quoted later = later Mode.in_word
byte_text Mode.in_word Class.operator x xs k quoted later = (operator_text x, later Mode.between)
byte_text Mode.in_word Class.space x xs k quoted later = later Mode.between
byte_text Mode.in_word Class.other x xs k quoted later = later Mode.in_word
byte_text Mode.in_string Class.quote x xs k quoted later = later Mode.between
byte_text Mode.in_string Class.backslash x xs k quoted later = later Mode.in_escape
byte_text Mode.in_string Class.operator x xs k quoted later = later Mode.in_string
byte_text Mode.in_string Class.space x xs k quoted later = later Mode.in_string
byte_text Mode.in_string Class.other x xs k quoted later = later Mode.in_string
byte_text Mode.in_escape c x xs k quoted later = later Mode.in_string

quote_is : (x : ℕ) → class x ≡ Class.quote → x ≡ 34
quote_is x is = quote_by (x == 34) refl is
  where
    quote_by : (b : Bool) → (x == 34) ≡ b → cond b Class.quote (cond (x == ascii.backslash) Class.backslash (cond (is_operator x) Class.operator (cond (is_space x) Class.space Class.other))) ≡ Class.quote → x ≡ 34
    quote_by true same is = eqb-true x 34 same
    quote_by false other is = absurd (none (x == ascii.backslash) (is_operator x) (is_space x) is)
      where
        none : (a b c : Bool) → cond a Class.backslash (cond b Class.operator (cond c Class.space Class.other)) ≡ Class.quote → ⊥
        none true b c is = cc
        none false true c is = cc
        none false false true is = cc
        none false false false is = cc

lex_text : (xs : List ℕ) → IsTextBehindQuotes xs → (m : Mode) → AreTextLexemes (lex m xs)
unfolding lex
lex_text [] all m = tt
lex_text (x ∷ xs) all m =
    byte_text m (class x) x xs (λ next. lex next xs)
    (λ quote. content_text xs (all [] xs (ap (λ (b : ℕ). b ∷ xs) (quote_is x quote))))
    (λ next. lex_text xs (λ before behind is. all (x ∷ before) behind (ap (λ (l : List ℕ). x ∷ l) is)) next)

-- ---- commas and colons

allowed_text : (b : Bool) (t : Token) (k : Place → List Token) (next : Place) → IsTextToken t → ((p : Place) → AreTextTokens (k p)) → AreTextTokens (if_allowed b t k next)
allowed_text true t k next here later = (here, later next)
allowed_text false t k next here later = (tt, tt)

place_text : (p : Place) (t : Token) (colon_next : Bool) (k : Place → List Token) → IsTextToken t → ((next : Place) → AreTextTokens (k next)) → AreTextTokens (place_token p t colon_next k)
place_text p Token.begin_object b k here later = allowed_text (may_begin p) Token.begin_object k Place.fresh tt later
place_text p Token.end_object b k here later = allowed_text (may_close p) Token.end_object k Place.after_value tt later
place_text p Token.begin_array b k here later = allowed_text (may_begin p) Token.begin_array k Place.fresh tt later
place_text p Token.end_array b k here later = allowed_text (may_close p) Token.end_array k Place.after_value tt later
place_text p (Token.key s) b k here later = (tt, tt)
place_text p (Token.string s) true k here later = allowed_text (may_begin p) (Token.key s) k Place.after_key tt later
place_text p (Token.string s) false k here later = allowed_text (may_begin p) (Token.string s) k Place.after_value here later
place_text p (Token.number s) b k here later = allowed_text (may_begin p) (Token.number s) k Place.after_value tt later
place_text p (Token.boolean v) b k here later = allowed_text (may_begin p) (Token.boolean v) k Place.after_value tt later
place_text p Token.null b k here later = allowed_text (may_begin p) Token.null k Place.after_value tt later
place_text p Token.bad b k here later = (tt, tt)

punctuated : (ls : List Lexeme) (p : Place) → AreTextLexemes ls → AreTextTokens (punctuate p ls)
unfolding punctuate
punctuated [] Place.fresh all = tt
punctuated [] Place.after_value all = tt
punctuated [] Place.after_comma all = (tt, tt)
punctuated [] Place.after_key all = (tt, tt)
punctuated (Lexeme.token t ∷ ls) Place.fresh all = place_text Place.fresh t (begins_colon ls) (λ next. punctuate next ls) all.0 (λ next. punctuated ls next all.1)
punctuated (Lexeme.token t ∷ ls) Place.after_value all = place_text Place.after_value t (begins_colon ls) (λ next. punctuate next ls) all.0 (λ next. punctuated ls next all.1)
punctuated (Lexeme.token t ∷ ls) Place.after_comma all = place_text Place.after_comma t (begins_colon ls) (λ next. punctuate next ls) all.0 (λ next. punctuated ls next all.1)
punctuated (Lexeme.token t ∷ ls) Place.after_key all = place_text Place.after_key t (begins_colon ls) (λ next. punctuate next ls) all.0 (λ next. punctuated ls next all.1)
punctuated (Lexeme.comma ∷ ls) Place.fresh all = (tt, tt)
punctuated (Lexeme.comma ∷ ls) Place.after_value all = punctuated ls Place.after_comma all.1
punctuated (Lexeme.comma ∷ ls) Place.after_comma all = (tt, tt)
punctuated (Lexeme.comma ∷ ls) Place.after_key all = (tt, tt)
punctuated (Lexeme.colon ∷ ls) Place.fresh all = (tt, tt)
punctuated (Lexeme.colon ∷ ls) Place.after_value all = (tt, tt)
punctuated (Lexeme.colon ∷ ls) Place.after_comma all = (tt, tt)
punctuated (Lexeme.colon ∷ ls) Place.after_key all = punctuated ls Place.fresh all.1

pub tokens_text : (bytes : List ℕ) → IsUtf8 bytes → AreTextTokens (tokens bytes)
tokens_text bytes utf8 = punctuated (lex Mode.between bytes) Place.fresh (lex_text bytes (behind_quotes bytes utf8) Mode.between)

-- ---- values

abbrev mutual
  JsonTexts : json.Json → Type 0
  JsonTexts json.null = Unit {0}
  JsonTexts (json.boolean b) = Unit {0}
  JsonTexts (json.number s) = Unit {0}
  JsonTexts (json.string s) = IsUtf8 s
  JsonTexts (json.array js) = ItemTexts js
  JsonTexts (json.object ms) = MemberTexts ms

  ItemTexts : json.Items → Type 0
  ItemTexts json.no_items = Unit {0}
  ItemTexts (json.item j js) = JsonTexts j × ItemTexts js

  MemberTexts : json.Members → Type 0
  MemberTexts json.no_members = Unit {0}
  MemberTexts (json.member k j ms) = JsonTexts j × MemberTexts ms

-- what is parsed of tokens with texts has texts, and so have the tokens that are left
abbrev IsParsedWell : {A : Type 0} → (A → Type 0) → Option (A × List Token) → Type 0
IsParsedWell P None = Unit {0}
IsParsedWell P (Some found) = P found.0 × AreTextTokens found.1

abbrev ParsesWell : {A : Type 0} → (A → Type 0) → (List Token → Option (A × List Token)) → Type 0
ParsesWell P parse = (ts : List Token) → AreTextTokens ts → IsParsedWell P (parse ts)

mapped_well : {A B : Type 0} (P : A → Type 0) (Q : B → Type 0) (f : A → B) → ((a : A) → P a → Q (f a)) → (r : Option (A × List Token)) → IsParsedWell P r → IsParsedWell Q (json.parse_map f r)
mapped_well P Q f each None all = tt
mapped_well P Q f each (Some found) all = (each found.0 all.0, all.1)

then_well : {A B : Type 0} (P : A → Type 0) (Q : B → Type 0) (r : Option (A × List Token)) (f : A × List Token → Option (B × List Token)) → IsParsedWell P r
    → ((found : A × List Token) → P found.0 → AreTextTokens found.1 → IsParsedWell Q (f found)) → IsParsedWell Q (option_and_then f r)
then_well P Q None f all each = tt
then_well P Q (Some found) f all each = each found all.0 all.1

abbrev IsLeftWell : Option (List Token) → Type 0
IsLeftWell None = Unit {0}
IsLeftWell (Some ts) = AreTextTokens ts

array_end : (ts : List Token) → AreTextTokens ts → IsLeftWell (json.after_end_array ts)
array_end [] all = tt
array_end (Token.begin_object ∷ ts) all = tt
array_end (Token.end_object ∷ ts) all = tt
array_end (Token.begin_array ∷ ts) all = tt
array_end (Token.end_array ∷ ts) all = all.1
array_end (Token.key s ∷ ts) all = tt
array_end (Token.string s ∷ ts) all = tt
array_end (Token.number s ∷ ts) all = tt
array_end (Token.boolean b ∷ ts) all = tt
array_end (Token.null ∷ ts) all = tt
array_end (Token.bad ∷ ts) all = tt

abbrev Any : Option (List ℕ) → Type 0
Any k = Unit {0}

key_well : ParsesWell Any json.read_key
key_well [] all = tt
key_well (Token.begin_object ∷ ts) all = tt
key_well (Token.end_object ∷ ts) all = (tt, all.1)
key_well (Token.begin_array ∷ ts) all = tt
key_well (Token.end_array ∷ ts) all = tt
key_well (Token.key s ∷ ts) all = (tt, all.1)
key_well (Token.string s ∷ ts) all = tt
key_well (Token.number s ∷ ts) all = tt
key_well (Token.boolean b ∷ ts) all = tt
key_well (Token.null ∷ ts) all = tt
key_well (Token.bad ∷ ts) all = tt

module _ (value : json.Parse json.Json) (well : ParsesWell JsonTexts value) where
  items_step_well : (more : json.Parse json.Items) → ParsesWell ItemTexts more → (ts : List Token) → AreTextTokens ts → (o : Option (List Token)) → IsLeftWell o → IsParsedWell ItemTexts (json.items_step value more ts o)
  items_step_well more rest ts all (Some left) is = (tt, is)
  items_step_well more rest ts all None is =
      then_well JsonTexts ItemTexts (value ts) (λ p. json.parse_map (json.item p.0) (more p.1)) (well ts all)
      (λ found here left. mapped_well ItemTexts ItemTexts (json.item found.0) (λ js others. (here, others)) (more found.1) (rest found.1 left))

  items_well : (n : ℕ) → ParsesWell ItemTexts (json.items value n)
  unfolding json.items
  items_well zero ts all = tt
  items_well (suc n) ts all = items_step_well (json.items value n) (items_well n) ts all (json.after_end_array ts) (array_end ts all)

  members_step_well : (more : json.Parse json.Members) → ParsesWell MemberTexts more → (k : Option (List ℕ)) (ts : List Token) → AreTextTokens ts → IsParsedWell MemberTexts (json.members_step value more k ts)
  members_step_well more rest None ts all = (tt, all)
  members_step_well more rest (Some k) ts all =
      then_well JsonTexts MemberTexts (value ts) (λ p. json.parse_map (json.member k p.0) (more p.1)) (well ts all)
      (λ found here left. mapped_well MemberTexts MemberTexts (json.member k found.0) (λ ms others. (here, others)) (more found.1) (rest found.1 left))

  members_well : (n : ℕ) → ParsesWell MemberTexts (json.members value n)
  unfolding json.members
  members_well zero ts all = tt
  members_well (suc n) ts all =
      then_well Any MemberTexts (json.read_key ts) (λ p. json.members_step value (json.members value n) p.0 p.1) (key_well ts all)
      (λ found here left. members_step_well (json.members value n) (members_well n) found.0 found.1 left)

with_well : (a : json.Parse json.Items) (o : json.Parse json.Members) → ParsesWell ItemTexts a → ParsesWell MemberTexts o → ParsesWell JsonTexts (json.value_with a o)
with_well a o items members [] all = tt
with_well a o items members (Token.begin_object ∷ ts) all = mapped_well MemberTexts JsonTexts json.object (λ ms here. here) (o ts) (members ts all.1)
with_well a o items members (Token.end_object ∷ ts) all = tt
with_well a o items members (Token.begin_array ∷ ts) all = mapped_well ItemTexts JsonTexts json.array (λ js here. here) (a ts) (items ts all.1)
with_well a o items members (Token.end_array ∷ ts) all = tt
with_well a o items members (Token.key s ∷ ts) all = tt
with_well a o items members (Token.string s ∷ ts) all = (all.0, all.1)
with_well a o items members (Token.number s ∷ ts) all = (tt, all.1)
with_well a o items members (Token.boolean b ∷ ts) all = (tt, all.1)
with_well a o items members (Token.null ∷ ts) all = (tt, all.1)
with_well a o items members (Token.bad ∷ ts) all = tt

value_well : (depth : ℕ) → ParsesWell JsonTexts (json.value depth)
unfolding json.value
value_well zero ts all = with_well (λ ts. None) (λ ts. None) (λ ts all. tt) (λ ts all. tt) ts all
value_well (suc depth) ts all =
    with_well (λ ts. json.items (json.value depth) (length ts) ts) (λ ts. json.members (json.value depth) (length ts) ts)
    (λ ts all. items_well (json.value depth) (value_well depth) (length ts) ts all) (λ ts all. members_well (json.value depth) (value_well depth) (length ts) ts all) ts all

-- ---- data

put_texts : (k : List ℕ) (d : Data) (ms : Members) → AreTexts d → MembersAreTexts ms → MembersAreTexts (put k d ms)
put_texts k d ms here all =
    kept_put MembersAreTexts (λ name value. AreTexts value)
    (record { none = tt; both = λ l e ns h rest. (h, rest); parts = λ l e ns h. h; mixed = λ j l e f h there. h }) k d here ms all

abbrev IsTextData : Option Data → Type 0
IsTextData None = Unit {0}
IsTextData (Some d) = AreTexts d

abbrev AreTextItems : Option Items → Type 0
AreTextItems None = Unit {0}
AreTextItems (Some ds) = ItemsAreTexts ds

abbrev AreTextMembers : Option Members → Type 0
AreTextMembers None = Unit {0}
AreTextMembers (Some ms) = MembersAreTexts ms

number_data : (o : Option Num) → IsTextData (option_map number o)
number_data None = tt
number_data (Some n) = tt

array_data : (o : Option Items) → AreTextItems o → IsTextData (option_map array o)
array_data None all = tt
array_data (Some ds) all = all

object_data : (o : Option Members) → AreTextMembers o → IsTextData (option_map object o)
object_data None all = tt
object_data (Some ms) all = all

item_more : (d : Data) → AreTexts d → (o : Option Items) → AreTextItems o → AreTextItems (option_map (item d) o)
item_more d here None all = tt
item_more d here (Some ds) all = (here, all)

item_then : (o : Option Data) → IsTextData o → (more : Option Items) → AreTextItems more → AreTextItems (option_and_then (λ d. option_map (item d) more) o)
item_then None here more all = tt
item_then (Some d) here more all = item_more d here more all

member_then : (o : Option Data) → IsTextData o → (f : Data → Option Members) → ((d : Data) → AreTexts d → AreTextMembers (f d)) → AreTextMembers (option_and_then f o)
member_then None here f each = tt
member_then (Some d) here f each = each d here

mutual
  of_json_text : (j : json.Json) → JsonTexts j → IsTextData (of_json j)
  of_json_text json.null all = tt
  of_json_text (json.boolean b) all = tt
  of_json_text (json.number s) all = number_data (number_of s)
  of_json_text (json.string s) all = all
  of_json_text (json.array js) all = array_data (of_items js) (of_items_text js all)
  of_json_text (json.object ms) all = object_data (of_members ms no_members) (of_members_text ms all no_members tt)

  of_items_text : (js : json.Items) → ItemTexts js → AreTextItems (of_items js)
  of_items_text json.no_items all = tt
  of_items_text (json.item j js) all = item_then (of_json j) (of_json_text j all.0) (of_items js) (of_items_text js all.1)

  of_members_text : (ms : json.Members) → MemberTexts ms → (found : Members) → MembersAreTexts found → AreTextMembers (of_members ms found)
  of_members_text json.no_members all found there = there
  of_members_text (json.member k j ms) all found there = member_then (of_json j) (of_json_text j all.0) (λ d. of_members ms (put k d found)) (λ d here. of_members_text ms all.1 (put k d found) (put_texts k d found here there))

if_last_text : (found : Option (json.Json × List Token)) → IsParsedWell JsonTexts found → IsTextData (option_and_then of_json (option_and_then (λ p. json.if_last p.0 p.1) found))
if_last_text None all = tt
if_last_text (Some (j, [])) all = of_json_text j all.0
if_last_text (Some (j, (t ∷ ts))) all = tt

is_text_data : (o : Option Data) (d : Data) → IsTextData o → o ≡ Some d → AreTexts d
is_text_data o d all is = subst IsTextData is all

pub values_are_texts : ValuesAreTexts
values_are_texts bytes value utf8 is =
    is_text_data (read bytes) value (if_last_text (json.value max_depth (tokens bytes)) (value_well max_depth (tokens bytes) (tokens_text bytes utf8))) is
