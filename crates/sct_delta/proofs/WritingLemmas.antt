-- The lines of a text that is made of lines. Proof plumbing.
use Rattle.std.proofs.Common.{ℕ, ◌≡◌, ◌<◌, ◌^◌, ◌++◌, ◌∷◌, [], List, Bool, true, false, cond, Some, None, ◌==◌, not, refl, ap, ◌∙◌, arith, append_assoc, eqb-true, ◌↔◌}
use Rattle.std.specs.Prelude.{decimal, flat_map}
use Rattle.std.specs.Char.{digit_value}
use Rattle.std.specs.List.{list_all}
use Rattle.std.specs.Str.Parse.{AllDigits}
use Rattle.std.proofs.lemmas.Bool.{and_parts, and_from, not-true}
use Rattle.std.proofs.lemmas.Bool.Decides.{nat_tests}
use Rattle.std.proofs.lemmas.Fmt.{decimal_is_IsNumeral, decimal_is_IsNumeral_wide}
use Rattle.std.proofs.lemmas.List.Folds.{list_all-append}
use Rattle.sct_json.specs.Writing.{has_no_line_feed}
use Rattle.sct_delta.specs.TextLines.{Line, lines_by_end, lines_as, lines_from_byte, ended, end_line}
use Rattle.sct_delta.proofs.TextLemmas.{lines_of_none, feed_first, line_behind}

-- ---- lines make the text

pub not_other : (b : Bool) → b ≡ false → not b ≡ true
not_other true h = cc
not_other false h = refl

pub line_ended : (line rest : List ℕ) → has_no_line_feed line ≡ true → lines_by_end (line ++ 10 ∷ rest) ≡ Some line ∷ lines_by_end rest
line_ended [] rest one = feed_first 10 rest refl
line_ended (byte ∷ line) rest one =
    let parts : (not (byte == 10) ≡ true) × (has_no_line_feed line ≡ true) = and_parts (not (byte == 10)) (has_no_line_feed line) one in
    line_behind byte (line ++ 10 ∷ rest) line (lines_by_end rest) (not-true (byte == 10) parts.0) (line_ended line rest parts.1)

pub ended_behind : (line rest : List ℕ) → has_no_line_feed line ≡ true → lines_by_end (ended line ++ rest) ≡ Some line ∷ lines_by_end rest
ended_behind line rest one = ap lines_by_end (append_assoc line (10 ∷ []) rest) ∙ line_ended line rest one

pub lines_from_text : (lines : List (List ℕ)) → list_all has_no_line_feed lines ≡ true → lines_by_end (flat_map ended lines) ≡ lines_as lines
lines_from_text [] one = lines_of_none
lines_from_text (line ∷ lines) one =
    let parts : (has_no_line_feed line ≡ true) × (list_all has_no_line_feed lines ≡ true) = and_parts (has_no_line_feed line) (list_all has_no_line_feed lines) one in
    ended_behind line (flat_map ended lines) parts.0 ∙ ap (λ (ls : List Line). Some line ∷ ls) (lines_from_text lines parts.1)

-- A text whose lines are these.
pub record IsMadeOf (bytes : List ℕ) (lines : List (List ℕ)) : Type 0 where
  pub text : bytes ≡ flat_map ended lines
  pub parted : list_all has_no_line_feed lines ≡ true

made_of_more : (byte : ℕ) (bytes : List ℕ) (line : List ℕ) (lines : List (List ℕ)) → (byte == 10) ≡ false → IsMadeOf bytes (line ∷ lines) → IsMadeOf (byte ∷ bytes) ((byte ∷ line) ∷ lines)
made_of_more byte bytes line lines other made = record {
  text = ap (λ (t : List ℕ). byte ∷ t) made.text;
  parted = rw other made.parted;
}

made_of_feed : (byte : ℕ) (bytes : List ℕ) (lines : List (List ℕ)) → (byte == 10) ≡ true → IsMadeOf bytes lines → IsMadeOf (byte ∷ bytes) ([] ∷ lines)
made_of_feed byte bytes lines feed made = record {
  text = ap (λ (b : ℕ). b ∷ bytes) (eqb-true byte 10 feed) ∙ ap (λ (t : List ℕ). 10 ∷ t) made.text;
  parted = made.parted;
}

-- ended lines with a line in front of them: the line is ended, and the others are
first_as : (line : Line) (rest : List Line) (lines : List (List ℕ)) → line ∷ rest ≡ lines_as lines → (first : List ℕ) × (others : List (List ℕ)) × (lines ≡ first ∷ others) × (line ≡ Some first) × (rest ≡ lines_as others)
first_as line rest [] h = cc
first_as line rest (first ∷ others) h = (first, others, refl, cc, cc)

onto_as : (byte : ℕ) (bytes : List ℕ) (found : List Line) (lines : List (List ℕ)) → ((ls : List (List ℕ)) → found ≡ lines_as ls → IsMadeOf bytes ls) → (byte == 10) ≡ false → lines_from_byte byte found ≡ lines_as lines → IsMadeOf (byte ∷ bytes) lines
onto_as byte bytes [] lines made other h = let parts = first_as None [] lines h in cc
onto_as byte bytes (None ∷ found) lines made other h = let parts = first_as None found lines h in cc
onto_as byte bytes (Some line ∷ found) lines made other h =
    let parts = first_as (Some (byte ∷ line)) found lines h in
    let first : byte ∷ line ≡ parts.0 = cc in
    rw (parts.2, ← first) (made_of_more byte bytes line parts.1 other (made (line ∷ parts.1) (ap (λ (ls : List Line). Some line ∷ ls) parts.4)))

pub text_from_lines : (bytes : List ℕ) (lines : List (List ℕ)) → lines_by_end bytes ≡ lines_as lines → IsMadeOf bytes lines
unfolding lines_by_end
text_from_lines [] [] h = record { text = refl; parted = refl }
text_from_lines [] (line ∷ lines) h = cc
text_from_lines (byte ∷ bytes) lines h =
    (elim (byte == 10) as (λ feed. (byte == 10) ≡ feed → cond feed (Some [] ∷ lines_by_end bytes) (lines_from_byte byte (lines_by_end bytes)) ≡ lines_as lines → IsMadeOf (byte ∷ bytes) lines) [
      | true ↦ λ feed is.
          let parts = first_as (Some []) (lines_by_end bytes) lines is in
          let first : [] ≡ parts.0 = cc in
          rw (parts.2, ← first) (made_of_feed byte bytes parts.1 feed (text_from_lines bytes parts.1 parts.4))
      | false ↦ λ other is. onto_as byte bytes (lines_by_end bytes) lines (text_from_lines bytes) other is
    ]) refl h

pub lines_tile : (bytes : List ℕ) (lines : List (List ℕ)) → (lines_by_end bytes ≡ lines_as lines) ↔ ((bytes ≡ flat_map ended lines) × (list_all has_no_line_feed lines ≡ true))
lines_tile bytes lines = (
  λ h. let made = text_from_lines bytes lines h in (made.text, made.parted),
  λ h. ap lines_by_end h.0 ∙ lines_from_text lines h.1,
)

-- ---- lines with numbers

no_feed : (c : ℕ) → digit_value c < 10 → not (c == 10) ≡ true
no_feed c h = let other : (c == 10) ≡ false = grind (arith, nat_tests, h) in not_other (c == 10) other

pub digits_one_line : (s : List ℕ) → AllDigits 10 s → has_no_line_feed s ≡ true
digits_one_line [] h = refl
digits_one_line (c ∷ cs) h = and_from _ _ (no_feed c h.0) (digits_one_line cs h.1)

pub decimal_one_line : (n : ℕ) → n < 2 ^ 64 → has_no_line_feed (decimal n) ≡ true
decimal_one_line n small = digits_one_line (decimal n) (decimal_is_IsNumeral n small).0.1

pub one_line_appended : (some more : List ℕ) → has_no_line_feed some ≡ true → has_no_line_feed more ≡ true → has_no_line_feed (some ++ more) ≡ true
one_line_appended some more left right = rw (list_all-append (λ byte. not (byte == 10)) some more, left, right) refl

-- also of two counts below 2^64 together
pub end_one_line : (count : ℕ) → count < 10 ^ 64 → has_no_line_feed (end_line count) ≡ true
end_one_line count small = digits_one_line (decimal count) (decimal_is_IsNumeral_wide count small).0.1
