-- Lines of a text, one after another. Proof plumbing.
use Rattle.std.proofs.Common.{ℕ, ◌≡◌, ◌+◌, ◌<◌, ◌++◌, ◌∷◌, [], List, Bool, true, false, cond, Option, Some, None, Result, Ok, Err, ◌==◌, not, length, take, drop, refl, sym, ap, subst, ◌∙◌, rules, arith, add-one, take_all, append_assoc, length-append}
use Rattle.std.specs.List.{flat_map, position_from}
use Rattle.std.proofs.Math.Seq.{drop-length}
use Rattle.std.specs.Arc.{arc_value}
use Rattle.std.specs.Global.{Global}
use Rattle.std.specs.declared.sync.Arc.{Arc}
use Rattle.std.proofs.lemmas.List.{append-nil, map-append}
use Rattle.std.proofs.lemmas.Grind.{flat_map-append}
use Rattle.std.proofs.lemmas.List.Elements.{filter_map-append}
use Rattle.sct_message.specs.declared.draft.Draft.{Draft}
use Rattle.sct_message.specs.Sets.{messages_in}
use Rattle.sct_json.specs.declared.faults.JsonFault.{JsonFault}
use Rattle.sct_json.specs.Reading.{message_in}
use Rattle.sct_json.specs.Writing.{written_text}
use Rattle.sct_json.proofs.Texts.{text_begins}
use Rattle.sct_lines.specs.Lines.{is_blank, json_fault_text, lines_of, numbered_from, messages_among, refusals_among, told_after, told_text_of, refusal_line}
use Rattle.sct_lines.specs.Refused.{reporting_line}

-- a byte is a line feed
abbrev pub is_feed : ℕ → Bool
is_feed byte = byte == 10

-- the first line of a text whose first line feed stands at a place, where places count from one given
pub record EndsFirstAt (text : List ℕ) (from place : ℕ) : Type 0 where
  pub count : ℕ
  pub at : place ≡ from + count
  pub within : count < length text
  pub lines : lines_of text ≡ take count text ∷ lines_of (drop (count + 1) text)

later : (byte : ℕ) (bytes : List ℕ) (from place : ℕ) → EndsFirstAt bytes (from + 1) place → (byte == 10) ≡ false → EndsFirstAt (byte ∷ bytes) from place
unfolding lines_of
later byte bytes from place found other = record {
  count = found.count + 1;
  at = omega (arith, found.at);
  within = omega (arith, found.within);
  lines = rw (other, found.lines) (simp add-one);
}

here : (byte : ℕ) (bytes : List ℕ) (from place : ℕ) → Some from ≡ Some place → (byte == 10) ≡ true → EndsFirstAt (byte ∷ bytes) from place
unfolding lines_of
here byte bytes from place found feed = record {
  count = 0;
  at = let same : from ≡ place = cc in omega (arith, same);
  within = omega arith;
  lines = rw feed refl;
}

pub first_line_to_feed : (text : List ℕ) (from place : ℕ) → position_from is_feed from text ≡ Some place → EndsFirstAt text from place
first_line_to_feed [] from place found = cc
first_line_to_feed (byte ∷ bytes) from place found =
    (elim (byte == 10) as (λ feed. (byte == 10) ≡ feed → cond feed (Some from) (position_from is_feed (from + 1) bytes) ≡ Some place → EndsFirstAt (byte ∷ bytes) from place) [
      | true ↦ λ feed first. here byte bytes from place first feed
      | false ↦ λ other next. later byte bytes from place (first_line_to_feed bytes (from + 1) place next) other
    ]) refl found

one_more : (byte : ℕ) (bytes : List ℕ) → (byte == 10) ≡ false → lines_of bytes ≡ bytes ∷ [] → lines_of (byte ∷ bytes) ≡ (byte ∷ bytes) ∷ []
unfolding lines_of
one_more byte bytes other only = rw (other, only) refl

alone : (byte : ℕ) → (byte == 10) ≡ false → lines_of (byte ∷ []) ≡ (byte ∷ []) ∷ []
unfolding lines_of
alone byte other = rw other refl

pub only_line : (byte : ℕ) (bytes : List ℕ) (from : ℕ) → position_from is_feed from (byte ∷ bytes) ≡ None → lines_of (byte ∷ bytes) ≡ (byte ∷ bytes) ∷ []
only_line byte [] from none =
    (elim (byte == 10) as (λ feed. (byte == 10) ≡ feed → cond feed (Some from) None ≡ None → lines_of (byte ∷ []) ≡ (byte ∷ []) ∷ [])
    [ true ↦ λ feed first. cc | false ↦ λ other next. alone byte other ]) refl none
only_line byte (next ∷ bytes) from none =
    (elim (byte == 10) as (λ feed. (byte == 10) ≡ feed → cond feed (Some from) (position_from is_feed (from + 1) (next ∷ bytes)) ≡ None → lines_of (byte ∷ next ∷ bytes) ≡ (byte ∷ next ∷ bytes) ∷ []) [
      | true ↦ λ feed first. cc
      | false ↦ λ other later. one_more byte (next ∷ bytes) other (only_line next bytes (from + 1) later)
    ]) refl none

pub line_to_feed : (text : List ℕ) (place : ℕ) → position_from is_feed 0 text ≡ Some place → lines_of text ≡ take place text ∷ lines_of (drop (place + 1) text)
line_to_feed text place found =
    let first = first_line_to_feed text 0 place found in
    let same : place ≡ first.count = omega (arith, first.at) in
    rw same first.lines

pub lines_of_none : lines_of [] ≡ []
unfolding lines_of
lines_of_none = refl

pub line_to_end : (text : List ℕ) → 0 < length text → position_from is_feed 0 text ≡ None → lines_of text ≡ take (length text) text ∷ lines_of (drop (length text) text)
line_to_end [] some none = absurd (omega arith)
line_to_end (byte ∷ bytes) some none =
    rw (drop-length, lines_of_none, take_all (length (byte ∷ bytes)) (byte ∷ bytes) (omega arith)) (only_line byte bytes 0 none)

-- ---- one line more

pub blank_line : (number : ℕ) (line : List ℕ) → is_blank line ≡ true → numbered_from number (line ∷ []) ≡ []
unfolding numbered_from
blank_line number line blank = rw blank refl

pub written_line : (number : ℕ) (line : List ℕ) → is_blank line ≡ false → numbered_from number (line ∷ []) ≡ (number, line) ∷ []
unfolding numbered_from
written_line number line written = rw written refl

pub message_line : (number : ℕ) (line : List ℕ) (message : Draft) → message_in line ≡ Ok message → messages_among ((number, line) ∷ []) ≡ message ∷ []
unfolding messages_among
message_line number line message read = rw read refl

pub no_refusal : (number : ℕ) (line : List ℕ) (message : Draft) → message_in line ≡ Ok message → refusals_among ((number, line) ∷ []) ≡ []
unfolding refusals_among
no_refusal number line message read = rw read refl

pub no_message : (number : ℕ) (line : List ℕ) (fault : JsonFault) → message_in line ≡ Err fault → messages_among ((number, line) ∷ []) ≡ []
unfolding messages_among
no_message number line fault read = rw read refl

pub refused_line : (number : ℕ) (line : List ℕ) (fault : JsonFault) → message_in line ≡ Err fault → refusals_among ((number, line) ∷ []) ≡ (number, fault) ∷ []
unfolding refusals_among
refused_line number line fault read = rw read refl

pub told_none : (front : List ℕ) → told_after front [] ≡ []
unfolding told_after
told_none front = refl

pub told_one : (front : List ℕ) (number : ℕ) (fault : JsonFault) → told_after front ((number, fault) ∷ []) ≡ front ++ reporting_line number (json_fault_text fault)
unfolding told_after refusal_line
told_one front number fault = append-nil (front ++ reporting_line number (json_fault_text fault))

-- with nothing in front
pub told_plainly : (refusals : List (ℕ × JsonFault)) → told_after [] refusals ≡ told_text_of refusals
unfolding told_after told_text_of
told_plainly refusals = refl

pub messages_of_none : messages_among [] ≡ []
unfolding messages_among
messages_of_none = refl

pub refusals_of_none : refusals_among [] ≡ []
unfolding refusals_among
refusals_of_none = refl

-- what one line more gives
pub ruleset one_line = (blank_line, written_line, message_line, no_refusal, no_message, refused_line, told_none, told_one, messages_of_none, refusals_of_none, append-nil)

-- a message behind the others, where it is what its line is read as
pub message_behind : (messages : List (Arc Draft Global)) (shared : Arc Draft Global) (number : ℕ) (line : List ℕ) (message : Draft)
    → is_blank line ≡ false → message_in line ≡ Ok message → arc_value shared ≡ message
    → messages_in (messages ++ shared ∷ []) ≡ messages_in messages ++ messages_among (numbered_from number (line ∷ []))
message_behind messages shared number line message written read same =
    map-append arc_value messages (shared ∷ [])
    ∙ ap (λ (m : Draft). messages_in messages ++ m ∷ []) same
    ∙ ap (λ (ms : List Draft). messages_in messages ++ ms) (sym (ap messages_among (written_line number line written) ∙ message_line number line message read))

-- the line that reports a refused line, after those before it
pub refusal_behind : (told after front : List ℕ) (number : ℕ) (line : List ℕ) (fault : JsonFault) → is_blank line ≡ false → message_in line ≡ Err fault
    → after ≡ told ++ front ++ reporting_line number (json_fault_text fault)
    → after ≡ told ++ told_after front (refusals_among (numbered_from number (line ∷ [])))
refusal_behind told after front number line fault written refused is =
    is ∙ append_assoc told front (reporting_line number (json_fault_text fault))
    ∙ ap (λ (more : List ℕ). told ++ more)
    (sym (ap (λ ls. told_after front (refusals_among ls)) (written_line number line written)
    ∙ ap (told_after front) (refused_line number line fault refused)
    ∙ told_one front number fault))

-- ---- the first line, and then the others

pub numbered-cons : (number : ℕ) (line : List ℕ) (lines : List (List ℕ)) → numbered_from number (line ∷ lines) ≡ numbered_from number (line ∷ []) ++ numbered_from (number + 1) lines
unfolding numbered_from
numbered-cons number line lines =
    elim (is_blank line) as (λ blank. cond (not blank) ((number, line) ∷ numbered_from (number + 1) lines) (numbered_from (number + 1) lines) ≡ cond (not blank) ((number, line) ∷ []) [] ++ numbered_from (number + 1) lines)
    [ true ↦ refl | false ↦ refl ]

pub numbered_none : (number : ℕ) → numbered_from number [] ≡ []
unfolding numbered_from
numbered_none number = refl

-- the lines of a text, the first of which has a number
abbrev pub lines_left : ℕ → List ℕ → List (ℕ × List ℕ)
lines_left number text = numbered_from number (lines_of text)

pub lines_left-cons : (number : ℕ) (line rest text : List ℕ) → lines_of text ≡ line ∷ lines_of rest → lines_left number text ≡ numbered_from number (line ∷ []) ++ lines_left (number + 1) rest
lines_left-cons number line rest text first = rw first (numbered-cons number line (lines_of rest))

pub lines_left_none : (number : ℕ) (text : List ℕ) → text ≡ [] → lines_left number text ≡ []
lines_left_none number text none = rw (none, lines_of_none, numbered_none) refl

-- ---- what is found on lines, one after another

-- what is found on some lines and then on more is what is found on all of them
pub record IsByLine {X : Type 0} (found : List (ℕ × List ℕ) → List X) : Type 0 where
  pub none : found [] ≡ []
  pub append : (some more : List (ℕ × List ℕ)) → found (some ++ more) ≡ found some ++ found more

pub messages_by_line : IsByLine messages_among
unfolding messages_among
messages_by_line = record { none = refl; append = λ some more. filter_map-append _ some more }

pub refusals_by_line : IsByLine refusals_among
unfolding refusals_among
refusals_by_line = record { none = refl; append = λ some more. filter_map-append _ some more }

-- the text of what is found
pub text_by_line : {X : Type 0} (found : List (ℕ × List ℕ) → List X) (text_of : X → List ℕ) → IsByLine found → IsByLine (λ lines. flat_map text_of (found lines))
text_by_line found text_of by = record {
  none = rw by.none refl;
  append = λ some more. rw (by.append some more) (flat_map-append text_of (found some) (found more));
}

pub told_by_line : (front : List ℕ) → IsByLine (λ lines. told_after front (refusals_among lines))
unfolding told_after
told_by_line front = text_by_line refusals_among (λ refusal. front ++ refusal_line refusal) refusals_by_line

-- one line more is read, of those that are left
pub step : {X : Type 0} (found : List (ℕ × List ℕ) → List X) → IsByLine found → (before after all : List X) (number : ℕ) (line rest text : List ℕ)
    → lines_of text ≡ line ∷ lines_of rest → before ++ found (lines_left number text) ≡ all
    → after ≡ before ++ found (numbered_from number (line ∷ [])) → after ++ found (lines_left (number + 1) rest) ≡ all
step found by before after all number line rest text first whole now =
    rw (now, append_assoc, ← by.append (numbered_from number (line ∷ [])) (lines_left (number + 1) rest), ← lines_left-cons number line rest text first) whole

-- no lines are left
pub end : {X : Type 0} (found : List (ℕ × List ℕ) → List X) → IsByLine found → (so_far all : List X) (number : ℕ) (text : List ℕ)
    → text ≡ [] → so_far ++ found (lines_left number text) ≡ all → so_far ≡ all
end found by so_far all number text none whole = rw (lines_left_none number text none, by.none, append-nil) at whole

-- the same of how much is found
pub count_step : {X : Type 0} (found : List (ℕ × List ℕ) → List X) → IsByLine found → (before after all number : ℕ) (line rest text : List ℕ)
    → lines_of text ≡ line ∷ lines_of rest → before + length (found (lines_left number text)) ≡ all
    → after ≡ before + length (found (numbered_from number (line ∷ []))) → after + length (found (lines_left (number + 1) rest)) ≡ all
count_step found by before after all number line rest text first whole now =
    let both : length (found (lines_left number text)) ≡ length (found (numbered_from number (line ∷ []))) + length (found (lines_left (number + 1) rest)) =
    rw (lines_left-cons number line rest text first, by.append) (length-append (found (numbered_from number (line ∷ []))) (found (lines_left (number + 1) rest))) in
    omega (arith, both)

pub count_end : {X : Type 0} (found : List (ℕ × List ℕ) → List X) → IsByLine found → (so_far all number : ℕ) (text : List ℕ)
    → text ≡ [] → so_far + length (found (lines_left number text)) ≡ all → so_far ≡ all
count_end found by so_far all number text none whole =
    let nothing : length (found (lines_left number text)) ≡ 0 = rw (lines_left_none number text none, by.none) refl in
    omega (arith, nothing, whole)

-- the same of the lines themselves
pub count_lines_end : (so_far all : ℕ) (text : List ℕ) → text ≡ [] → so_far + length (lines_of text) ≡ all → so_far ≡ all
count_lines_end so_far all text none whole =
    let nothing : length (lines_of text) ≡ 0 = rw (none, lines_of_none) refl in
    omega (arith, nothing, whole)

-- ---- the lines of a part, which count on from those before it

pub next_line : {X : Type 0} (found : List (ℕ × List ℕ) → List X) → IsByLine found → (before after all : List X) (counted was lines : ℕ) (line rest text : List ℕ)
    → was ≡ counted → lines_of text ≡ line ∷ lines_of rest → before ++ found (lines_left (counted + lines + 1) text) ≡ all
    → after ≡ before ++ found (numbered_from (was + (lines + 1)) (line ∷ [])) → after ++ found (lines_left (counted + (lines + 1) + 1) rest) ≡ all
next_line found by before after all counted was lines line rest text same first whole now =
    let here : was + (lines + 1) ≡ counted + lines + 1 = omega (arith, same) in
    let next : counted + lines + 1 + 1 ≡ counted + (lines + 1) + 1 = omega arith in
    subst (λ n. after ++ found (lines_left n rest) ≡ all) next
    (step found by before after all (counted + lines + 1) line rest text first whole (now ∙ ap (λ n. before ++ found (numbered_from n (line ∷ []))) here))

pub next_count : {X : Type 0} (found : List (ℕ × List ℕ) → List X) → IsByLine found → (before after all counted was lines : ℕ) (line rest text : List ℕ)
    → was ≡ counted → lines_of text ≡ line ∷ lines_of rest → before + length (found (lines_left (counted + lines + 1) text)) ≡ all
    → after ≡ before + length (found (numbered_from (was + (lines + 1)) (line ∷ []))) → after + length (found (lines_left (counted + (lines + 1) + 1) rest)) ≡ all
next_count found by before after all counted was lines line rest text same first whole now =
    let here : was + (lines + 1) ≡ counted + lines + 1 = omega (arith, same) in
    let next : counted + lines + 1 + 1 ≡ counted + (lines + 1) + 1 = omega arith in
    subst (λ n. after + length (found (lines_left n rest)) ≡ all) next
    (count_step found by before after all (counted + lines + 1) line rest text first whole (now ∙ ap (λ n. before + length (found (numbered_from n (line ∷ [])))) here))

-- the line of a message has more than white space
pub visible : (message : Draft) → is_blank (written_text message) ≡ false
unfolding is_blank
visible message = let begins = text_begins message in rw begins.1 refl
