-- Lines behind gates. Proof plumbing.
use Rattle.std.proofs.Common.{ℕ, zero, suc, slice_index, eqb-true, ◌≡◌, ◌≢◌, ◌-◌, ◌<◌, ◌++◌, ◌∷◌, [], List, Bool, true, false, ◌==◌, length, take, drop, refl, sym, ap, ◌∙◌, arith, append_assoc, length-append, inl, inr}
use Rattle.std.proofs.lemmas.Bool.Decides.{nat_tests}
use Rattle.std.proofs.lemmas.Bool.{cases_eq, eqb-false, false_from_ne_true}
use Rattle.std.proofs.lemmas.List.{append-nil, drop_at}
use Rattle.sct_journal.specs.Kept.{AreLines, IsLine, behind_gates, ended_lines, ended_lines_from_byte, gated, gated_line, kept}

-- ---- the first line feed

abbrev pub is_feed : ℕ → Bool
is_feed byte = byte == 10

-- the first line feed of a text stands at a place
pub record EndsAt (text : List ℕ) (at : ℕ) : Type 0 where
  pub parts : text ≡ take at text ++ 10 ∷ drop (suc at) text
  pub line : IsLine (take at text)
  pub lines : ended_lines text ≡ take at text ∷ ended_lines (drop (suc at) text)

feed_first : (byte : ℕ) (bytes : List ℕ) → (byte == 10) ≡ true → EndsAt (byte ∷ bytes) 0
feed_first byte bytes feed = record {
  parts = let is : byte ≡ 10 = eqb-true byte 10 feed in ap (λ (b : ℕ). b ∷ bytes) is;
  line = tt;
  lines = rw feed refl;
}

feed_later : (byte : ℕ) (bytes : List ℕ) (at : ℕ) → (byte == 10) ≡ false → EndsAt bytes at → EndsAt (byte ∷ bytes) (suc at)
feed_later byte bytes at other found = record {
  parts = ap (λ (l : List ℕ). byte ∷ l) found.parts;
  line = (eqb-false byte 10 other, found.line);
  lines = rw (other, found.lines) refl;
}

pub feed_at : (text : List ℕ) (at : ℕ) → at < length text → is_feed (slice_index text at) ≡ true
    → ((k : ℕ) → k < at → is_feed (slice_index text k) ≡ true → ⊥) → EndsAt text at
feed_at [] at within passes before = absurd (omega arith)
feed_at (byte ∷ bytes) zero within passes before = feed_first byte bytes passes
feed_at (byte ∷ bytes) (suc at) within passes before =
    feed_later byte bytes at (false_from_ne_true (byte == 10) (before 0 (omega arith)))
    (feed_at bytes at (omega arith) passes (λ k below. before (suc k) (omega arith)))

pub no_feed : (text : List ℕ) → ((k : ℕ) → k < length text → is_feed (slice_index text k) ≡ true → ⊥) → ended_lines text ≡ []
no_feed [] none = refl
no_feed (byte ∷ bytes) none =
    rw (false_from_ne_true (byte == 10) (none 0 (omega arith)), no_feed bytes (λ k below. none (suc k) (omega arith))) refl

-- ---- what is kept

pub kept_open : (gate : ℕ) (text : List ℕ) (at : ℕ) → gate ≡ 32 → EndsAt text at → kept (gate ∷ text) ≡ take at text ∷ kept (drop (suc at) text)
unfolding kept
kept_open gate text at is first = rw (is, first.lines) refl

pub kept_unended : (gate : ℕ) (text : List ℕ) → gate ≡ 32 → ended_lines text ≡ [] → kept (gate ∷ text) ≡ []
unfolding kept
kept_unended gate text is none = rw (is, none) refl

shut_lines : (gate : ℕ) (lines : List (List ℕ)) → gate ≢ 32 → behind_gates (ended_lines_from_byte gate lines) ≡ []
shut_lines gate [] shut = refl
shut_lines gate (line ∷ lines) shut = grind (arith, nat_tests)

pub kept_shut : (gate : ℕ) (text : List ℕ) → gate ≢ 32 → kept (gate ∷ text) ≡ []
unfolding kept
kept_shut gate text shut = elim (cases_eq gate 10) [
  | inl feed ↦ rw feed refl
  | inr other ↦ let no : (gate == 10) ≡ false = grind (arith, nat_tests) in rw no (shut_lines gate (ended_lines text) shut)
]

pub kept_nothing : kept [] ≡ []
unfolding kept
kept_nothing = refl

-- ---- lines that are written

pub ended_line : (line rest : List ℕ) → IsLine line → ended_lines (line ++ 10 ∷ rest) ≡ line ∷ ended_lines rest
ended_line [] rest is = refl
ended_line (byte ∷ line) rest is = let no : (byte == 10) ≡ false = let differs : byte ≢ 10 = is.0 in grind (arith, nat_tests) in rw (no, ended_line line rest is.1) refl

pub kept_line : (line rest : List ℕ) → IsLine line → kept (gated_line line ++ rest) ≡ line ∷ kept rest
unfolding kept
kept_line line rest is = rw (append_assoc line (10 ∷ []) rest, ended_line line rest is) refl

-- lines behind open gates, and then whatever the rest stands for
pub kept_gated : (lines : List (List ℕ)) (rest : List ℕ) → AreLines lines → kept (gated lines ++ rest) ≡ lines ++ kept rest
kept_gated [] rest are = refl
kept_gated (line ∷ lines) rest are =
    ap kept (append_assoc (gated_line line) (gated lines) rest)
    ∙ kept_line line (gated lines ++ rest) are.0
    ∙ ap (λ (l : List (List ℕ)). line ∷ l) (kept_gated lines rest are.1)

-- a gate that is not open ends them
pub kept_closed : (lines : List (List ℕ)) (gate : ℕ) (rest : List ℕ) → AreLines lines → gate ≢ 32 → kept (gated lines ++ gate ∷ rest) ≡ lines
kept_closed lines gate rest are shut =
    kept_gated lines (gate ∷ rest) are ∙ ap (λ (l : List (List ℕ)). lines ++ l) (kept_shut gate rest shut) ∙ append-nil lines

pub gated_join : (lines more : List (List ℕ)) → gated (lines ++ more) ≡ gated lines ++ gated more
gated_join [] more = refl
gated_join (line ∷ lines) more = ap (λ (l : List ℕ). gated_line line ++ l) (gated_join lines more) ∙ sym (append_assoc (gated_line line) (gated lines) (gated more))

pub lines_join : (lines more : List (List ℕ)) → AreLines lines → AreLines more → AreLines (lines ++ more)
lines_join [] more are others = others
lines_join (line ∷ lines) more are others = (are.0, lines_join lines more are.1 others)

-- ---- what is kept are lines

onto_lines : (byte : ℕ) (lines : List (List ℕ)) → byte ≢ 10 → AreLines lines → AreLines (ended_lines_from_byte byte lines)
onto_lines byte [] differs are = tt
onto_lines byte (line ∷ lines) differs are = ((differs, are.0), are.1)

ended_are_lines : (text : List ℕ) → AreLines (ended_lines text)
ended_are_lines [] = tt
ended_are_lines (byte ∷ bytes) = elim (cases_eq byte 10) [
  | inl feed ↦ rw feed (tt, ended_are_lines bytes)
  | inr other ↦ let no : (byte == 10) ≡ false = grind (arith, nat_tests) in rw no (onto_lines byte (ended_lines bytes) other (ended_are_lines bytes))
]

behind_are_lines : (lines : List (List ℕ)) → AreLines lines → AreLines (behind_gates lines)
behind_are_lines [] are = tt
behind_are_lines ([] ∷ lines) are = tt
behind_are_lines ((gate ∷ line) ∷ lines) are = elim (cases_eq gate 32) [
  | inl is ↦ rw is (are.0.1, behind_are_lines lines are.1)
  | inr other ↦ let no : (gate == 32) ≡ false = grind (arith, nat_tests) in rw no tt
]

pub kept_are_lines : (file : List ℕ) → AreLines (kept file)
unfolding kept
kept_are_lines file = behind_are_lines (ended_lines file) (ended_are_lines file)

-- the bytes of a line more, as they are pushed
pub pushed_line : (before line : List ℕ) → (((before ++ 32 ∷ []) ++ line) ++ 10 ∷ []) ≡ before ++ gated_line line
pushed_line before line =
    append_assoc (before ++ 32 ∷ []) line (10 ∷ []) ∙ append_assoc before (32 ∷ []) (line ++ 10 ∷ [])

-- ---- lines that are read

-- a file is lines behind open gates, and then a rest
pub record Fronts (file rest : List ℕ) : Type 0 where
  pub lines : List (List ℕ)
  pub are : AreLines lines
  pub split : file ≡ gated lines ++ rest

pub fronts_none : (file : List ℕ) → Fronts file file
fronts_none file = record { lines = []; are = tt; split = refl }

pub fronts_more : (file rest line after : List ℕ) → Fronts file rest → rest ≡ gated_line line ++ after → IsLine line → Fronts file after
fronts_more file rest line after fronts is one = record {
  lines = fronts.lines ++ line ∷ [];
  are = lines_join fronts.lines (line ∷ []) fronts.are (one, tt);
  split =
      fronts.split
      ∙ ap (λ (l : List ℕ). gated fronts.lines ++ l) is
      ∙ sym (append_assoc (gated fronts.lines) (gated_line line) after)
      ∙ ap (λ (l : List ℕ). l ++ after) (ap (λ (l : List ℕ). gated fronts.lines ++ l) (sym (append-nil (gated_line line))) ∙ sym (gated_join fronts.lines (line ∷ [])));
}

pub fronts_all : (file rest : List ℕ) (fronts : Fronts file rest) → kept rest ≡ [] → kept file ≡ fronts.lines
fronts_all file rest fronts none =
    ap kept fronts.split ∙ kept_gated fronts.lines rest fronts.are ∙ ap (λ (l : List (List ℕ)). fronts.lines ++ l) none ∙ append-nil fronts.lines

pub fronts_split : (file rest : List ℕ) → Fronts file rest → kept rest ≡ [] → file ≡ gated (kept file) ++ rest
fronts_split file rest fronts none = fronts.split ∙ ap (λ (l : List (List ℕ)). gated l ++ rest) (sym (fronts_all file rest fronts none))

pub fronts_drop : (file rest : List ℕ) → Fronts file rest → drop (length file - length rest) file ≡ rest
fronts_drop file rest fronts =
    ap (λ (l : List ℕ). drop (length file - length rest) l) fronts.split
    ∙ drop_at (gated fronts.lines) rest (length file - length rest) (omega (arith, ap length fronts.split, length-append (gated fronts.lines) rest))

-- the bytes of lines keep these lines
pub kept_all : (text : List ℕ) (lines : List (List ℕ)) → text ≡ gated lines → AreLines lines → kept text ≡ lines
kept_all text lines is are =
    ap kept (is ∙ sym (append-nil (gated lines))) ∙ kept_gated lines [] are ∙ ap (λ (l : List (List ℕ)). lines ++ l) kept_nothing ∙ append-nil lines

-- ---- the test for a line

pub line_if_none : (line : List ℕ) → ((k : ℕ) → k < length line → is_feed (slice_index line k) ≡ true → ⊥) → IsLine line
line_if_none [] none = tt
line_if_none (byte ∷ bytes) none = (eqb-false byte 10 (false_from_ne_true (byte == 10) (none 0 (omega arith))), line_if_none bytes (λ k below. none (suc k) (omega arith)))

pub none_if_line : (line : List ℕ) → IsLine line → (k : ℕ) → k < length line → is_feed (slice_index line k) ≡ true → ⊥
none_if_line [] is k below feed = absurd (omega arith)
none_if_line (byte ∷ bytes) is zero below feed = is.0 (eqb-true byte 10 feed)
none_if_line (byte ∷ bytes) is (suc k) below feed = none_if_line bytes is.1 k (omega arith) feed

-- ---- the bytes of a batch

-- a line more
pub pushed_more : (old new line : List ℕ) → old ≡ gated (kept old) → new ≡ old ++ gated_line line → IsLine line → kept new ≡ kept old ++ line ∷ []
pushed_more old new line are is one =
    kept_all new (kept old ++ line ∷ [])
    (is ∙ ap (λ (l : List ℕ). l ++ gated_line line) are ∙ ap (λ (l : List ℕ). gated (kept old) ++ l) (sym (append-nil (gated_line line))) ∙ sym (gated_join (kept old) (line ∷ [])))
    (lines_join (kept old) (line ∷ []) (kept_are_lines old) (one, tt))

pub pushed_gated : (old new line : List ℕ) → old ≡ gated (kept old) → new ≡ old ++ gated_line line → IsLine line → new ≡ gated (kept new)
pushed_gated old new line are is one =
    is
    ∙ ap (λ (l : List ℕ). l ++ gated_line line) are
    ∙ ap (λ (l : List ℕ). gated (kept old) ++ l) (sym (append-nil (gated_line line)))
    ∙ sym (gated_join (kept old) (line ∷ []))
    ∙ ap gated (sym (pushed_more old new line are is one))

gated_length : (lines : List (List ℕ)) → (length (gated lines) == 0) ≡ (length lines == 0)
gated_length [] = refl
gated_length (line ∷ lines) =
    let some : 0 < length (gated (line ∷ lines)) = omega (arith, length-append (gated_line line) (gated lines), length-append (32 ∷ line) (10 ∷ [])) in grind (arith, nat_tests)

-- no bytes are no lines
pub none_if_empty : (text : List ℕ) → text ≡ gated (kept text) → (length text == 0) ≡ (length (kept text) == 0)
none_if_empty text are = ap (λ (l : List ℕ). length l == 0) are ∙ gated_length (kept text)
