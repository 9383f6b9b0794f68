-- The lines before the first wrong one of form 1 are those of a form: an end line in its place makes one. Proof plumbing.
use Rattle.std.proofs.Common.{ℕ, zero, suc, ◌≡◌, ◌+◌, ◌≤◌, ◌++◌, ◌∷◌, [], List, Bool, true, false, cond, Some, None, Ok, Err, ◌==◌, take, length, refl, sym, ap, ◌∙◌, arith, append_assoc}
use Rattle.std.specs.Prelude.{nat_eq}
use Rattle.std.specs.Cmp.Lexicographic.{pointwise}
use Rattle.std.specs.List.{list_all}
use Rattle.std.proofs.lemmas.Bool.{and_parts}
use Rattle.std.proofs.lemmas.List.{append-nil}
use Rattle.sct_json.specs.Writing.{has_no_line_feed}
use Rattle.sct_delta.specs.Entries.{Placed}
use Rattle.sct_delta.specs.Shapes.{may_be_next}
use Rattle.sct_delta.specs.TextLines.{Line, lines_by_end, lines_as, lines_from_byte, is_end_line, end_line, entries_ended}
use Rattle.sct_delta.specs.EntryText.{entry_in, entries_on, entries_in}
use Rattle.sct_delta.proofs.TextLemmas.{same_texts}
use Rattle.sct_delta.proofs.FormLemmas.{end_is_end, no_entry_at_end}
use Rattle.sct_delta.proofs.WrongLineLemmas.{Is, told_here, at_least}

-- ---- lines of a text are one line each, and no more than its bytes

abbrev pub is_one : Line → Bool
is_one None = true
is_one (Some line) = has_no_line_feed line

abbrev pub AreOne : List Line → Type 0
AreOne lines = list_all is_one lines ≡ true

onto_one : (byte : ℕ) (lines : List Line) → (byte == 10) ≡ false → AreOne lines → AreOne (lines_from_byte byte lines)
onto_one byte [] other one = refl
onto_one byte (None ∷ lines) other one = one
onto_one byte (Some line ∷ lines) other one = rw other one

pub lines_are_one : (bytes : List ℕ) → AreOne (lines_by_end bytes)
unfolding lines_by_end
lines_are_one [] = refl
lines_are_one (byte ∷ bytes) =
    (elim (byte == 10) as (λ feed. (byte == 10) ≡ feed → AreOne (cond feed (Some [] ∷ lines_by_end bytes) (lines_from_byte byte (lines_by_end bytes)))) [
      | true ↦ λ e. lines_are_one bytes
      | false ↦ λ e. onto_one byte (lines_by_end bytes) e (lines_are_one bytes)
    ]) refl

onto_few : (byte k : ℕ) (lines : List Line) → length lines ≤ k → length (lines_from_byte byte lines) ≤ k + 1
onto_few byte k [] few = omega arith
onto_few byte k (None ∷ lines) few = omega (arith, few)
onto_few byte k (Some line ∷ lines) few = omega (arith, few)

pub few_lines : (bytes : List ℕ) → length (lines_by_end bytes) ≤ length bytes
unfolding lines_by_end
few_lines [] = omega arith
few_lines (byte ∷ bytes) =
    elim (byte == 10) as (λ feed. length (cond feed (Some [] ∷ lines_by_end bytes) (lines_from_byte byte (lines_by_end bytes))) ≤ length (byte ∷ bytes)) [
      | true ↦ omega (arith, few_lines bytes)
      | false ↦ omega (arith, onto_few byte (length bytes) (lines_by_end bytes) (few_lines bytes))
    ]

-- ---- what the lines from a place on are mended to

-- The first lines, so many, with further ones that are read as entries.
pub record Mended (place j origin n : ℕ) (entries : List Placed) (lines : List Line) : Type 0 where
  pub told : List (List ℕ)
  pub more : List Placed
  pub agree : take j lines ≡ take j (lines_as (told ++ end_line (length (entries ++ more)) ∷ []))
  pub read : entries_in place origin n entries (lines_as (told ++ end_line (length (entries ++ more)) ∷ [])) ≡ Ok (entries ++ more)
  pub one : list_all has_no_line_feed told ≡ true
  pub few : length more ≤ length lines

pub ends_here : (place origin n : ℕ) (entries : List Placed) → entries_in place origin n entries (Some (end_line (length entries)) ∷ []) ≡ Ok entries
unfolding entries_in
ends_here place origin n entries = rw (no_entry_at_end (length entries), end_is_end (length entries)) refl

-- nothing is kept of the lines
mended_here : (place j origin n : ℕ) (entries : List Placed) (lines : List Line) → j ≡ 0 → Mended place j origin n entries lines
mended_here place zero origin n entries lines none = record {
  told = [];
  more = [];
  agree = refl;
  read = rw (append-nil entries) (ends_here place origin n entries);
  one = refl;
  few = omega arith;
}
mended_here place (suc j) origin n entries lines none = absurd (omega (arith, none))

-- the end line is kept
mended_end : (place j origin n : ℕ) (entries : List Placed) (line : List ℕ) (lines : List Line) → j ≡ 1 → line ≡ end_line (length entries) → Mended place j origin n entries (Some line ∷ lines)
mended_end place zero origin n entries line lines one is = absurd (omega (arith, one))
mended_end place (suc zero) origin n entries line lines one is = record {
  told = [];
  more = [];
  agree = ap (λ (l : List ℕ). Some l ∷ []) (is ∙ ap (λ (es : List Placed). end_line (length es)) (sym (append-nil entries)));
  read = rw (append-nil entries) (ends_here place origin n entries);
  one = refl;
  few = omega arith;
}
mended_end place (suc (suc j)) origin n entries line lines one is = absurd (omega (arith, one))

mended_more : (place j origin n : ℕ) (entries : List Placed) (line : List ℕ) (lines : List Line) (entry : Placed) → entry_in line ≡ Some entry → may_be_next origin n entry ≡ true → has_no_line_feed line ≡ true
    → Mended (place + 1) j entry.origin entry.n (entries ++ entry ∷ []) lines → Mended place (suc j) origin n entries (Some line ∷ lines)
unfolding entries_in
mended_more place j origin n entries line lines entry told next one rest =
    let same : (entries ++ entry ∷ []) ++ rest.more ≡ entries ++ entry ∷ rest.more = append_assoc entries (entry ∷ []) rest.more in
    record {
      told = line ∷ rest.told;
      more = entry ∷ rest.more;
      agree = ap (λ (ls : List Line). Some line ∷ ls) (rest.agree ∙ ap (λ (es : List Placed). take j (lines_as (rest.told ++ end_line (length es) ∷ []))) same);
      read = rw (told, next, ← same) rest.read;
      one = rw one rest.one;
      few = omega (arith, rest.few);
    }

mended_ended : (place j origin n : ℕ) (entries : List Placed) (line : List ℕ) (lines : List Line) → entries_ended place entries line lines ≡ Err (place + j) → Mended place j origin n entries (Some line ∷ lines)
unfolding is_end_line
mended_ended place j origin n entries line [] h =
    (elim (pointwise nat_eq line (end_line (length entries))) as (λ ends. Is (cond ends (Ok entries) (Err place)) (Err (place + j)) → Mended place j origin n entries (Some line ∷ [])) [
      | true ↦ λ e. cc
      | false ↦ λ e. mended_here place j origin n entries (Some line ∷ []) (omega (arith, told_here place (place + j) e))
    ]) h
mended_ended place j origin n entries line (more ∷ lines) h =
    (elim (pointwise nat_eq line (end_line (length entries))) as (λ ends. pointwise nat_eq line (end_line (length entries)) ≡ ends → Is (cond ends (Err (place + 1)) (Err place)) (Err (place + j)) → Mended place j origin n entries (Some line ∷ more ∷ lines)) [
      | true ↦ λ ends e. mended_end place j origin n entries line (more ∷ lines) (omega (arith, told_here (place + 1) (place + j) e)) (same_texts line (end_line (length entries)) ends)
      | false ↦ λ other e. mended_here place j origin n entries (Some line ∷ more ∷ lines) (omega (arith, told_here place (place + j) e))
    ]) refl h

-- one line further, where it is a later one that is wrong
later : (place j origin n : ℕ) (entries : List Placed) (line : List ℕ) (lines : List Line) (entry : Placed) → entry_in line ≡ Some entry → may_be_next origin n entry ≡ true → has_no_line_feed line ≡ true
    → entries_in (place + 1) entry.origin entry.n (entries ++ entry ∷ []) lines ≡ Err (place + j)
    → ((i : ℕ) → entries_in (place + 1) entry.origin entry.n (entries ++ entry ∷ []) lines ≡ Err (place + 1 + i) → Mended (place + 1) i entry.origin entry.n (entries ++ entry ∷ []) lines)
    → Mended place j origin n entries (Some line ∷ lines)
later place zero origin n entries line lines entry told next one wrong more = absurd (omega (arith, at_least (place + 1) (place + 0) entry.origin entry.n (entries ++ entry ∷ []) lines wrong))
later place (suc i) origin n entries line lines entry told next one wrong more =
    let number : place + 1 + i ≡ place + suc i = omega arith in
    mended_more place i origin n entries line lines entry told next one (more i (wrong ∙ ap (λ (k : ℕ). Err k) (sym number)))

pub mended : (place j origin n : ℕ) (entries : List Placed) (lines : List Line) → AreOne lines → entries_in place origin n entries lines ≡ Err (place + j) → Mended place j origin n entries lines
unfolding entries_in
mended place j origin n entries [] one h = mended_here place j origin n entries [] (omega (arith, told_here place (place + j) h))
mended place j origin n entries (None ∷ lines) one h = mended_here place j origin n entries (None ∷ lines) (omega (arith, told_here place (place + j) h))
mended place j origin n entries (Some line ∷ lines) one h =
    let ones : (has_no_line_feed line ≡ true) × AreOne lines = and_parts (has_no_line_feed line) (list_all is_one lines) one in
    (elim (entry_in line) as (λ told. entry_in line ≡ told → entries_on place origin n entries line lines (λ entry. entries_in (place + 1) entry.origin entry.n (entries ++ entry ∷ []) lines) told ≡ Err (place + j) → Mended place j origin n entries (Some line ∷ lines)) [
      | None ↦ λ told e. mended_ended place j origin n entries line lines e
      | Some entry ↦ λ told. (elim (may_be_next origin n entry) as (λ next. may_be_next origin n entry ≡ next → cond next (entries_in (place + 1) entry.origin entry.n (entries ++ entry ∷ []) lines) (Err place) ≡ Err (place + j) → Mended place j origin n entries (Some line ∷ lines)) [
        | true ↦ λ next e. later place j origin n entries line lines entry told next ones.0 e (λ i wrong. mended (place + 1) i entry.origin entry.n (entries ++ entry ∷ []) lines ones.1 wrong)
        | false ↦ λ other e. mended_here place j origin n entries (Some line ∷ lines) (omega (arith, told_here place (place + j) e))
      ]) refl
    ]) refl h
