-- What lines are read as, one after another. Proof plumbing.
use Rattle.std.proofs.Common.{ℕ, ◌≡◌, ◌+◌, ◌<◌, ◌^◌, ◌++◌, ◌∷◌, [], List, true, false, cond, Option, Some, None, Ok, Err, ◌==◌, length, refl, sym, ap, ◌∙◌, arith, eqb-true}
use Rattle.std.specs.Prelude.{nat_eq, decimal, option_and_then, codes}
use Rattle.std.proofs.lemmas.Bool.Decides.{nat_tests}
use Rattle.sct_delta.specs.Entries.{Placed}
use Rattle.sct_delta.specs.Shapes.{may_be_next}
use Rattle.sct_delta.specs.TextLines.{Line, lines_by_end, ended_first, lines_from_byte, number_in, after_prefix, is_end_line, end_line, entries_ended}
use Rattle.sct_delta.specs.EntryText.{entry_in, entries_in}
use Rattle.sct_delta.specs.DeltaText.{entries_behind, delta_of_lines, delta_in}
use Rattle.sct_delta.proofs.TextLemmas.{number_written, number_read, prefix_written, texts_same, same_texts, then_from, lines_of_none}

-- ---- the end line

abbrev pub told_count : List ℕ → Option ℕ
told_count line = option_and_then number_in (after_prefix (codes "end ") line)

count_told : (count : ℕ) (line : List ℕ) → told_count line ≡ Some count → is_end_line count line ≡ true
unfolding is_end_line
count_told count line told =
    let parts : (rest : List ℕ) × (after_prefix (codes "end ") line ≡ Some rest) × (number_in rest ≡ Some count) = then_from number_in (after_prefix (codes "end ") line) count told in
    let number : (parts.0 ≡ decimal count) × (count < 2 ^ 64) = number_written parts.0 count parts.2 in
    let same : line ≡ end_line count = prefix_written (codes "end ") line parts.0 parts.1 ∙ ap (λ (t : List ℕ). codes "end " ++ t) number.0 in
    rw same (texts_same (end_line count))

told_of_end : (count : ℕ) (line : List ℕ) → count < 2 ^ 64 → is_end_line count line ≡ true → told_count line ≡ Some count
unfolding is_end_line
told_of_end count line small ends =
    let same : line ≡ end_line count = same_texts line (end_line count) ends in
    rw (same, number_read count small) refl

no_end : (count : ℕ) (line : List ℕ) → count < 2 ^ 64 → (told_count line ≡ Some count → ⊥) → is_end_line count line ≡ false
no_end count line small other =
    elim (is_end_line count line) as (λ ends. is_end_line count line ≡ ends → ends ≡ false) [
      | true ↦ λ ends. absurd (other (told_of_end count line small ends))
      | false ↦ λ ends. refl
    ] refl

pub end_by_count : (count told : ℕ) (line : List ℕ) → count < 2 ^ 64 → told_count line ≡ Some told → nat_eq told count ≡ is_end_line count line
end_by_count count told line small is =
    elim (nat_eq told count) as (λ same. nat_eq told count ≡ same → same ≡ is_end_line count line) [
      | true ↦ λ same. sym (count_told count line (is ∙ ap (λ (n : ℕ). Some n) (eqb-true told count same)))
      | false ↦ λ other. sym (no_end count line small (λ h. let same : told ≡ count = cc in absurd (grind (arith, nat_tests, other, same))))
    ] refl

pub no_count_no_end : (count : ℕ) (line : List ℕ) → count < 2 ^ 64 → told_count line ≡ None → false ≡ is_end_line count line
no_count_no_end count line small none = sym (no_end count line small (λ h. cc))

-- ---- behind the end line

onto_some : (byte : ℕ) (lines : List Line) → (first : Line) × (rest : List Line) × (lines_from_byte byte lines ≡ first ∷ rest)
onto_some byte [] = (None, [], refl)
onto_some byte (None ∷ lines) = (None, lines, refl)
onto_some byte (Some line ∷ lines) = (Some (byte ∷ line), lines, refl)

some_line : (byte : ℕ) (bytes : List ℕ) → (first : Line) × (rest : List Line) × (lines_by_end (byte ∷ bytes) ≡ first ∷ rest)
unfolding lines_by_end
some_line byte bytes =
    elim (byte == 10) as (λ feed. (first : Line) × (rest : List Line) × (cond feed (Some [] ∷ lines_by_end bytes) (lines_from_byte byte (lines_by_end bytes)) ≡ first ∷ rest)) [
      | true ↦ (Some [], lines_by_end bytes, refl)
      | false ↦ onto_some byte (lines_by_end bytes)
    ]

pub ended_here : (place : ℕ) (entries : List Placed) (line after : List ℕ) → is_end_line (length entries) line ≡ true → (length after == 0) ≡ true → entries_ended place entries line (lines_by_end after) ≡ Ok entries
ended_here place entries line [] ends empty = rw (lines_of_none, ends) refl
ended_here place entries line (byte ∷ bytes) ends empty = absurd (omega (arith, eqb-true _ _ empty))

pub ended_too_early : (place : ℕ) (entries : List Placed) (line after : List ℕ) → is_end_line (length entries) line ≡ true → (length after == 0) ≡ false → entries_ended place entries line (lines_by_end after) ≡ Err (place + 1)
ended_too_early place entries line [] ends some = cc
ended_too_early place entries line (byte ∷ bytes) ends some =
    let there : (first : Line) × (rest : List Line) × (lines_by_end (byte ∷ bytes) ≡ first ∷ rest) = some_line byte bytes in
    rw (there.2, ends) refl

-- ---- one line more

pub read_entry_more : (place origin n : ℕ) (entries : List Placed) (line text after : List ℕ) (entry : Placed)
    → lines_by_end text ≡ Some line ∷ lines_by_end after → Some entry ≡ entry_in line → may_be_next origin n entry ≡ true
    → entries_in place origin n entries (lines_by_end text) ≡ entries_in (place + 1) entry.origin entry.n (entries ++ entry ∷ []) (lines_by_end after)
unfolding entries_in
read_entry_more place origin n entries line text after entry first read next = rw (first, ← read, next) refl

pub read_entry_wrong : (place origin n : ℕ) (entries : List Placed) (line text after : List ℕ) (entry : Placed)
    → lines_by_end text ≡ Some line ∷ lines_by_end after → Some entry ≡ entry_in line → may_be_next origin n entry ≡ false
    → entries_in place origin n entries (lines_by_end text) ≡ Err place
unfolding entries_in
read_entry_wrong place origin n entries line text after entry first read other = rw (first, ← read, other) refl

pub read_end : (place origin n : ℕ) (entries : List Placed) (line text after : List ℕ)
    → lines_by_end text ≡ Some line ∷ lines_by_end after → None ≡ entry_in line
    → entries_in place origin n entries (lines_by_end text) ≡ entries_ended place entries line (lines_by_end after)
unfolding entries_in
read_end place origin n entries line text after first none = rw (first, ← none) refl

no_line_left : (place origin n : ℕ) (entries : List Placed) (lines : List Line) → ended_first lines ≡ None → entries_in place origin n entries lines ≡ Err place
unfolding entries_in
no_line_left place origin n entries [] none = refl
no_line_left place origin n entries (None ∷ lines) none = refl
no_line_left place origin n entries (Some line ∷ lines) none = cc

pub read_missing : (place origin n : ℕ) (entries : List Placed) (text : List ℕ) → ended_first (lines_by_end text) ≡ None → entries_in place origin n entries (lines_by_end text) ≡ Err place
read_missing place origin n entries text none = no_line_left place origin n entries (lines_by_end text) none

-- ---- the head line

no_head : (lines : List Line) → ended_first lines ≡ None → delta_of_lines lines ≡ Err 1
no_head [] none = refl
no_head (None ∷ lines) none = refl
no_head (Some line ∷ lines) none = cc

pub head_missing : (text : List ℕ) → ended_first (lines_by_end text) ≡ None → delta_in text ≡ Err 1
unfolding delta_in
head_missing text none = no_head (lines_by_end text) none

pub behind_head : (text line after : List ℕ) → lines_by_end text ≡ Some line ∷ lines_by_end after → delta_in text ≡ entries_behind line (lines_by_end after)
unfolding delta_in
behind_head text line after first = rw first refl
