-- The lines before the first wrong one of a text, of either form, are those of a form. Proof plumbing.
use Rattle.std.proofs.Common.{ℕ, zero, suc, ◌≡◌, ◌≢◌, ◌+◌, ◌<◌, ◌^◌, ◌++◌, ◌∷◌, [], List, true, false, cond, Some, None, Ok, Err, take, length, refl, sym, ap, ◌∙◌, arith}
use Rattle.std.specs.Prelude.{nat_eq, flat_map}
use Rattle.std.specs.Cmp.Lexicographic.{pointwise}
use Rattle.std.specs.List.{list_all}
use Rattle.std.proofs.lemmas.Bool.{and_parts, and_from}
use Rattle.std.proofs.lemmas.List.Folds.{list_all-append}
use Rattle.sct_message.specs.declared.draft.Draft.{Draft}
use Rattle.sct_json.specs.Reading.{message_in}
use Rattle.sct_json.specs.Writing.{has_no_line_feed}
use Rattle.sct_delta.specs.Entries.{Placed}
use Rattle.sct_delta.specs.TextLines.{Line, lines_by_end, lines_as, ended, ended_first, end_line}
use Rattle.sct_delta.specs.EntryText.{entries_head, entries_in}
use Rattle.sct_delta.specs.GroupText.{groups_head, groups_in}
use Rattle.sct_delta.specs.DeltaText.{IsDeltaText, entries_behind, delta_of_lines, delta_in, first_wrong_line, AgreeTo}
use Rattle.sct_delta.proofs.TextLemmas.{same_texts}
use Rattle.sct_delta.proofs.DeltaLemmas.{form_from_read}
use Rattle.sct_delta.proofs.WritingLemmas.{lines_from_text, end_one_line}
use Rattle.sct_delta.proofs.WrongLineLemmas.{Is, told_here}
use Rattle.sct_delta.proofs.FrontLemmas.{wrong_is}
use Rattle.sct_delta.proofs.MendedLemmas.{is_one, AreOne, lines_are_one, few_lines, ends_here, Mended, mended}
use Rattle.sct_delta.proofs.GroupMendedLemmas.{Sample, MendedGroups, groups_mended}

-- A text that begins with the same lines, and is a form of a delta.
pub record IsMended (count : ℕ) (lines : List Line) : Type 0 where
  pub other : List ℕ
  pub entries : List Placed
  pub agree : take count lines ≡ take count (lines_by_end other)
  pub form : IsDeltaText other entries

made : (head : List ℕ) (told : List (List ℕ)) (count : ℕ) → has_no_line_feed head ≡ true → count < 10 ^ 64 → list_all has_no_line_feed told ≡ true
    → lines_by_end (flat_map ended (head ∷ told ++ end_line count ∷ [])) ≡ lines_as (head ∷ told ++ end_line count ∷ [])
made head told count begins few one =
    lines_from_text (head ∷ told ++ end_line count ∷ [])
    (and_from _ _ begins (list_all-append has_no_line_feed told (end_line count ∷ []) ∙ and_from _ _ one (and_from _ _ (end_one_line count few) refl)))

read_made : (head : List ℕ) (told : List (List ℕ)) (entries : List Placed) → has_no_line_feed head ≡ true → length entries < 10 ^ 64 → list_all has_no_line_feed told ≡ true
    → entries_behind head (lines_as (told ++ end_line (length entries) ∷ [])) ≡ Ok entries
    → IsDeltaText (flat_map ended (head ∷ told ++ end_line (length entries) ∷ [])) entries
unfolding delta_in
read_made head told entries begins few one read =
    form_from_read (flat_map ended (head ∷ told ++ end_line (length entries) ∷ [])) entries (ap delta_of_lines (made head told (length entries) begins few one) ∙ read)

headed : (head : List ℕ) (j : ℕ) (lines : List Line) (told : List (List ℕ)) (more : List Placed) → has_no_line_feed head ≡ true → length more < 10 ^ 64 → list_all has_no_line_feed told ≡ true
    → take j lines ≡ take j (lines_as (told ++ end_line (length more) ∷ [])) → entries_behind head (lines_as (told ++ end_line (length more) ∷ [])) ≡ Ok more
    → IsMended (suc j) (Some head ∷ lines)
headed head j lines told more begins few one agree read = record {
  other = flat_map ended (head ∷ told ++ end_line (length more) ∷ []);
  entries = more;
  agree = ap (λ (ls : List Line). Some head ∷ ls) agree ∙ ap (take (suc j)) (sym (made head told (length more) begins few one));
  form = read_made head told more begins few one read;
}

nothing_kept : (lines : List Line) → IsMended 0 lines
nothing_kept lines = record {
  other = flat_map ended (entries_head ∷ [] ++ end_line 0 ∷ []);
  entries = [];
  agree = refl;
  form = read_made entries_head [] [] refl (omega arith) refl (ends_here 2 0 0 []);
}

of_entries : (j : ℕ) (head : List ℕ) (lines : List Line) → head ≡ entries_head → length lines < 2 ^ 64 → Mended 2 j 0 0 [] lines → IsMended (suc j) (Some head ∷ lines)
of_entries j head lines is few m = rw is (headed entries_head j lines m.told m.more refl (omega (arith, few, m.few)) m.one m.agree m.read)

of_groups : (j : ℕ) (head : List ℕ) (lines : List Line) → head ≡ groups_head → length lines < 2 ^ 64 → MendedGroups 2 j 0 1 0 [] lines → IsMended (suc j) (Some head ∷ lines)
of_groups j head lines is few m = rw is (headed groups_head j lines m.told m.more refl (omega (arith, few, m.few)) m.one m.agree m.read)

-- a message is given if the text is one of form 2, where messages may be due
abbrev GivenInForm2 : List Line → Type 0
GivenInForm2 lines = ended_first lines ≡ Some groups_head → Sample

lines_mended : (before : ℕ) (lines : List Line) → GivenInForm2 lines → length lines < 2 ^ 64 → AreOne lines → delta_of_lines lines ≡ Err (suc before) → IsMended before lines
lines_mended zero lines given few one h = nothing_kept lines
lines_mended (suc j) [] given few one h = absurd (omega (arith, told_here 1 (suc (suc j)) h))
lines_mended (suc j) (None ∷ lines) given few one h = absurd (omega (arith, told_here 1 (suc (suc j)) h))
lines_mended (suc j) (Some head ∷ lines) given few one h =
    let ones : (has_no_line_feed head ≡ true) × AreOne lines = and_parts (has_no_line_feed head) (list_all is_one lines) one in
    let number : suc (suc j) ≡ 2 + j = omega arith in
    (elim (pointwise nat_eq head entries_head) as (λ b. pointwise nat_eq head entries_head ≡ b → Is (cond b (entries_in 2 0 0 [] lines) (cond (pointwise nat_eq head groups_head) (groups_in 2 0 1 0 [] lines) (Err 1))) (Err (suc (suc j))) → IsMended (suc j) (Some head ∷ lines)) [
      | true ↦ λ is e. of_entries j head lines (same_texts head entries_head is) (omega (arith, few)) (mended 2 j 0 0 [] lines ones.1 (e ∙ ap (λ (k : ℕ). Err k) number))
      | false ↦ λ other. (elim (pointwise nat_eq head groups_head) as (λ b. pointwise nat_eq head groups_head ≡ b → Is (cond b (groups_in 2 0 1 0 [] lines) (Err 1)) (Err (suc (suc j))) → IsMended (suc j) (Some head ∷ lines)) [
        | true ↦ λ is e. of_groups j head lines (same_texts head groups_head is) (omega (arith, few)) (groups_mended (given (ap (λ (l : List ℕ). Some l) (same_texts head groups_head is))) 2 j 0 1 0 [] lines ones.1 (omega arith) (e ∙ ap (λ (k : ℕ). Err k) number))
        | false ↦ λ other e. absurd (omega (arith, told_here 1 (suc (suc j)) e))
      ]) refl
    ]) refl h

front : (bytes : List ℕ) (before : ℕ) → GivenInForm2 (lines_by_end bytes) → length bytes < 2 ^ 64 → first_wrong_line bytes ≡ Some (before + 1)
    → (other : List ℕ) × (entries : List Placed) × AgreeTo before bytes other × IsDeltaText other entries
unfolding delta_in
front bytes before given few wrong =
    let number : before + 1 ≡ suc before = omega arith in
    let read : delta_of_lines (lines_by_end bytes) ≡ Err (suc before) = wrong_is (delta_of_lines (lines_by_end bytes)) (before + 1) wrong ∙ ap (λ (k : ℕ). Err k) number in
    let m : IsMended before (lines_by_end bytes) = lines_mended before (lines_by_end bytes) given (omega (arith, few, few_lines bytes)) (lines_are_one bytes) read in
    (m.other, m.entries, m.agree, m.form)

pub front_of_form_1_is_right : (bytes : List ℕ) (before : ℕ) → length bytes < 2 ^ 64 → ended_first (lines_by_end bytes) ≢ Some groups_head → first_wrong_line bytes ≡ Some (before + 1)
    → (other : List ℕ) × (entries : List Placed) × AgreeTo before bytes other × IsDeltaText other entries
front_of_form_1_is_right bytes before few other wrong = front bytes before (λ is. absurd (other is)) few wrong

pub front_is_right : (bytes json : List ℕ) (message : Draft) (before : ℕ) → length bytes < 2 ^ 64 → has_no_line_feed json ≡ true → message_in json ≡ Ok message → first_wrong_line bytes ≡ Some (before + 1)
    → (other : List ℕ) × (entries : List Placed) × AgreeTo before bytes other × IsDeltaText other entries
front_is_right bytes json message before few one told wrong =
    front bytes before (λ is. record { json = json; message = message; one = one; read = told }) few wrong
