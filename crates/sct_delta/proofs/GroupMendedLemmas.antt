-- The lines before the first wrong one of form 2 are those of a form: messages, as many as are due, and an end line in its
-- place make one. Proof plumbing.
use Rattle.std.proofs.Common.{ℕ, zero, suc, ◌≡◌, ◌+◌, ◌-◌, ◌≤◌, ◌^◌, ◌++◌, ◌∷◌, [], List, true, false, cond, Some, None, Ok, Err, take, length, refl, sym, ap, ◌∙◌, arith, append_assoc, subst, eqb-true}
use Rattle.std.specs.Prelude.{nat_eq}
use Rattle.std.specs.Cmp.Lexicographic.{pointwise}
use Rattle.std.specs.List.{list_all}
use Rattle.std.specs.Result.{result_ok}
use Rattle.std.proofs.lemmas.Bool.{and_parts}
use Rattle.std.proofs.lemmas.List.{append-nil}
use Rattle.sct_message.specs.declared.draft.Draft.{Draft}
use Rattle.sct_json.specs.Reading.{message_in}
use Rattle.sct_json.specs.Writing.{has_no_line_feed}
use Rattle.sct_delta.specs.Entries.{Placed, numbered}
use Rattle.sct_delta.specs.TextLines.{Line, lines_as, is_end_line, end_line, entries_ended}
use Rattle.sct_delta.specs.GroupText.{TellMessages, may_begin, origin_in, groups_in}
use Rattle.sct_delta.proofs.EntryLemmas.{length-numbered}
use Rattle.sct_delta.proofs.TextLemmas.{same_texts}
use Rattle.sct_delta.proofs.GroupLemmas.{messages_read, ends_read, last_below}
use Rattle.sct_delta.proofs.WrongLineLemmas.{Read, Is, told_here}
use Rattle.sct_delta.proofs.GroupWrongLemmas.{OnOrigin, OnMessage, groups_at_least}
use Rattle.sct_delta.proofs.MendedLemmas.{is_one, AreOne}

-- ---- a message that is written so many times

-- A JSON text on one line, and the message as which it is read.
pub record Sample : Type 0 where
  pub json : List ℕ
  pub message : Draft
  pub one : has_no_line_feed json ≡ true
  pub read : message_in json ≡ Ok message

abbrev copies : {A : Type 0} → ℕ → A → List A
copies zero it = []
copies (suc k) it = it ∷ copies k it

length_copies : {A : Type 0} (k : ℕ) (it : A) → length (copies k it) ≡ k
length_copies zero it = refl
length_copies (suc k) it = omega (arith, length_copies k it)

tell_copies : (k : ℕ) (sample : Sample) → TellMessages (copies k sample.json) (copies k sample.message)
tell_copies zero sample = tt
tell_copies (suc k) sample = (sample.read, tell_copies k sample)

one_copies : (k : ℕ) (sample : Sample) → list_all has_no_line_feed (copies k sample.json) ≡ true
one_copies zero sample = refl
one_copies (suc k) sample = rw sample.one (one_copies k sample)

-- ---- what the lines from a place on are mended to

-- The first lines, so many, with further ones that are read as entries.
pub record MendedGroups (place j origin n due : ℕ) (entries : List Placed) (lines : List Line) : Type 0 where
  pub told : List (List ℕ)
  pub more : List Placed
  pub agree : take j lines ≡ take j (lines_as (told ++ end_line (length (entries ++ more)) ∷ []))
  pub read : groups_in place origin n due entries (lines_as (told ++ end_line (length (entries ++ more)) ∷ [])) ≡ Ok (entries ++ more)
  pub one : list_all has_no_line_feed told ≡ true
  pub few : length more ≤ length lines + 2 ^ 64

read_copies : (place origin n due : ℕ) (entries : List Placed) (sample : Sample)
    → groups_in place origin n due entries (lines_as (copies due sample.json ++ end_line (length (entries ++ numbered origin n (copies due sample.message))) ∷ [])) ≡ Ok (entries ++ numbered origin n (copies due sample.message))
read_copies place origin n due entries sample =
    let ends : List (List ℕ) = end_line (length (entries ++ numbered origin n (copies due sample.message))) ∷ [] in
    let many : length (copies due sample.message) ≡ due = length_copies due sample.message in
    ap (λ (d : ℕ). groups_in place origin n d entries (lines_as (copies due sample.json ++ ends))) (sym many)
    ∙ messages_read place origin n entries (copies due sample.json) (copies due sample.message) ends (tell_copies due sample)
    ∙ ends_read (place + length (copies due sample.message)) origin (n + length (copies due sample.message)) (entries ++ numbered origin n (copies due sample.message))

-- nothing is kept of the lines
mended_here : (sample : Sample) (place j origin n due : ℕ) (entries : List Placed) (lines : List Line) → due ≤ 2 ^ 64 → j ≡ 0 → MendedGroups place j origin n due entries lines
mended_here sample place zero origin n due entries lines small none = record {
  told = copies due sample.json;
  more = numbered origin n (copies due sample.message);
  agree = refl;
  read = read_copies place origin n due entries sample;
  one = one_copies due sample;
  few = omega (arith, small, length-numbered origin n (copies due sample.message), length_copies due sample.message);
}
mended_here sample place (suc j) origin n due entries lines small none = absurd (omega (arith, none))

-- the end line is kept
mended_end : (place j origin n due : ℕ) (entries : List Placed) (line : List ℕ) (lines : List Line) → due ≡ 0 → j ≡ 1 → line ≡ end_line (length entries) → MendedGroups place j origin n due entries (Some line ∷ lines)
mended_end place zero origin n due entries line lines none one is = absurd (omega (arith, one))
mended_end place (suc zero) origin n due entries line lines none one is = record {
  told = [];
  more = [];
  agree = ap (λ (l : List ℕ). Some l ∷ []) (is ∙ ap (λ (es : List Placed). end_line (length es)) (sym (append-nil entries)));
  read = rw (append-nil entries, none) (ends_read place origin n entries);
  one = refl;
  few = omega arith;
}
mended_end place (suc (suc j)) origin n due entries line lines none one is = absurd (omega (arith, one))

-- a message line is kept
kept_message : (place j origin n due : ℕ) (entries : List Placed) (line : List ℕ) (lines : List Line) (message : Draft) → nat_eq due 0 ≡ false → result_ok (message_in line) ≡ Some message → has_no_line_feed line ≡ true
    → MendedGroups (place + 1) j origin (n + 1) (due - 1) (entries ++ record { origin = origin; n = n; message = message } ∷ []) lines → MendedGroups place (suc j) origin n due entries (Some line ∷ lines)
unfolding groups_in
kept_message place j origin n due entries line lines message some told one rest =
    let entry : Placed = record { origin = origin; n = n; message = message } in
    let same : (entries ++ entry ∷ []) ++ rest.more ≡ entries ++ entry ∷ rest.more = append_assoc entries (entry ∷ []) rest.more in
    record {
      told = line ∷ rest.told;
      more = entry ∷ rest.more;
      agree = ap (λ (ls : List Line). Some line ∷ ls) (rest.agree ∙ ap (λ (es : List Placed). take j (lines_as (rest.told ++ end_line (length es) ∷ []))) same);
      read = rw (some, told, ← same) rest.read;
      one = rw one rest.one;
      few = omega (arith, rest.few);
    }

-- an origin line is kept
kept_origin : (place j origin n due : ℕ) (entries : List Placed) (line : List ℕ) (lines : List Line) (next first count : ℕ) → nat_eq due 0 ≡ true → origin_in line ≡ Some (next, first, count) → may_begin origin next first count ≡ true → has_no_line_feed line ≡ true
    → MendedGroups (place + 1) j next first count entries lines → MendedGroups place (suc j) origin n due entries (Some line ∷ lines)
unfolding groups_in
kept_origin place j origin n due entries line lines next first count none told begins one rest = record {
  told = line ∷ rest.told;
  more = rest.more;
  agree = ap (λ (ls : List Line). Some line ∷ ls) rest.agree;
  read = rw (none, told, begins) rest.read;
  one = rw one rest.one;
  few = omega (arith, rest.few);
}

mended_ended : (sample : Sample) (place j origin n due : ℕ) (entries : List Placed) (line : List ℕ) (lines : List Line) → due ≡ 0 → entries_ended place entries line lines ≡ Err (place + j) → MendedGroups place j origin n due entries (Some line ∷ lines)
unfolding is_end_line
mended_ended sample place j origin n due entries line [] none h =
    (elim (pointwise nat_eq line (end_line (length entries))) as (λ ends. Is (cond ends (Ok entries) (Err place)) (Err (place + j)) → MendedGroups place j origin n due entries (Some line ∷ [])) [
      | true ↦ λ e. cc
      | false ↦ λ e. mended_here sample place j origin n due entries (Some line ∷ []) (omega (arith, none)) (omega (arith, told_here place (place + j) e))
    ]) h
mended_ended sample place j origin n due entries line (more ∷ lines) none h =
    (elim (pointwise nat_eq line (end_line (length entries))) as (λ ends. pointwise nat_eq line (end_line (length entries)) ≡ ends → Is (cond ends (Err (place + 1)) (Err place)) (Err (place + j)) → MendedGroups place j origin n due entries (Some line ∷ more ∷ lines)) [
      | true ↦ λ ends e. mended_end place j origin n due entries line (more ∷ lines) none (omega (arith, told_here (place + 1) (place + j) e)) (same_texts line (end_line (length entries)) ends)
      | false ↦ λ other e. mended_here sample place j origin n due entries (Some line ∷ more ∷ lines) (omega (arith, none)) (omega (arith, told_here place (place + j) e))
    ]) refl h

-- where a later line is wrong, how much later
later : (place j : ℕ) (read : Read) → ((k : ℕ) → read ≡ Err k → place + 1 ≤ k) → read ≡ Err (place + j) → (i : ℕ) × (j ≡ suc i) × (read ≡ Err (place + 1 + i))
later place zero read least wrong = absurd (omega (arith, least (place + 0) wrong))
later place (suc i) read least wrong =
    let number : place + 1 + i ≡ place + suc i = omega arith in
    (i, refl, wrong ∙ ap (λ (k : ℕ). Err k) (sym number))

pub groups_mended : (sample : Sample) (place j origin n due : ℕ) (entries : List Placed) (lines : List Line) → AreOne lines → due ≤ 2 ^ 64 → groups_in place origin n due entries lines ≡ Err (place + j) → MendedGroups place j origin n due entries lines
unfolding groups_in
groups_mended sample place j origin n due entries [] one small h = mended_here sample place j origin n due entries [] small (omega (arith, told_here place (place + j) h))
groups_mended sample place j origin n due entries (None ∷ lines) one small h = mended_here sample place j origin n due entries (None ∷ lines) small (omega (arith, told_here place (place + j) h))
groups_mended sample place j origin n due entries (Some line ∷ lines) one small h =
    let ones : (has_no_line_feed line ≡ true) × AreOne lines = and_parts (has_no_line_feed line) (list_all is_one lines) one in
    (elim (nat_eq due 0) as (λ none. nat_eq due 0 ≡ none → cond none (OnOrigin place origin entries line lines (origin_in line)) (OnMessage place origin n due entries lines (result_ok (message_in line))) ≡ Err (place + j) → MendedGroups place j origin n due entries (Some line ∷ lines)) [
      | true ↦ λ none. (elim (origin_in line) as (λ told. origin_in line ≡ told → OnOrigin place origin entries line lines told ≡ Err (place + j) → MendedGroups place j origin n due entries (Some line ∷ lines)) [
        | None ↦ λ told e. mended_ended sample place j origin n due entries line lines (eqb-true due 0 none) e
        | Some fields ↦ λ told. (elim (may_begin origin fields.0 fields.1 fields.2) as (λ begins. may_begin origin fields.0 fields.1 fields.2 ≡ begins → cond begins (groups_in (place + 1) fields.0 fields.1 fields.2 entries lines) (Err place) ≡ Err (place + j) → MendedGroups place j origin n due entries (Some line ∷ lines)) [
          | true ↦ λ begins e.
              let on = later place j (groups_in (place + 1) fields.0 fields.1 fields.2 entries lines) (λ k. groups_at_least (place + 1) k fields.0 fields.1 fields.2 entries lines) e in
              let last : fields.1 + fields.2 ≤ 2 ^ 64 = last_below origin fields.0 fields.1 fields.2 begins in
              subst (λ (k : ℕ). MendedGroups place k origin n due entries (Some line ∷ lines)) (sym on.1)
              (kept_origin place on.0 origin n due entries line lines fields.0 fields.1 fields.2 none told begins ones.0
              (groups_mended sample (place + 1) on.0 fields.0 fields.1 fields.2 entries lines ones.1 (omega (arith, last)) on.2))
          | false ↦ λ other e. mended_here sample place j origin n due entries (Some line ∷ lines) small (omega (arith, told_here place (place + j) e))
        ]) refl
      ]) refl
      | false ↦ λ some. (elim (result_ok (message_in line)) as (λ told. result_ok (message_in line) ≡ told → OnMessage place origin n due entries lines told ≡ Err (place + j) → MendedGroups place j origin n due entries (Some line ∷ lines)) [
        | None ↦ λ told e. mended_here sample place j origin n due entries (Some line ∷ lines) small (omega (arith, told_here place (place + j) e))
        | Some message ↦ λ told e.
            let so_far : List Placed = entries ++ record { origin = origin; n = n; message = message } ∷ [] in
            let on = later place j (groups_in (place + 1) origin (n + 1) (due - 1) so_far lines) (λ k. groups_at_least (place + 1) k origin (n + 1) (due - 1) so_far lines) e in
            subst (λ (k : ℕ). MendedGroups place k origin n due entries (Some line ∷ lines)) (sym on.1)
            (kept_message place on.0 origin n due entries line lines message some told ones.0
            (groups_mended sample (place + 1) on.0 origin (n + 1) (due - 1) so_far lines ones.1 (omega (arith, small)) on.2))
      ]) refl
    ]) refl h
