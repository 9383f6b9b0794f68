-- The first wrong line rests on the lines up to it alone. Proof plumbing.
use Rattle.std.proofs.Common.{ℕ, zero, suc, ◌≡◌, ◌+◌, ◌≤◌, ◌++◌, ◌∷◌, [], List, true, false, cond, Some, None, Result, Ok, Err, take, length, refl, sym, ap, ◌∙◌, arith}
use Rattle.sct_delta.specs.Entries.{Placed}
use Rattle.sct_delta.specs.Shapes.{may_be_next}
use Rattle.sct_delta.specs.TextLines.{Line, is_end_line, entries_ended}
use Rattle.sct_delta.specs.EntryText.{entry_in, entries_on, entries_in}

abbrev pub Read : Type 0
Read = Result (List Placed) ℕ

abbrev pub Is : Read → Read → Type 0
Is some other = some ≡ other

-- ---- lines that agree

-- where the first lines agree, so do the first of them and the others
pub same_first : (j : ℕ) (line : Line) (lines other : List Line) → take (suc j) (line ∷ lines) ≡ take (suc j) other
    → (rest : List Line) × (other ≡ line ∷ rest) × (take j lines ≡ take j rest)
same_first j line lines [] h = cc
same_first j line lines (next ∷ rest) h =
    let first : line ≡ next = cc in
    let others : take j lines ≡ take j rest = cc in
    (rest, ap (λ (l : Line). l ∷ rest) (sym first), others)

pub no_lines : (j : ℕ) (other : List Line) → take (suc j) [] ≡ take (suc j) other → other ≡ []
no_lines j [] h = refl
no_lines j (line ∷ other) h = cc

-- ---- which line is told

pub told_here : (place k : ℕ) → Is (Err place) (Err k) → place ≡ k
told_here place k h = cc

pub ended_at_least : (place k : ℕ) (entries : List Placed) (line : List ℕ) (lines : List Line) → entries_ended place entries line lines ≡ Err k → place ≤ k
ended_at_least place k entries line [] h =
    (elim (is_end_line (length entries) line) as (λ ends. Is (cond ends (Ok entries) (Err place)) (Err k) → place ≤ k) [
      | true ↦ λ e. cc
      | false ↦ λ e. omega (arith, told_here place k e)
    ]) h
ended_at_least place k entries line (next ∷ lines) h =
    (elim (is_end_line (length entries) line) as (λ ends. Is (cond ends (Err (place + 1)) (Err place)) (Err k) → place ≤ k) [
      | true ↦ λ e. omega (arith, told_here (place + 1) k e)
      | false ↦ λ e. omega (arith, told_here place k e)
    ]) h

pub at_least : (place k origin n : ℕ) (entries : List Placed) (lines : List Line) → entries_in place origin n entries lines ≡ Err k → place ≤ k
unfolding entries_in
at_least place k origin n entries [] h = omega (arith, told_here place k h)
at_least place k origin n entries (None ∷ lines) h = omega (arith, told_here place k h)
at_least place k origin n entries (Some line ∷ lines) h =
    (elim (entry_in line) as (λ told. entries_on place origin n entries line lines (λ entry. entries_in (place + 1) entry.origin entry.n (entries ++ entry ∷ []) lines) told ≡ Err k → place ≤ k) [
      | None ↦ λ e. ended_at_least place k entries line lines e
      | Some entry ↦ (elim (may_be_next origin n entry) as (λ next. cond next (entries_in (place + 1) entry.origin entry.n (entries ++ entry ∷ []) lines) (Err place) ≡ Err k → place ≤ k) [
        | true ↦ λ e. let more : place + 1 ≤ k = at_least (place + 1) k entry.origin entry.n (entries ++ entry ∷ []) lines e in omega (arith, more)
        | false ↦ λ e. omega (arith, told_here place k e)
      ])
    ]) h

-- ---- the same line is wrong

one_of_none : (j : ℕ) (next : Line) (lines : List Line) → j ≡ 1 → take j (next ∷ lines) ≡ take j [] → ⊥
one_of_none zero next lines one h = absurd (omega (arith, one))
one_of_none (suc j) next lines one h = cc

pub ended_wrong : (place j : ℕ) (entries : List Placed) (line : List ℕ) (lines rest : List Line) → entries_ended place entries line lines ≡ Err (place + j) → take j lines ≡ take j rest
    → entries_ended place entries line rest ≡ Err (place + j)
ended_wrong place j entries line [] [] h same = h
ended_wrong place j entries line [] (next ∷ rest) h same =
    (elim (is_end_line (length entries) line) as (λ ends. Is (cond ends (Ok entries) (Err place)) (Err (place + j)) → Is (cond ends (Err (place + 1)) (Err place)) (Err (place + j))) [
      | true ↦ λ e. cc
      | false ↦ λ e. e
    ]) h
ended_wrong place j entries line (next ∷ lines) [] h same =
    (elim (is_end_line (length entries) line) as (λ ends. Is (cond ends (Err (place + 1)) (Err place)) (Err (place + j)) → Is (cond ends (Ok entries) (Err place)) (Err (place + j))) [
      | true ↦ λ e. absurd (one_of_none j next lines (omega (arith, told_here (place + 1) (place + j) e)) same)
      | false ↦ λ e. e
    ]) h
ended_wrong place j entries line (next ∷ lines) (other ∷ rest) h same = h

-- One line further, by whatever the lines are read: it is the same later line that is wrong.
pub further : (place j : ℕ) (read : List Line → Read) (lines rest : List Line) → ((k : ℕ) → read lines ≡ Err k → place + 1 ≤ k) → read lines ≡ Err (place + j) → take j lines ≡ take j rest
    → ((i : ℕ) → read lines ≡ Err (place + 1 + i) → take (suc i) lines ≡ take (suc i) rest → read rest ≡ Err (place + 1 + i))
    → read rest ≡ Err (place + j)
further place zero read lines rest least h same more = absurd (omega (arith, least (place + 0) h))
further place (suc i) read lines rest least h same more =
    let number : place + 1 + i ≡ place + suc i = omega arith in
    more i (h ∙ ap (λ (k : ℕ). Err k) (sym number)) same ∙ ap (λ (k : ℕ). Err k) number

pub stays_wrong : (place j origin n : ℕ) (entries : List Placed) (lines other : List Line) → entries_in place origin n entries lines ≡ Err (place + j) → take (suc j) lines ≡ take (suc j) other
    → entries_in place origin n entries other ≡ Err (place + j)
unfolding entries_in
stays_wrong place j origin n entries [] other h same = rw (no_lines j other same) h
stays_wrong place j origin n entries (None ∷ lines) other h same =
    let parts = same_first j None lines other same in
    rw parts.1 h
stays_wrong place j origin n entries (Some line ∷ lines) other h same =
    let parts : (rest : List Line) × (other ≡ Some line ∷ rest) × (take j lines ≡ take j rest) = same_first j (Some line) lines other same in
    let on : entries_in place origin n entries (Some line ∷ parts.0) ≡ Err (place + j) =
    (elim (entry_in line) as (λ told.
    entries_on place origin n entries line lines (λ entry. entries_in (place + 1) entry.origin entry.n (entries ++ entry ∷ []) lines) told ≡ Err (place + j)
    → entries_on place origin n entries line parts.0 (λ entry. entries_in (place + 1) entry.origin entry.n (entries ++ entry ∷ []) parts.0) told ≡ Err (place + j)) [
      | None ↦ λ e. ended_wrong place j entries line lines parts.0 e parts.2
      | Some entry ↦ (elim (may_be_next origin n entry) as (λ next.
          cond next (entries_in (place + 1) entry.origin entry.n (entries ++ entry ∷ []) lines) (Err place) ≡ Err (place + j)
          → cond next (entries_in (place + 1) entry.origin entry.n (entries ++ entry ∷ []) parts.0) (Err place) ≡ Err (place + j)) [
            | true ↦ λ e. further place j (entries_in (place + 1) entry.origin entry.n (entries ++ entry ∷ [])) lines parts.0 (λ k. at_least (place + 1) k entry.origin entry.n (entries ++ entry ∷ []) lines) e parts.2 (λ i wrong agree. stays_wrong (place + 1) i entry.origin entry.n (entries ++ entry ∷ []) lines parts.0 wrong agree)
            | false ↦ λ e. e
          ])
    ]) h in
    rw parts.1 on
