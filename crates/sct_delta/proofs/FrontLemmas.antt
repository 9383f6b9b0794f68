-- The first wrong line of a text, of either form, rests on the lines up to it alone. Proof plumbing.
use Rattle.std.proofs.Common.{ℕ, zero, suc, ◌≡◌, ◌+◌, ◌≤◌, ◌∷◌, [], List, true, false, cond, Some, None, Ok, Err, take, sym, ap, ◌∙◌, arith}
use Rattle.std.specs.Prelude.{nat_eq}
use Rattle.std.specs.Cmp.Lexicographic.{pointwise}
use Rattle.sct_delta.specs.TextLines.{Line, lines_by_end}
use Rattle.sct_delta.specs.EntryText.{entries_head, entries_in}
use Rattle.sct_delta.specs.GroupText.{groups_head, groups_in}
use Rattle.sct_delta.specs.DeltaText.{entries_behind, delta_of_lines, delta_in, wrong_line, first_wrong_line, AgreeTo}
use Rattle.sct_delta.proofs.WrongLineLemmas.{Read, same_first, no_lines, told_here, at_least, stays_wrong}
use Rattle.sct_delta.proofs.GroupWrongLemmas.{groups_at_least, groups_stay_wrong}

-- what holds where the lines behind a head line are refused, by the form that it names
pub by_head : (P : Read → Type 0) (head : List ℕ) (lines : List Line) → P (entries_in 2 0 0 [] lines) → P (groups_in 2 0 1 0 [] lines) → P (Err 1) → P (entries_behind head lines)
by_head P head lines one two none =
    elim (pointwise nat_eq head entries_head) as (λ b. P (cond b (entries_in 2 0 0 [] lines) (cond (pointwise nat_eq head groups_head) (groups_in 2 0 1 0 [] lines) (Err 1)))) [
      | true ↦ one
      | false ↦ elim (pointwise nat_eq head groups_head) as (λ b. P (cond b (groups_in 2 0 1 0 [] lines) (Err 1))) [
        | true ↦ two
        | false ↦ none
      ]
    ]

pub from_1 : (k : ℕ) (lines : List Line) → delta_of_lines lines ≡ Err k → 1 ≤ k
from_1 k [] h = omega (arith, told_here 1 k h)
from_1 k (None ∷ lines) h = omega (arith, told_here 1 k h)
from_1 k (Some head ∷ lines) h =
    by_head (λ read. read ≡ Err k → 1 ≤ k) head lines (λ e. omega (arith, at_least 2 k 0 0 [] lines e))
    (λ e. omega (arith, groups_at_least 2 k 0 1 0 [] lines e)) (λ e. omega (arith, told_here 1 k e)) h

-- behind a head line, by whatever the lines are read
behind : (j : ℕ) (read : List Line → Read) (lines rest : List Line) → ((k : ℕ) → read lines ≡ Err k → 2 ≤ k)
    → ((i : ℕ) → read lines ≡ Err (2 + i) → take (suc i) lines ≡ take (suc i) rest → read rest ≡ Err (2 + i))
    → take j lines ≡ take j rest → read lines ≡ Err (suc j) → read rest ≡ Err (suc j)
behind zero read lines rest least stays same h = absurd (omega (arith, least 1 h))
behind (suc i) read lines rest least stays same h =
    let number : 2 + i ≡ suc (suc i) = omega arith in
    stays i (h ∙ ap (λ (k : ℕ). Err k) (sym number)) same ∙ ap (λ (k : ℕ). Err k) number

-- one head line, and other lines behind it
behind_alike : (P : Read → Read → Type 0) (head : List ℕ) (lines rest : List Line) → P (entries_in 2 0 0 [] lines) (entries_in 2 0 0 [] rest) → P (groups_in 2 0 1 0 [] lines) (groups_in 2 0 1 0 [] rest) → P (Err 1) (Err 1)
    → P (entries_behind head lines) (entries_behind head rest)
behind_alike P head lines rest one two none =
    elim (pointwise nat_eq head entries_head) as (λ b. P (cond b (entries_in 2 0 0 [] lines) (cond (pointwise nat_eq head groups_head) (groups_in 2 0 1 0 [] lines) (Err 1))) (cond b (entries_in 2 0 0 [] rest) (cond (pointwise nat_eq head groups_head) (groups_in 2 0 1 0 [] rest) (Err 1)))) [
      | true ↦ one
      | false ↦ elim (pointwise nat_eq head groups_head) as (λ b. P (cond b (groups_in 2 0 1 0 [] lines) (Err 1)) (cond b (groups_in 2 0 1 0 [] rest) (Err 1))) [
        | true ↦ two
        | false ↦ none
      ]
    ]

lines_wrong : (k : ℕ) (lines other : List Line) → delta_of_lines lines ≡ Err k → take k lines ≡ take k other → delta_of_lines other ≡ Err k
lines_wrong zero lines other h same = absurd (omega (arith, from_1 0 lines h))
lines_wrong (suc j) [] other h same = rw (no_lines j other same) h
lines_wrong (suc j) (None ∷ lines) other h same =
    let parts : (rest : List Line) × (other ≡ None ∷ rest) × (take j lines ≡ take j rest) = same_first j None lines other same in
    rw parts.1 h
lines_wrong (suc j) (Some head ∷ lines) other h same =
    let parts : (rest : List Line) × (other ≡ Some head ∷ rest) × (take j lines ≡ take j rest) = same_first j (Some head) lines other same in
    let on : delta_of_lines (Some head ∷ parts.0) ≡ Err (suc j) =
    behind_alike (λ read now. read ≡ Err (suc j) → now ≡ Err (suc j)) head lines parts.0
    (behind j (entries_in 2 0 0 []) lines parts.0 (λ k. at_least 2 k 0 0 [] lines) (λ i. stays_wrong 2 i 0 0 [] lines parts.0) parts.2)
    (behind j (groups_in 2 0 1 0 []) lines parts.0 (λ k. groups_at_least 2 k 0 1 0 [] lines) (λ i. groups_stay_wrong 2 i 0 1 0 [] lines parts.0) parts.2)
    (λ e. e) h in
    rw parts.1 on

pub wrong_is : (read : Read) (line : ℕ) → wrong_line read ≡ Some line → read ≡ Err line
wrong_is (Ok entries) line h = cc
wrong_is (Err k) line h = let same : k ≡ line = cc in ap (λ (n : ℕ). Err n) same

pub wrong_by_its_front : (bytes other : List ℕ) (line : ℕ) → first_wrong_line bytes ≡ Some line → AgreeTo line bytes other → first_wrong_line other ≡ Some line
unfolding delta_in
wrong_by_its_front bytes other line wrong agree =
    ap wrong_line (lines_wrong line (lines_by_end bytes) (lines_by_end other) (wrong_is (delta_of_lines (lines_by_end bytes)) line wrong) agree)
