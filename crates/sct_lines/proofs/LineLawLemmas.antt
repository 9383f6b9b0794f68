-- The laws of lines. Proof plumbing.
use Rattle.std.proofs.Common.{ℕ, ◌≡◌, ◌≢◌, suc, ◌++◌, ◌∷◌, [], List, true, false, cond, ◌==◌, All, refl, arith, eqb-true}
use Rattle.std.specs.List.{flat_map}
use Rattle.std.proofs.lemmas.Bool.{eqb-false}
use Rattle.std.proofs.lemmas.List.Elements.{All-cons}
use Rattle.sct_lines.specs.Lines.{lines_of, onto_first}
use Rattle.sct_lines.specs.LineLaws.{with_last_feed, LinesMakeTheText, NoLineHasAFeed}

-- the lines, each with a line feed after it
abbrev ended : List (List ℕ) → List ℕ
ended lines = flat_map (λ line. line ++ 10 ∷ []) lines

-- some byte is the first of the text
abbrev HasFirst : List ℕ → Type 0
HasFirst text = (head : ℕ) × ((rest : List ℕ) × (text ≡ head ∷ rest))

with_last_feed_has_first : (next : ℕ) (bytes : List ℕ) → HasFirst (with_last_feed (next ∷ bytes))
with_last_feed_has_first next [] =
    elim (next == 10) as (λ feed. HasFirst (cond feed (10 ∷ []) (next ∷ 10 ∷ [])))
    [ true ↦ (10, ([], refl)) | false ↦ (next, (10 ∷ [], refl)) ]
with_last_feed_has_first next (after ∷ bytes) = (next, (with_last_feed (after ∷ bytes), refl))

ended_at_feed : (byte : ℕ) (lines : List (List ℕ)) (text : List ℕ) → (byte == 10) ≡ true → ended lines ≡ text → ended ([] ∷ lines) ≡ byte ∷ text
ended_at_feed byte lines text feed whole = rw (eqb-true byte 10 feed, whole) refl

ended-onto_first : (byte : ℕ) (lines : List (List ℕ)) (text : List ℕ) → HasFirst text → ended lines ≡ text → ended (onto_first byte lines) ≡ byte ∷ text
ended-onto_first byte [] text some whole =
    let first : text ≡ some.0 ∷ some.1.0 = some.1.1 in
    cc
ended-onto_first byte (line ∷ lines) text some whole = rw (← whole) refl

pub lines_make_the_text : LinesMakeTheText
unfolding lines_of
lines_make_the_text [] = refl
lines_make_the_text (byte ∷ []) =
    elim (byte == 10) as (λ feed. ended (cond feed ([] ∷ []) (onto_first byte [])) ≡ cond feed (10 ∷ []) (byte ∷ 10 ∷ []))
    [ true ↦ refl | false ↦ refl ]
lines_make_the_text (byte ∷ next ∷ bytes) =
    let whole = lines_make_the_text (next ∷ bytes) in
    (elim (byte == 10) as (λ feed. (byte == 10) ≡ feed → ended (cond feed ([] ∷ lines_of (next ∷ bytes)) (onto_first byte (lines_of (next ∷ bytes)))) ≡ byte ∷ with_last_feed (next ∷ bytes)) [
      | true ↦ λ feed. ended_at_feed byte (lines_of (next ∷ bytes)) (with_last_feed (next ∷ bytes)) feed whole
      | false ↦ λ other. ended-onto_first byte (lines_of (next ∷ bytes)) (with_last_feed (next ∷ bytes)) (with_last_feed_has_first next bytes) whole
    ]) refl

-- a line with no line feed in it
abbrev HasNoFeed : List ℕ → Type 0
HasNoFeed line = All (λ byte. byte ≢ 10) line

parted-onto_first : (byte : ℕ) (lines : List (List ℕ)) → byte ≢ 10 → All HasNoFeed lines → All HasNoFeed (onto_first byte lines)
parted-onto_first byte [] other parted =
    All-cons HasNoFeed (byte ∷ []) [] (All-cons (λ (b : ℕ). b ≢ 10) byte [] other (λ k d below. absurd (omega arith))) (λ k d below. absurd (omega arith))
parted-onto_first byte (line ∷ lines) other parted =
    All-cons HasNoFeed (byte ∷ line) lines (All-cons (λ (b : ℕ). b ≢ 10) byte line other (parted 0 [] (omega arith)))
    (λ k d below. parted (suc k) d (omega arith))

pub no_line_has_a_feed : NoLineHasAFeed
unfolding lines_of
no_line_has_a_feed [] = λ k d below. absurd (omega arith)
no_line_has_a_feed (byte ∷ bytes) =
    let parted = no_line_has_a_feed bytes in
    (elim (byte == 10) as (λ feed. (byte == 10) ≡ feed → All HasNoFeed (cond feed ([] ∷ lines_of bytes) (onto_first byte (lines_of bytes)))) [
      | true ↦ λ feed. All-cons HasNoFeed [] (lines_of bytes) (λ k d below. absurd (omega arith)) parted
      | false ↦ λ other. parted-onto_first byte (lines_of bytes) (eqb-false byte 10 other) parted
    ]) refl
