-- A question ends the round, or no line is left.
use Rattle.std.proofs.Common.{◌∙◌, ◌++◌, ◌∷◌, [], List, ℕ, ap, sym, subst, arith, length, length-append, append_assoc}
use Rattle.sct_journal.specs.Kept.{ended_lines}
use Rattle.sct_serve.specs.Serving.{HasNoQuestion}
use Rattle.sct_serve.proofs.PieceLemmas.{front_all, front_ended, front_lines, front_more}
use Rattle.sct_serve.proofs.rounds.first_round.Goals as goal

pub returns-then-is_question_line-clause-parts : goal.returns-then-is_question_line-clause-parts
returns-then-is_question_line-clause-parts c =
    let front = c.loop-line.invariant.front in
    let rest = c.loop-line.rest.now in
    let line = c.in-Some.line.now in
    let after = ended_lines c.in-Some.after.now in
    front_ended c.args.text.now rest front
    ∙ ap (λ (l : List (List ℕ)). front.lines ++ l) c.in-Some.ensures.first
    ∙ sym (append_assoc front.lines (line ∷ []) after)
    ∙ ap (λ (l : List (List ℕ)). (l ++ line ∷ []) ++ after) (sym (front_lines c.args.text.now rest front c.split_at.result.0.now c.split_at.ensures.front))

pub returns-then-is_question_line-clause-none : goal.returns-then-is_question_line-clause-none
returns-then-is_question_line-clause-none c =
    let front = c.loop-line.invariant.front in
    subst HasNoQuestion (sym (front_lines c.args.text.now c.loop-line.rest.now front c.split_at.result.0.now c.split_at.ensures.front)) front.none

pub loop-line-preserved : goal.loop-line-preserved
loop-line-preserved c = record {
  front = front_more c.args.text.now c.loop-line.rest.now c.in-Some.line.now c.in-Some.after.now c.loop-line.invariant.front c.in-Some.ensures.bytes c.in-Some.ensures.line (sym c.is_question_line.ensures ∙ c.if-is_question_line.false);
  shorter = omega (arith, c.loop-line.invariant.shorter, ap length c.in-Some.ensures.bytes, length-append c.in-Some.line.now (10 ∷ c.in-Some.after.now));
}

pub returns-clause-none : goal.returns-clause-none
returns-clause-none c =
    let front = c.loop-line.invariant.front in
    subst HasNoQuestion (sym (front_all c.args.text.now c.loop-line.rest.now front c.in_default.ensures.none)) front.none
