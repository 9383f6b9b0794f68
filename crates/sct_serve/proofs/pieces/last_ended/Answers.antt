-- The piece up to its last line feed.
use Rattle.std.proofs.Common.{◌∙◌, ◌≡◌, refl, ap, suc, take, drop, arith, add-one}
use Rattle.sct_journal.specs.Kept.{ended_lines}
use Rattle.sct_journal.proofs.LineLemmas.{no_feed}
use Rattle.sct_serve.proofs.PieceLemmas.{feed_taken, none_after}
use Rattle.sct_serve.proofs.pieces.last_ended.Goals as goal

pub returns-in-None-clause-none : goal.returns-in-None-clause-none
returns-in-None-clause-none c = no_feed c.args.piece.now (λ k below passes. c.in-None.ensures k (omega arith) below passes)

pub returns-in-Some-clause-ended : goal.returns-in-Some-clause-ended
returns-in-Some-clause-ended c =
    let front : c.split_at.result.0.now ≡ take (suc c.in-Some.at) c.args.piece.now = c.split_at.ensures.front ∙ simp add-one refl in
    (take c.in-Some.at c.args.piece.now, front ∙ feed_taken c.args.piece.now c.in-Some.at c.in-Some.ensures.0.high c.in-Some.ensures.1)

pub returns-in-Some-clause-behind : goal.returns-in-Some-clause-behind
returns-in-Some-clause-behind c =
    let back : c.split_at.result.1.now ≡ drop (suc c.in-Some.at) c.args.piece.now = c.split_at.ensures.back ∙ simp add-one refl in
    ap ended_lines back ∙ none_after c.args.piece.now c.in-Some.at c.in-Some.ensures.0.high (λ k above below passes. c.in-Some.ensures.0.after k above below passes)
