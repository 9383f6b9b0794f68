-- One count more is one pair more.
use Rattle.std.proofs.Common.{◌∙◌, ap, List, [], ◌∷◌, ◌+◌, ◌++◌, get_or}
use Rattle.sct_delta.specs.VectorText.{Pair}
use Rattle.sct_embed.proofs.CountsLemmas.{pairs_more}
use Rattle.sct_embed.proofs.arguments.pairs_of.Goals as goal

pub loop-at-preserved : goal.loop-at-preserved
loop-at-preserved c =
    let at = c.loop-at.at in let counts = c.args.counts.now in
    c.in_ok-push.ensures.items
    ∙ ap (λ (ps : List Pair). ps ++ (at + 1, get_or counts at 0) ∷ []) c.loop-at.invariant
    ∙ pairs_more counts at c.loop-at-test.true
