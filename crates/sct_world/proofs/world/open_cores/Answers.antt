-- The next site has the next number.
use Rattle.std.proofs.Common.{◌∙◌, ◌++◌, ◌∷◌, []}
use Rattle.sct_world.proofs.OpenLemmas.{opened_more}
use Rattle.sct_world.proofs.world.open_cores.Goals as goal

pub loop-number-preserved : goal.loop-number-preserved
loop-number-preserved c =
    c.in_ok-push.ensures.items ∙ (λ i. c.loop-number.invariant i ++ c.in_ok-core.ensures.ok i ∷ []) ∙ opened_more c.args.sites c.loop-number.number
