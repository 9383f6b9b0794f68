-- Behind the last outcome nothing is left.
use Rattle.std.proofs.Common.{arith}
use Rattle.sct_script.specs.Replays.{outcome_line, outcomes_text}
use Rattle.sct_script.proofs.ReplayLemmas.{no_piece}
use Rattle.sct_script.proofs.outcomes.outcomes_text.Goals as goal

pub returns : goal.returns
unfolding outcomes_text
returns c =
    no_piece outcome_line c.args.outcomes.now c.loop-outcome.outcome-index _ _ _ (omega (arith, c.loop-outcome-test.false))
    c.loop-outcome.invariant.left
