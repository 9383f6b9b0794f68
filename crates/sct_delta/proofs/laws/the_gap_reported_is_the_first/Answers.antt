-- The law, from the lemmas.
use Rattle.sct_delta.proofs.FirstGapLemmas.{first_gap}
use Rattle.sct_delta.proofs.laws.the_gap_reported_is_the_first.Goals as goal

pub returns : goal.returns
returns c = first_gap
