-- The law, from the lemmas.
use Rattle.sct_delta.proofs.FirstPlaceLemmas.{first_pair}
use Rattle.sct_delta.proofs.laws.the_pair_reported_is_the_first.Goals as goal

pub returns : goal.returns
returns c = first_pair
