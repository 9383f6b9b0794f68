-- The law, from the lemmas.
use Rattle.sct_delta.proofs.FirstPlaceLemmas.{make_vector}
use Rattle.sct_delta.proofs.laws.pairs_make_a_vector.Goals as goal

pub returns : goal.returns
returns c = make_vector
