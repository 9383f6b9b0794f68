-- The law, from the lemmas.
use Rattle.sct_delta.proofs.LawLemmas.{cuts_above}
use Rattle.sct_delta.proofs.laws.a_cut_is_what_is_above_the_vector.Goals as goal

pub returns : goal.returns
returns c = cuts_above
