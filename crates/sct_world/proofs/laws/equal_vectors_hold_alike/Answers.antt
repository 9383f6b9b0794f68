-- By the lemma of that law.
use Rattle.sct_world.proofs.LawLemmas.{equal_vectors}
use Rattle.sct_world.proofs.laws.equal_vectors_hold_alike.Goals as goal

pub returns : goal.returns
returns c = equal_vectors
