-- By the lemma of that law.
use Rattle.sct_exchange.proofs.AlikeLemmas.{write_alike}
use Rattle.sct_exchange.proofs.laws.equal_vectors_write_alike.Goals as goal

pub returns : goal.returns
returns c = write_alike
