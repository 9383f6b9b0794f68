-- By the lemma of that law.
use Rattle.sct_exchange.proofs.ExactlyLemmas.{end_alike}
use Rattle.sct_exchange.proofs.laws.runs_again_end_alike.Goals as goal

pub returns : goal.returns
returns c = end_alike
