-- By the lemma of that law.
use Rattle.sct_exchange.proofs.ExactlyLemmas.{rounds_come_to_it}
use Rattle.sct_exchange.proofs.laws.rounds_exchange.Goals as goal

pub returns : goal.returns
returns c = rounds_come_to_it
