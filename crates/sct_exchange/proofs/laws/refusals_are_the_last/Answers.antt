-- By the lemma of that law.
use Rattle.sct_exchange.proofs.ExactlyLemmas.{refused_last}
use Rattle.sct_exchange.proofs.laws.refusals_are_the_last.Goals as goal

pub returns : goal.returns
returns c = refused_last
