-- By the lemma of that law.
use Rattle.sct_exchange.proofs.HubLemmas.{cut_texts}
use Rattle.sct_exchange.proofs.laws.cuts_may_be_given.Goals as goal

pub returns : goal.returns
returns c = cut_texts
