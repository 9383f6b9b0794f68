-- By the lemma of that law.
use Rattle.sct_exchange.proofs.JournalLemmas.{makes_logs}
use Rattle.sct_exchange.proofs.laws.journals_make_logs.Goals as goal

pub returns : goal.returns
returns c = makes_logs
