-- By the lemma of that law.
use Rattle.sct_exchange.proofs.OwnLemmas.{by_the_journal}
use Rattle.sct_exchange.proofs.laws.own_entries_go_by_the_journal.Goals as goal

pub returns : goal.returns
returns c = by_the_journal
