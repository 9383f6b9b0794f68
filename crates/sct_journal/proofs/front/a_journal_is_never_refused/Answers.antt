-- The header stands at the front of the file.
use Rattle.sct_journal.proofs.FrontLemmas.{journals_are_ours}
use Rattle.sct_journal.proofs.front.a_journal_is_never_refused.Goals as goal

pub returns : goal.returns
returns c = journals_are_ours
