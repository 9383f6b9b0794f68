-- A keeper never forks.
use Rattle.sct_hub.proofs.PeerLemmas.{keepers_never_fork, written_never_fork}
use Rattle.sct_hub.proofs.laws.keepers_never_fork.Goals as goal

pub returns-clause-texts : goal.returns-clause-texts
returns-clause-texts c = keepers_never_fork c.messages_are_read_again.ensures

pub returns-clause-written : goal.returns-clause-written
returns-clause-written c = written_never_fork c.messages_are_read_again.ensures
