-- A site holds what its journal records.
use Rattle.sct_hub.proofs.LastLemmas.{hold_exactly}
use Rattle.sct_hub.proofs.laws.keepers_hold_exactly.Goals as goal

pub returns : goal.returns
returns c = hold_exactly c.messages_are_read_again.ensures
