-- Sites of a hub catch up.
use Rattle.sct_hub.proofs.PeerLemmas.{hub_catches, hub_peers}
use Rattle.sct_hub.proofs.restored.sites_of_a_hub_catch_up.Goals as goal

pub returns-clause-peers : goal.returns-clause-peers
returns-clause-peers c = hub_peers c.messages_are_read_again.ensures

pub returns-clause-texts : goal.returns-clause-texts
returns-clause-texts c = hub_catches c.messages_are_read_again.ensures
