-- Peers catch up.
use Rattle.sct_hub.proofs.CatchUpLemmas.{peers_catch}
use Rattle.sct_hub.proofs.restored.peers_catch_up.Goals as goal

pub returns : goal.returns
returns c = peers_catch
