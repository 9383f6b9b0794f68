-- Catching up on one origin.
use Rattle.sct_hub.proofs.OriginLemmas.{peers_catch_on, sites_catch_on}
use Rattle.sct_hub.proofs.origins.sites_catch_up_on_origins.Goals as goal

pub returns-clause-peers : goal.returns-clause-peers
returns-clause-peers c = peers_catch_on

pub returns-clause-sites : goal.returns-clause-sites
returns-clause-sites c = sites_catch_on c.messages_are_read_again.ensures
