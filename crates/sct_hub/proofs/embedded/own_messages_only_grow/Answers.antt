-- The own messages of a site only grow.
use Rattle.sct_hub.proofs.EmbeddedLemmas.{own_grow}
use Rattle.sct_hub.proofs.embedded.own_messages_only_grow.Goals as goal

pub returns : goal.returns
returns c = own_grow
