-- Journals grow with their sites.
use Rattle.sct_hub.proofs.GrowLemmas.{journals_grow}
use Rattle.sct_hub.proofs.restored.journals_grow_with_their_sites.Goals as goal

pub returns : goal.returns
returns c = journals_grow
