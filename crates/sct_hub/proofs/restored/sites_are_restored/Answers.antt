-- A restored site is the site that it was.
use Rattle.sct_hub.proofs.RestoreLemmas.{sites_restored}
use Rattle.sct_hub.proofs.restored.sites_are_restored.Goals as goal

pub returns : goal.returns
returns c = sites_restored
