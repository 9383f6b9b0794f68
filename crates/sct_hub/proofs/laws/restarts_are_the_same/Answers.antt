-- A restart gives the same site.
use Rattle.sct_hub.proofs.LastLemmas.{restarts_same}
use Rattle.sct_hub.proofs.laws.restarts_are_the_same.Goals as goal

pub returns : goal.returns
returns c = restarts_same
