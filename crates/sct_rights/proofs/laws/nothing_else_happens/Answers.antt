-- The law that nothing else happens.
use Rattle.sct_rights.proofs.SentLemmas.{nothing_else}
use Rattle.sct_rights.proofs.laws.nothing_else_happens.Goals as goal

pub returns : goal.returns
returns c = nothing_else
