-- The law that each set has one least set that is kept of it.
use Rattle.sct_keep.proofs.KeepLemmas.{kept_is_least as law}
use Rattle.sct_keep.proofs.laws.kept_is_least.Goals as goal

pub returns : goal.returns
returns c = law
