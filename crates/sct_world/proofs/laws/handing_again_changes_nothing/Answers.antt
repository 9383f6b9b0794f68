-- By the lemma of that law.
use Rattle.sct_world.proofs.AgainLemmas.{handing_again}
use Rattle.sct_world.proofs.laws.handing_again_changes_nothing.Goals as goal

pub returns : goal.returns
returns c = handing_again
