-- By the lemma of that law.
use Rattle.sct_world.proofs.SettledLemmas.{settled_alike}
use Rattle.sct_world.proofs.laws.settled_sites_answer_alike.Goals as goal

pub returns : goal.returns
returns c = settled_alike
