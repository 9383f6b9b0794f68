-- By the lemma of that law.
use Rattle.sct_world.proofs.SettledLemmas.{settles_once}
use Rattle.sct_world.proofs.laws.settling_twice_is_settling_once.Goals as goal

pub returns : goal.returns
returns c = settles_once
