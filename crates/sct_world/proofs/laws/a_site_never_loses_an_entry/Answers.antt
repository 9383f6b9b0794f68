-- By the lemma of that law.
use Rattle.sct_world.proofs.LawLemmas.{never_loses}
use Rattle.sct_world.proofs.laws.a_site_never_loses_an_entry.Goals as goal

pub returns : goal.returns
returns c = never_loses
