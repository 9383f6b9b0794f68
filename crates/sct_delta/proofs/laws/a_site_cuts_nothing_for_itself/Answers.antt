-- The law, from the lemmas.
use Rattle.sct_delta.proofs.LawLemmas.{cuts_nothing}
use Rattle.sct_delta.proofs.laws.a_site_cuts_nothing_for_itself.Goals as goal

pub returns : goal.returns
returns c = cuts_nothing
