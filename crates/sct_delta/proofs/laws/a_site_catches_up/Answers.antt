-- The law, from the lemmas.
use Rattle.sct_delta.proofs.LawLemmas.{catches_up}
use Rattle.sct_delta.proofs.laws.a_site_catches_up.Goals as goal

pub returns : goal.returns
returns c = catches_up
