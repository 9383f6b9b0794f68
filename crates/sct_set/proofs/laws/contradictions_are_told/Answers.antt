-- The law that contradictions are told exactly.
use Rattle.sct_set.proofs.LawLemmas.{contradictions_told}
use Rattle.sct_set.proofs.laws.contradictions_are_told.Goals as goal

pub returns : goal.returns
returns c = contradictions_told
