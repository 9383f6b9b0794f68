-- A transfer that is contradicted in a set is so in every larger one.
use Rattle.sct_case.proofs.Stays.{contradictions_stay}
use Rattle.sct_case.proofs.laws.contradictions_stay.Goals as goal

pub returns : goal.returns
returns c = contradictions_stay
