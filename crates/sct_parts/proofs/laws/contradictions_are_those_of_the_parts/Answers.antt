-- The law that contradicted identities are those of the parts.
use Rattle.sct_parts.proofs.ContradictionLemmas.{contradictions_of_parts}
use Rattle.sct_parts.proofs.laws.contradictions_are_those_of_the_parts.Goals as goal

pub returns : goal.returns
returns c = contradictions_of_parts
