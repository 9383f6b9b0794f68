-- The law that contradictions ascend.
use Rattle.sct_set.proofs.LawLemmas.{told_in_order}
use Rattle.sct_set.proofs.laws.contradictions_are_in_order.Goals as goal

pub returns : goal.returns
returns c = told_in_order
