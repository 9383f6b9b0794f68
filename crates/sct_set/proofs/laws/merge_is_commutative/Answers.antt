-- The law that merging is commutative.
use Rattle.sct_set.proofs.LawLemmas.{commutative}
use Rattle.sct_set.proofs.laws.merge_is_commutative.Goals as goal

pub returns : goal.returns
returns c = commutative
