-- The law that merging is associative.
use Rattle.sct_set.proofs.LawLemmas.{associative}
use Rattle.sct_set.proofs.laws.merge_is_associative.Goals as goal

pub returns : goal.returns
returns c = associative
