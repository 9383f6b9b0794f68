-- The law that merging is idempotent.
use Rattle.sct_set.proofs.LawLemmas.{idempotent}
use Rattle.sct_set.proofs.laws.merge_is_idempotent.Goals as goal

pub returns : goal.returns
returns c = idempotent
