-- The law, from the lemmas.
use Rattle.sct_delta.proofs.LawLemmas.{any_order}
use Rattle.sct_delta.proofs.laws.deltas_are_joined_in_any_order.Goals as goal

pub returns : goal.returns
returns c = any_order
