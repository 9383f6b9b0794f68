-- No refusal is the shape of a delta.
use Rattle.sct_delta.proofs.ShapeLemmas.{delta_from_no_refusal, delta_not_refused}
use Rattle.sct_delta.proofs.delta.entries_make_a_delta.Goals as goal

pub returns : goal.returns
returns c = λ entries. (delta_not_refused entries, delta_from_no_refusal entries)
