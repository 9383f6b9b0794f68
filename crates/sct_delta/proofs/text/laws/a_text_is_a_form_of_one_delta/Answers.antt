-- The law, by its lemma.
use Rattle.sct_delta.proofs.DeltaLemmas.{one_delta}
use Rattle.sct_delta.proofs.text.laws.a_text_is_a_form_of_one_delta.Goals as goal

pub returns : goal.returns
returns c = one_delta
