-- The law, by its lemma.
use Rattle.sct_delta.proofs.DeltaLemmas.{read_alike}
use Rattle.sct_delta.proofs.text.laws.both_forms_are_read_alike.Goals as goal

pub returns : goal.returns
returns c = read_alike
