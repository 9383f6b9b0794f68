-- The law, by its lemma.
use Rattle.sct_delta.proofs.FrontLemmas.{wrong_by_its_front}
use Rattle.sct_delta.proofs.text.laws.a_wrong_line_goes_by_its_front.Goals as goal

pub returns : goal.returns
returns c = wrong_by_its_front
