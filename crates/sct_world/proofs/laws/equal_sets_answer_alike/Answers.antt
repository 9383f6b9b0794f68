-- By the lemma of that law.
use Rattle.sct_world.proofs.LawLemmas.{equal_answers}
use Rattle.sct_world.proofs.laws.equal_sets_answer_alike.Goals as goal

pub returns : goal.returns
returns c = equal_answers
