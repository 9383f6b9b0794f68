-- The law that equal sets answer alike.
use Rattle.sct_set.proofs.LawLemmas.{answer_alike}
use Rattle.sct_set.proofs.laws.equal_sets_answer_alike.Goals as goal

pub returns : goal.returns
returns c = answer_alike
