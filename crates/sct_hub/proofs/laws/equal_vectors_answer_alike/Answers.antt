-- Sites with equal vectors answer alike.
use Rattle.sct_hub.proofs.EqualLemmas.{equal_vectors_alike}
use Rattle.sct_hub.proofs.laws.equal_vectors_answer_alike.Goals as goal

pub returns : goal.returns
returns c = equal_vectors_alike c.messages_are_read_again.ensures
