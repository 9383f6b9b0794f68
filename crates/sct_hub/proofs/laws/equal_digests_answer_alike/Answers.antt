-- Sites with equal digests answer alike.
use Rattle.sct_hub.proofs.DigestLemmas.{digests_alike}
use Rattle.sct_hub.proofs.laws.equal_digests_answer_alike.Goals as goal

pub returns : goal.returns
returns c = digests_alike c.messages_are_read_again.ensures
