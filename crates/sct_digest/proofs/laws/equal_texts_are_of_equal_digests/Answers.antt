-- Equal bytes have the same lines.
use Rattle.sct_digest.proofs.TextLemmas.{equal_digests}
use Rattle.sct_digest.proofs.laws.equal_texts_are_of_equal_digests.Goals as goal

pub returns : goal.returns
returns c = equal_digests
