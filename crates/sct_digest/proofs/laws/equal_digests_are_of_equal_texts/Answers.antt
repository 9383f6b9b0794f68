-- The last texts that were hashed are equal, and so are those before them.
use Rattle.sct_digest.proofs.ApartLemmas.{equal_texts}
use Rattle.sct_digest.proofs.laws.equal_digests_are_of_equal_texts.Goals as goal

pub returns : goal.returns
returns c = equal_texts
