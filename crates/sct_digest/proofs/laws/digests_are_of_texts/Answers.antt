-- The digest goes by the texts alone.
use Rattle.sct_digest.proofs.ApartLemmas.{of_texts}
use Rattle.sct_digest.proofs.laws.digests_are_of_texts.Goals as goal

pub returns : goal.returns
returns c = of_texts
