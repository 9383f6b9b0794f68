-- Equal digests would be of equal texts, up to the place too.
use Rattle.sct_digest.proofs.ApartLemmas.{differ_on}
use Rattle.sct_digest.proofs.laws.digests_differ_from_there_on.Goals as goal

pub returns : goal.returns
returns c = differ_on
