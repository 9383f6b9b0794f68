-- Sites with equal vectors answer alike.
use Rattle.sct_hub.proofs.EmbeddedEqualLemmas.{equal_sites_alike}
use Rattle.sct_hub.proofs.embedded.equal_sites_answer_alike.Goals as goal

pub returns : goal.returns
returns c = equal_sites_alike
