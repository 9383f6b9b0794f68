-- The journal of a site only grows, and its own messages begin with it.
use Rattle.sct_hub.proofs.EmbeddedLemmas.{journals_grow, written_last}
use Rattle.sct_hub.proofs.embedded.journals_only_grow.Goals as goal

pub returns-clause-journals : goal.returns-clause-journals
returns-clause-journals c = journals_grow

pub returns-clause-messages : goal.returns-clause-messages
returns-clause-messages c = written_last
