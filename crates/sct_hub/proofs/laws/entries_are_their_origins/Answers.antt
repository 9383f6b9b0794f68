-- Each entry is its origin's.
use Rattle.sct_hub.proofs.HonestLemmas.{their_origins}
use Rattle.sct_hub.proofs.laws.entries_are_their_origins.Goals as goal

pub returns : goal.returns
returns c = their_origins c.messages_are_read_again.ensures
