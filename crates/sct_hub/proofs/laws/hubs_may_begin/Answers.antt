-- Where a hub may begin.
use Rattle.sct_hub.proofs.HonestLemmas.{holds_first, hubs_go_on, imported_begin}
use Rattle.sct_hub.proofs.JoinLemmas.{honest_begin}
use Rattle.sct_hub.proofs.laws.hubs_may_begin.Goals as goal

pub returns-clause-new : goal.returns-clause-new
returns-clause-new c = holds_first

pub returns-clause-imported : goal.returns-clause-imported
returns-clause-imported c = imported_begin

pub returns-clause-honest : goal.returns-clause-honest
returns-clause-honest c = honest_begin

pub returns-clause-again : goal.returns-clause-again
returns-clause-again c = hubs_go_on c.messages_are_read_again.ensures
