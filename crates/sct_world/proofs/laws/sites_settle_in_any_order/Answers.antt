-- By the lemma of that law.
use Rattle.sct_world.proofs.SettledLemmas.{any_order}
use Rattle.sct_world.proofs.laws.sites_settle_in_any_order.Goals as goal

pub returns : goal.returns
returns c = any_order
