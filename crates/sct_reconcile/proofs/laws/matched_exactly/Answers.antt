-- Both ways.
use Rattle.sct_reconcile.proofs.MatchLemmas.{is_match, is_matched}
use Rattle.sct_reconcile.proofs.laws.matched_exactly.Goals as goal

pub returns : goal.returns
returns c = λ listed told amount. (is_match listed told amount, is_matched listed told amount)
