-- The law that a transfer that a batch does not touch stays as it was.
use Rattle.sct_view.proofs.TouchedLemmas.{untouched_stay}
use Rattle.sct_view.proofs.laws.untouched_transfers_stay.Goals as goal

pub returns : goal.returns
returns c = untouched_stay
