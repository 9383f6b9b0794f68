-- The law that a transfer in both sets is counted twice.
use Rattle.sct_parts.proofs.TwiceLemmas.{counted_twice}
use Rattle.sct_parts.proofs.laws.shared_transfers_are_counted_twice.Goals as goal

pub returns : goal.returns
returns c = counted_twice
