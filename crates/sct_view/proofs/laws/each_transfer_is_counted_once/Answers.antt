-- The law that each transfer of a bank is counted once.
use Rattle.sct_view.proofs.LawLemmas.{counted_once}
use Rattle.sct_view.proofs.laws.each_transfer_is_counted_once.Goals as goal

pub returns : goal.returns
returns c = counted_once
