-- The law that batches may be applied in any order.
use Rattle.sct_view.proofs.LawLemmas.{any_order}
use Rattle.sct_view.proofs.laws.order_of_batches_does_not_matter.Goals as goal

pub returns : goal.returns
returns c = any_order
