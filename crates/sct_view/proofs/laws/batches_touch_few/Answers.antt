-- The law that a batch touches few transfers.
use Rattle.sct_view.proofs.FewLemmas.{batches_touch_few as proved}
use Rattle.sct_view.proofs.laws.batches_touch_few.Goals as goal

pub returns : goal.returns
returns c = proved
