-- The law that two batches in turn touch what they touch together.
use Rattle.sct_view.proofs.TouchesAddUpLemmas.{touches_add_up as proved}
use Rattle.sct_view.proofs.laws.touches_add_up.Goals as goal

pub returns : goal.returns
returns c = proved
