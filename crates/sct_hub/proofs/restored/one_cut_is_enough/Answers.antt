-- One cut of everything is enough.
use Rattle.sct_hub.proofs.RestoreLemmas.{one_cut}
use Rattle.sct_hub.proofs.restored.one_cut_is_enough.Goals as goal

pub returns : goal.returns
returns c = one_cut
