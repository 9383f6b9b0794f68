-- The law that money is conserved.
use Rattle.sct_view.proofs.LawLemmas.{money_is_conserved as proved}
use Rattle.sct_view.proofs.laws.money_is_conserved.Goals as goal

pub returns : goal.returns
returns c = proved
