-- The law that the banks told are those with totals.
use Rattle.sct_view.proofs.BankLemmas.{banks_have_totals as proved}
use Rattle.sct_view.proofs.laws.banks_have_totals.Goals as goal

pub returns : goal.returns
returns c = proved
