-- Every listed transfer is reported.
use Rattle.sct_reconcile.proofs.ReportLemmas.{listed_told}
use Rattle.sct_reconcile.proofs.laws.listed_transfers_are_told.Goals as goal

pub returns : goal.returns
returns c = listed_told
