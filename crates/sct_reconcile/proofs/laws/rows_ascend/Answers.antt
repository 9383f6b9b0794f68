-- The transfers reported ascend.
use Rattle.sct_reconcile.proofs.ReportLemmas.{ascend}
use Rattle.sct_reconcile.proofs.laws.rows_ascend.Goals as goal

pub returns : goal.returns
returns c = ascend
