-- What csv writes, csv reads.
use Rattle.sct_reconcile.proofs.ReportLemmas.{reports_back}
use Rattle.sct_reconcile.proofs.laws.reports_read_back.Goals as goal

pub returns : goal.returns
returns c = reports_back
