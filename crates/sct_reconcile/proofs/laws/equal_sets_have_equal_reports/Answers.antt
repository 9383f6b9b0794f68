-- Equal sets are one set.
use Rattle.sct_reconcile.proofs.ReportLemmas.{equal_reports}
use Rattle.sct_reconcile.proofs.laws.equal_sets_have_equal_reports.Goals as goal

pub returns : goal.returns
returns c = equal_reports
