-- A transfer that is not on the list.
use Rattle.sct_reconcile.proofs.ReportLemmas.{no_others}
use Rattle.sct_reconcile.proofs.laws.lists_change_no_others.Goals as goal

pub returns : goal.returns
returns c = no_others
