-- What is reported beside the list is of the bank and the day.
use Rattle.sct_reconcile.proofs.ReportLemmas.{of_the_bank}
use Rattle.sct_reconcile.proofs.laws.others_are_of_the_bank.Goals as goal

pub returns : goal.returns
returns c = of_the_bank
