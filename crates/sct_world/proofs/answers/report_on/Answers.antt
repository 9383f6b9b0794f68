-- The view has the messages of the archive.
use Rattle.std.proofs.Common.{◌≡◌, subst}
use Rattle.std.specs.Prelude.{IfOk}
use Rattle.sct_reconcile.specs.Reports.{report_of}
use Rattle.sct_set.specs.Contents.{Contents}
use Rattle.sct_world.proofs.answers.report_on.Goals as goal

pub returns : goal.returns
returns g c =
    subst (λ (s : Contents). IfOk c.reconciled.result (λ report. report ≡ report_of s c.args.bank.now c.args.day.now c.args.list.now)) c.in_ok-view.ensures c.reconciled.ensures
