-- Each request is done as the task that it is with the bytes of its files.
use Rattle.std.proofs.Common.{refl, rules}
use Rattle.sct_commands.specs.Tasks.{exchange, help, mistake, serve, settle, work}
use Rattle.sct_commands.specs.declared.jobs.Job.TheVariants.{Report}
use Rattle.sct_engine.proofs.PerformLemmas.{as_task, unread}
use Rattle.sct_engine.proofs.program.perform.Goals as goal

pub returns-in-Run : goal.returns-in-Run
returns-in-Run g c = rw c.in-Run.is (as_task _ _ _ _ _ _ _ _ _ _ _ _ (work c.in-Run.job) _ _ _ refl refl (c.perform_job.ensures, refl))

pub returns-in_err-list-in-Reconcile : goal.returns-in_err-list-in-Reconcile
returns-in_err-list-in-Reconcile g c =
    rw c.in-Reconcile.is (unread _ _ _ _ _ _ _ _ _ _ _ c.in_err-list-in-Reconcile.field-0.0 _ _ c.in_err-list-in-Reconcile.ensures.faults c.in_err-list-in-Reconcile.ensures.counted
    c.from_residual.ensures.1)

pub returns-in_ok-list-in-Reconcile : goal.returns-in_ok-list-in-Reconcile
returns-in_ok-list-in-Reconcile g c =
    rw c.in-Reconcile.is (as_task _ _ _ _ _ _ _ _ _ _ _ _ (work (Report c.in-Reconcile.with.bank c.in-Reconcile.with.day c.in_ok-list-in-Reconcile.list)) _ _ _
    (refl, refl, c.in_ok-list-in-Reconcile.ensures.given, search rules) c.in_ok-list-in-Reconcile.ensures.quiet (c.perform_job-in-Reconcile.ensures, refl))

pub returns-in_err-inputs-in-Settle : goal.returns-in_err-inputs-in-Settle
returns-in_err-inputs-in-Settle g c =
    rw c.in-Settle.is (unread _ _ _ _ _ _ _ _ _ _ _ c.in_err-inputs-in-Settle.field-0.0 _ _ (search rules) c.in_err-inputs-in-Settle.ensures.counted
    c.from_residual-in_err-inputs-in-Settle.ensures.1)

pub returns-in_ok-inputs-in-Settle : goal.returns-in_ok-inputs-in-Settle
returns-in_ok-inputs-in-Settle g c =
    rw c.in-Settle.is (as_task _ _ _ _ _ _ _ _ _ _ _ _ (settle c.in_ok-inputs-in-Settle.inputs) _ _ _ (search rules) c.in_ok-inputs-in-Settle.ensures.quiet
    (c.perform_settling.ensures _, refl))

pub returns-in_err-gathered-in-Exchange : goal.returns-in_err-gathered-in-Exchange
returns-in_err-gathered-in-Exchange g c =
    rw c.in-Exchange.is (unread _ _ _ _ _ _ _ _ _ _ _ c.in_err-gathered-in-Exchange.field-0.0 _ _ c.in_err-gathered-in-Exchange.ensures.faults c.in_err-gathered-in-Exchange.ensures.counted
    c.from_residual-in_err-gathered-in-Exchange.ensures.1)

pub returns-in_ok-gathered-in-Exchange : goal.returns-in_ok-gathered-in-Exchange
returns-in_ok-gathered-in-Exchange g c =
    rw c.in-Exchange.is (as_task _ _ _ _ _ _ _ _ _ _ _ _ (exchange c.in_ok-gathered-in-Exchange.gathered) _ _ _ c.in_ok-gathered-in-Exchange.ensures.gathered
    c.in_ok-gathered-in-Exchange.ensures.quiet (c.perform_exchange.ensures _, refl))

pub returns-in-Serve : goal.returns-in-Serve
returns-in-Serve g c = rw c.in-Serve.is (as_task _ _ _ _ _ _ _ _ _ _ _ _ (serve c.in-Serve.command) _ _ _ refl refl (search rules))

pub returns-in_err-write_all-in-Help : goal.returns-in_err-write_all-in-Help
returns-in_err-write_all-in-Help g c =
    rw c.in-Help.is (as_task _ _ _ _ _ _ _ _ _ _ _ _ (help c.in-Help.text) _ _ _ refl refl (
      record {
        ending = search rules;
        printed = search rules;
        told = search rules;
        read = search rules;
        taken = search rules;
        usage = search rules;
        list = search rules;
        unlisted = search rules;
        too_long = search rules;
        cut_input = search rules;
        reads = search rules;
        failed_read = search rules;
        left = search rules;
        cut_off = search rules;
        unwritten = search rules;
        ends = search rules;
      },
      refl,
    ))

pub returns-in_ok-write_all-in-Help : goal.returns-in_ok-write_all-in-Help
returns-in_ok-write_all-in-Help g c = rw c.in-Help.is (as_task _ _ _ _ _ _ _ _ _ _ _ _ (help c.in-Help.text) _ _ _ refl refl (search rules, refl))

pub returns-in-Mistake : goal.returns-in-Mistake
returns-in-Mistake g c = rw c.in-Mistake.is (as_task _ _ _ _ _ _ _ _ _ _ _ _ (mistake c.in-Mistake.text) _ _ _ refl refl (search rules, refl))
