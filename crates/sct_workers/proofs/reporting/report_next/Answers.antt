-- The next site failed beside what was reported.
use Rattle.sct_workers.proofs.ReportLemmas.{reports_when_next}
use Rattle.sct_workers.proofs.reporting.report_next.Goals as goal

pub returns-in-Some-Err : goal.returns-in-Some-Err
returns-in-Some-Err c before so_far =
    reports_when_next before c.args.so_far c.args.answer.now _ _ _ c.in-Some-Err.is-0 c.in-Some-Err.is-1 c.worse_of_sites.ensures.one
    c.worse_of_sites.ensures.least.1 c.worse_of_sites.ensures.earlier so_far
