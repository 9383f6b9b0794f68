-- The fault that is reported of the sites ends the run.
use Rattle.std.proofs.Common.{subst, sym}
use Rattle.sct_workers.specs.Holds.{EndsWhere}
use Rattle.sct_workers.proofs.ReportLemmas.{reported_ends}
use Rattle.sct_workers.proofs.sites.fn.fill_each.scope.Goals as goal

pub returns-in-Err : goal.returns-in-Err
returns-in-Err g c = (
  tt,
  subst (EndsWhere (g.G.Gate.may_hold c.captures.gate.now)) (sym c.reason.ensures)
      (reported_ends (g.G.Gate.may_hold c.captures.gate.now) c.join_sites-answers.result.items c.in-Err.fault
      c.join_sites-answers.ensures.ends c.in-Err.ensures.order),
)
