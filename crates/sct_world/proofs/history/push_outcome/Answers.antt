-- The outcome that is appended is that of the event.
use Rattle.std.proofs.Common.{subst}
use Rattle.sct_world.specs.Faults.{IsNoForkOutcome}
use Rattle.sct_world.proofs.history.push_outcome.Goals as goal

pub returns-clause-no_fork : goal.returns-clause-no_fork
returns-clause-no_fork c = subst IsNoForkOutcome c.in_ok-outcome.ensures.ok c.in_ok-outcome.ensures.no_fork
