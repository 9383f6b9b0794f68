-- Each halving leaves one less to do.
use Rattle.std.proofs.Common.{◌+◌, ◌*◌}
use Rattle.sct_view.proofs.sums.+halves.Given as goal

abbrev pub decreases-sums_by_halves : goal.decreases-sums_by_halves
decreases-sums_by_halves g l = 2 * l.halvings + 1

abbrev pub decreases-join+arg2 : goal.decreases-join+arg2
decreases-join+arg2 g l = 2 * l.halvings

abbrev pub decreases-join+arg3 : goal.decreases-join+arg3
decreases-join+arg3 g l = 2 * l.halvings
