-- The rows of the transfers so far.
use Rattle.std.proofs.Common.{◌≡◌, map, take}
use Rattle.sct_reconcile.specs.Reports.{row_on}
use Rattle.sct_rights.proofs.report.rows_on.Given as goal

abbrev pub invariant-loop-key : goal.invariant-loop-key
invariant-loop-key l = l.found.items ≡ map (row_on l.view l.rows) (take l.key-index l.keys)
