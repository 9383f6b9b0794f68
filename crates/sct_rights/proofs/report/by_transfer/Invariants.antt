-- The rows so far are filed.
use Rattle.std.proofs.Common.{take}
use Rattle.sct_reconcile.specs.Filed.{IsFiled}
use Rattle.sct_rights.proofs.report.by_transfer.Given as goal

abbrev pub invariant-loop-row : goal.invariant-loop-row
invariant-loop-row l = IsFiled l.index (take l.row-index l.rows)
