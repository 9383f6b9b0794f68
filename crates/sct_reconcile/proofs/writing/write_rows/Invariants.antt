-- The rows so far are written.
use Rattle.std.proofs.Common.{map, take}
use Rattle.sct_reconcile.specs.Reports.{csv_text, fields_of_row}
use Rattle.sct_reconcile.specs.Writers.{Appends}
use Rattle.sct_reconcile.proofs.writing.write_rows.Given as goal

abbrev pub invariant-loop-row : goal.invariant-loop-row
invariant-loop-row l = Appends l.initial.writer l.writer (csv_text (map fields_of_row (take l.row-index l.rows)))
