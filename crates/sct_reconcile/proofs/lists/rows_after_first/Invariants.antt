-- The rows so far stand before those that the other records are.
use Rattle.std.proofs.Common.{◌≡◌, ◌+◌, map, drop}
use Rattle.csv.specs.Records.{fields_of}
use Rattle.sct_reconcile.specs.Lists.{rows_below}
use Rattle.sct_reconcile.specs.Turns.{onto}
use Rattle.sct_reconcile.proofs.lists.rows_after_first.Given as goal

abbrev pub invariant-loop-at : goal.invariant-loop-at
invariant-loop-at l =
    rows_below 2 (drop 1 (map fields_of l.records))
    ≡ onto l.rows.items (rows_below (l.at + 1) (drop l.at (map fields_of l.records)))
