-- The transfers of the rows so far.
use Rattle.std.proofs.Common.{◌≡◌, ◌++◌, map, take}
use Rattle.sct_rights.proofs.report.push_listed.Given as goal

abbrev pub invariant-loop-row : goal.invariant-loop-row
invariant-loop-row l = l.keys.items ≡ l.initial.keys.items ++ map (λ row. row.key) (take l.row-index l.rows)
