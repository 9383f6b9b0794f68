-- The transfers so far.
use Rattle.std.proofs.Common.{◌≡◌, map, take}
use Rattle.sct_reconcile.proofs.keys.keys_of_list.Given as goal

abbrev pub invariant-loop-row : goal.invariant-loop-row
invariant-loop-row l = l.keys.items ≡ map (λ row. row.key) (take l.row-index l.rows)
