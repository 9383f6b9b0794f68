-- The objects of what is left, behind what is written, are those of all transactions.
use Rattle.std.proofs.Common.{◌≡◌, length}
use Rattle.sct_json.specs.Line.{held, with_objects}
use Rattle.sct_json.proofs.recall_list.put_objects.Given as goal

abbrev pub decreases-loop-tx : goal.decreases-loop-tx
decreases-loop-tx l = length l.rest

abbrev pub invariant-loop-tx : goal.invariant-loop-tx
invariant-loop-tx l = with_objects l.rest (held l.out) ≡ with_objects l.txs (held l.initial.out)
