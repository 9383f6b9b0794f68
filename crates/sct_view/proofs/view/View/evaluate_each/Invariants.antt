-- The touched transfers so far.
use Rattle.std.proofs.Common.{◌≡◌, map, take}
use Rattle.std.specs.FinSet as set
use Rattle.sct_view.specs.Changes.{change_in, changes_of}
use Rattle.sct_view.proofs.view.View.evaluate_each.Given as goal

abbrev pub invariant-loop-transfer : goal.invariant-loop-transfer
invariant-loop-transfer l =
    (map change_in l.planned.items ≡ changes_of (set.union l.self l.fresh) (take l.transfer-index l.touched)) × (l.evaluations ≡ l.transfer-index)
