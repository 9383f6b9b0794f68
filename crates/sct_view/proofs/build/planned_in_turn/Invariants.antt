-- The cases of the transfers so far.
use Rattle.std.proofs.Common.{◌≡◌, map, take}
use Rattle.sct_view.specs.Changes.{change_in, changes_of}
use Rattle.sct_view.proofs.build.planned_in_turn.Given as goal

abbrev pub invariant-loop-transfer : goal.invariant-loop-transfer
invariant-loop-transfer l = map change_in l.planned.items ≡ changes_of l.archive (take l.transfer-index l.transfers)
