-- The transfers so far that are not settled.
use Rattle.std.proofs.Common.{take}
use Rattle.sct_keep.specs.Marks.{AreMarkedMore, IsUnsettled}
use Rattle.sct_keep.proofs.marks.mark_unsettled.Given as goal

abbrev pub invariant-loop-transfer : goal.invariant-loop-transfer
invariant-loop-transfer l = AreMarkedMore (IsUnsettled l.view l.first (take l.transfer-index l.transfer-items)) l.labels l.initial.marks l.marks
