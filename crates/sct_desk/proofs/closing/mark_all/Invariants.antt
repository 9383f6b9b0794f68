-- The marks count the receipts that were looked at.
use Rattle.std.proofs.Common.{◌≡◌, length}
use Rattle.sct_desk.proofs.Tellings.{AreMarks}
use Rattle.sct_desk.proofs.closing.mark_all.Given as goal

abbrev pub invariant-loop-receipt : goal.invariant-loop-receipt
invariant-loop-receipt l = (length l.marks ≡ length l.initial.marks) × AreMarks l.number l.receipts l.receipt-index l.marks
