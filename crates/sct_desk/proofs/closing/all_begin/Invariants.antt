-- What each receipt shows that was looked at is a beginning of the arrivals.
use Rattle.std.proofs.Common.{take}
use Rattle.sct_desk.specs.Tilings.{AllBegin}
use Rattle.sct_desk.proofs.closing.all_begin.Given as goal

abbrev pub invariant-loop-receipt : goal.invariant-loop-receipt
invariant-loop-receipt l = AllBegin l.number l.arrivals.log (take l.receipt-index l.receipts)
