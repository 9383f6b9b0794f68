-- The receipts kept so far show the messages so far.
use Rattle.sct_workers.specs.Shown.{ShownTo}
use Rattle.sct_workers.proofs.intake_worker.take_messages.Given as goal

abbrev pub invariant-loop-place : goal.invariant-loop-place
invariant-loop-place g l = ShownTo l.place l.messages l.kept.receipts.items
