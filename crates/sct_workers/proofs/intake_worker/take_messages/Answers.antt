-- One message more.
use Rattle.std.proofs.Common.{◌+◌, refl}
use Rattle.sct_workers.proofs.MoreKept.{shown_at_next}
use Rattle.sct_workers.proofs.intake_worker.take_messages.Goals as goal

pub loop-place-preserved : goal.loop-place-preserved
loop-place-preserved g c =
    shown_at_next c.args.messages.now c.loop-place.place (c.loop-place.place + 1) c.loop-place.kept.receipts.items c.take_and_send.new.kept.receipts.items
    c.loop-place.invariant c.in_ok-take_and_send.ensures.more refl c.in_ok-take_and_send.ensures.shown
