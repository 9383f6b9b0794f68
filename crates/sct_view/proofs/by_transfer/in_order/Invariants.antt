-- The handles so far.
use Rattle.std.proofs.Common.{◌≡◌, take}
use Rattle.sct_message.specs.Sets.{messages_in}
use Rattle.sct_view.proofs.by_transfer.in_order.Given as goal

abbrev pub invariant-loop-message : goal.invariant-loop-message
invariant-loop-message l = messages_in l.sorted.items ≡ messages_in (take l.message-index l.messages)
