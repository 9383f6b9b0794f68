-- The messages so far are filed.
use Rattle.std.proofs.Common.{take}
use Rattle.sct_message.specs.Sets.{messages_in}
use Rattle.sct_view.specs.Filed.{IsFiledBy}
use Rattle.sct_view.proofs.by_transfer.by_transfer.Given as goal

abbrev pub invariant-loop-message : goal.invariant-loop-message
invariant-loop-message l = IsFiledBy l.index (messages_in (take l.message-index l.messages))
