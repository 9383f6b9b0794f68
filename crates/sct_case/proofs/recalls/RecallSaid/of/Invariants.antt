-- So far, what the first messages say of the recall.
use Rattle.std.proofs.Common.{take}
use Rattle.sct_message.specs.Sets.{messages_in}
use Rattle.sct_case.specs.Inside.{IsSaidOn}
use Rattle.sct_case.proofs.recalls.RecallSaid.of.Given as goal

abbrev pub invariant-loop-message : goal.invariant-loop-message
invariant-loop-message l = IsSaidOn l.transfer (messages_in (take l.message-index l.clean)) l.cxl l.said
