-- So far, what the first messages say of the transfer.
use Rattle.std.proofs.Common.{take}
use Rattle.sct_message.specs.Sets.{messages_in}
use Rattle.sct_case.specs.Inside.{IsSaidOf}
use Rattle.sct_case.proofs.said.Said.of.Given as goal

abbrev pub invariant-loop-message : goal.invariant-loop-message
invariant-loop-message l = IsSaidOf l.transfer (messages_in (take l.message-index l.clean)) l.said
