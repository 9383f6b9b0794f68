-- The identities so far.
use Rattle.std.proofs.Common.{◌≡◌, map, take}
use Rattle.sct_message.specs.Keys.{identity_of}
use Rattle.sct_message.specs.Sets.{messages_in}
use Rattle.sct_view.proofs.by_transfer.identities.Given as goal

abbrev pub invariant-loop-message : goal.invariant-loop-message
invariant-loop-message l = l.found.items ≡ map identity_of (messages_in (take l.message-index l.messages))
