-- The digest so far is that of the messages so far.
use Rattle.std.proofs.Common.{◌≡◌, take}
use Rattle.sct_message.specs.Sets.{messages_in}
use Rattle.sct_digest.specs.Digests.{digest_after}
use Rattle.sct_digest.proofs.chain.digest_after.Given as goal

abbrev pub invariant-loop-message : goal.invariant-loop-message
invariant-loop-message l = l.digest ≡ digest_after l.fn.before (take l.message-index (messages_in l.messages))
