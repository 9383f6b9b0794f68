-- The identities found so far are those of the messages seen so far.
use Rattle.std.proofs.Common.{◌≡◌, map, take}
use Rattle.sct_message.specs.Keys.{identity_of}
use Rattle.sct_set.specs.Drafts.{drafts_in}
use Rattle.sct_set.proofs.text.identities_of.Given as goal

abbrev pub invariant-loop-message : goal.invariant-loop-message
invariant-loop-message l = l.found.items ≡ map identity_of (drafts_in (take l.message-index l.messages))
