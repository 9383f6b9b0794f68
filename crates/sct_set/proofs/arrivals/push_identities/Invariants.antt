-- The identities of the messages so far.
use Rattle.std.proofs.Common.{◌≡◌, ◌++◌, map, take}
use Rattle.sct_message.specs.Keys.{identity_of}
use Rattle.sct_set.specs.Drafts.{drafts_in}
use Rattle.sct_set.proofs.arrivals.push_identities.Given as goal

abbrev pub invariant-loop-message : goal.invariant-loop-message
invariant-loop-message l =
    l.identities.items ≡ l.initial.identities.items ++ map identity_of (drafts_in (take l.message-index l.messages))
