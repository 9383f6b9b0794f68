-- The messages so far are those of the entries that were looked at.
use Rattle.std.proofs.Common.{◌≡◌, map, take}
use Rattle.sct_message.specs.Sets.{messages_in}
use Rattle.sct_delta.proofs.entry.messages_in.Given as goal

abbrev pub invariant-loop-entry : goal.invariant-loop-entry
invariant-loop-entry l = messages_in l.messages.items ≡ map (λ entry. entry.message) (take l.entry-index l.entries)
