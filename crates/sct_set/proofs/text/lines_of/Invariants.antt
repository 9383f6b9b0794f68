-- The lines made so far are those of the messages seen so far.
use Rattle.std.proofs.Common.{◌≡◌, take}
use Rattle.sct_set.specs.Drafts.{drafts_in}
use Rattle.sct_set.proofs.text.lines_of.Given as goal

abbrev pub invariant-loop-message : goal.invariant-loop-message
invariant-loop-message l = l.lines.items ≡ drafts_in (take l.message-index l.messages)
