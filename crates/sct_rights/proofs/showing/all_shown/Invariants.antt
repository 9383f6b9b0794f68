-- The messages so far, as they are shown.
use Rattle.std.proofs.Common.{◌≡◌, map, take}
use Rattle.sct_message.specs.Sets.{messages_in}
use Rattle.sct_rights.specs.Shown.{shown_to}
use Rattle.sct_rights.proofs.showing.all_shown.Given as goal

abbrev pub invariant-loop-message : goal.invariant-loop-message
invariant-loop-message l = messages_in l.told.items ≡ map (shown_to l.banks l.view) (messages_in (take l.message-index l.messages))
