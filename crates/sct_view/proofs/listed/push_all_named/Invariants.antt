-- The recalls so far.
use Rattle.std.proofs.Common.{◌≡◌, ◌++◌, take}
use Rattle.std.specs.List.{flat_map}
use Rattle.sct_message.specs.Sets.{messages_in}
use Rattle.sct_view.specs.Answers.{cxls_named_by}
use Rattle.sct_view.proofs.listed.push_all_named.Given as goal

abbrev pub invariant-loop-message : goal.invariant-loop-message
invariant-loop-message l =
    l.found.items ≡ l.initial.found.items ++ flat_map (cxls_named_by l.transfer) (messages_in (take l.message-index l.messages))
