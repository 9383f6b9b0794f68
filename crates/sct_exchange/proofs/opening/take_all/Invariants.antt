-- The messages so far are taken.
use Rattle.std.proofs.Common.{◌≡◌}
use Rattle.sct_message.specs.Sets.{messages_in}
use Rattle.sct_exchange.specs.Journals.{core_taking}
use Rattle.sct_exchange.proofs.opening.take_all.Given as goal

abbrev pub invariant-loop-message : goal.invariant-loop-message
invariant-loop-message l = l.core ≡ core_taking l.initial.core (messages_in l.yielded)
