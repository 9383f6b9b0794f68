-- The messages so far, parted.
use Rattle.std.proofs.Common.{◌≡◌, filter, not, take}
use Rattle.std.specs.Option.{option_copied}
use Rattle.sct_message.specs.Sets.{messages_in, is_contradicted}
use Rattle.sct_view.specs.Changes.{with_fresh}
use Rattle.sct_view.proofs.evaluation.separate.Given as goal

abbrev pub invariant-loop-message : goal.invariant-loop-message
invariant-loop-message l =
    (messages_in l.clean.items ≡ filter (λ m. not (is_contradicted (with_fresh l.held (option_copied l.fresh)) m)) (messages_in (take l.message-index l.messages)))
    × (messages_in l.contradicted.items ≡ filter (is_contradicted (with_fresh l.held (option_copied l.fresh))) (messages_in (take l.message-index l.messages)))
