-- Handles that are sorted and told apart are on the messages in order.
use Rattle.std.proofs.Common.{◌∙◌, ap, refl, arith}
use Rattle.std.proofs.lemmas.List.{take_all}
use Rattle.std.proofs.lemmas.List.Filters.{dedup_is}
use Rattle.std.specs.Arc.{arc_value}
use Rattle.sct_message.specs.Ascending.{ascending}
use Rattle.sct_message.specs.Order.{message_order}
use Rattle.sct_message.specs.OrderLaws.{message_total, message_same}
use Rattle.sct_message.specs.Sets.{messages_in}
use Rattle.sct_message.proofs.AscendingLemmas.{ascending-sort_dedup}
use Rattle.sct_view.proofs.by_transfer.in_order.Goals as goal

pub returns : goal.returns
returns c =
    ap messages_in (dedup_is _ _ _ c.dedup.ensures.filtered)
    ∙ ascending-sort_dedup message_total message_same arc_value _ (λ x y. refl) _ _ c.in_ok-sort.ensures.permutation c.in_ok-sort.ensures.sorted
    ∙ ap (ascending message_order) (c.loop-message.invariant ∙ ap messages_in (take_all c.loop-message.message-index c.args.messages.now (omega arith)))
