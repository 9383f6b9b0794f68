-- Sorted by their recalls, transactions of one recall are neighbours.
use Rattle.std.proofs.Common.{rules, ◌∙◌, ap}
use Rattle.std.specs.Ordering.{is_lt}
use Rattle.std.proofs.lemmas.List.MinMax.{ranks_by}
use Rattle.std.proofs.lemmas.List.Sorted.{answers_always}
use Rattle.sct_message.specs.Neighbours.{repeats_next}
use Rattle.sct_message.specs.OrderLaws.{recall_total}
use Rattle.sct_message.specs.Recalls.{recall_in}
use Rattle.sct_message.proofs.LongLists.{by_recall, repeats_sorted}
use Rattle.sct_message.proofs.recall_list.repeats_in_order.Goals as goal

pub returns : goal.returns
returns c =
    c.repeats_next.ensures
    ∙ ap repeats_next c.deref.ensures.value
    ∙ repeats_sorted _ _ c.sort_unstable_by.ensures.permutation
    (c.sort_unstable_by.ensures.sorted (λ s t. is_lt (by_recall s t)) (ranks_by recall_total recall_in)
    (answers_always _ _ _ (λ f a r g h. search rules)))
