-- What changed before and what the messages touch, in order and each once.
use Rattle.std.proofs.Common.{◌∙◌, ap, ◌++◌}
use Rattle.std.proofs.lemmas.List.Filters.{dedup_is}
use Rattle.sct_message.specs.Ascending.{ascending}
use Rattle.sct_message.specs.Order.{transfer_order}
use Rattle.sct_message.specs.OrderLaws.{transfer_total, transfers_same, transfer_ties}
use Rattle.sct_message.proofs.AscendingLemmas.{ascending-sort_dedup_plain}
use Rattle.sct_embed.proofs.changes.Watch.after.Goals as goal

pub returns-clause-changed : goal.returns-clause-changed
returns-clause-changed c =
    dedup_is _ _ _ c.dedup.ensures.filtered
    ∙ ascending-sort_dedup_plain transfer_total transfers_same _ transfer_ties _ _ c.in_ok-sort.ensures.permutation c.in_ok-sort.ensures.sorted
    ∙ ap (ascending transfer_order)
    (c.in_ok-push_copies-2.ensures
    ∙ (λ i. (c.in_ok-push_copies.ensures
    ∙ (λ j. c.new-changed.ensures.items j ++ c.deref.ensures.value j)) i ++ (c.deref-2.ensures.value ∙ c.in_ok-touched.ensures) i))
