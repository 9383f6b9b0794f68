-- The transfers that the fresh messages touch, sorted and told apart, are those that the batch touches.
use Rattle.std.proofs.Common.{◌∙◌, ap}
use Rattle.std.proofs.lemmas.List.Filters.{dedup_is}
use Rattle.sct_message.specs.Ascending.{ascending}
use Rattle.sct_message.specs.Order.{transfer_order}
use Rattle.sct_message.specs.OrderLaws.{transfer_total, transfers_same, transfer_ties}
use Rattle.sct_message.proofs.AscendingLemmas.{ascending-sort_dedup_plain}
use Rattle.sct_view.proofs.FewLemmas.{few_found, touched_here}
use Rattle.sct_view.proofs.batch.touched.Goals as goal

pub returns-clause-all : goal.returns-clause-all
returns-clause-all c =
    dedup_is _ _ _ c.dedup.ensures.filtered
    ∙ ascending-sort_dedup_plain transfer_total transfers_same _ transfer_ties _ _ c.in_ok-sort.ensures.permutation c.in_ok-sort.ensures.sorted
    ∙ ap (ascending transfer_order) c.in_ok-found.ensures.touched
    ∙ touched_here c.args.held.now c.args.fresh.now _ c.messages.ensures.held c.requires.fresh

pub returns-clause-few : goal.returns-clause-few
returns-clause-few c =
    let is =
    dedup_is _ _ _ c.dedup.ensures.filtered
    ∙ ascending-sort_dedup_plain transfer_total transfers_same _ transfer_ties _ _ c.in_ok-sort.ensures.permutation c.in_ok-sort.ensures.sorted in
    rw is (few_found c.args.fresh.now c.messages.result.now c.in_ok-found.found.items c.messages.ensures.held c.messages.ensures.once c.in_ok-found.ensures.few)
