-- Lines that are sorted and told apart are the ascending ones.
use Rattle.std.proofs.Common.{◌∙◌, ap, refl}
use Rattle.std.proofs.lemmas.List.Filters.{dedup_is}
use Rattle.sct_set.specs.Archive.{line_order}
use Rattle.sct_message.specs.Ascending.{ascending}
use Rattle.sct_set.specs.LineOrder.{line_order_total}
use Rattle.sct_message.proofs.AscendingLemmas.{ascending-sort_dedup_plain}
use Rattle.sct_set.proofs.TextLemmas.{line_order_same}
use Rattle.sct_set.proofs.text.lines_in_order.Goals as goal

pub returns : goal.returns
returns c =
    dedup_is _ _ _ c.dedup.ensures.filtered
    ∙ ascending-sort_dedup_plain line_order_total line_order_same _ (λ x y. refl) _ _ c.in_ok-sort.ensures.permutation c.in_ok-sort.ensures.sorted
    ∙ ap (ascending line_order) c.in_ok-lines.ensures
