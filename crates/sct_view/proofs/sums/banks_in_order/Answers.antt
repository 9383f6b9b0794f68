-- Banks that are sorted and told apart are the ascending ones.
use Rattle.std.proofs.Common.{◌∙◌, ap}
use Rattle.std.proofs.lemmas.List.Filters.{dedup_is}
use Rattle.std.specs.Cmp.Lexicographic.{nat_list_cmp_total, texts_ties}
use Rattle.sct_message.specs.Ascending.{ascending}
use Rattle.sct_message.specs.Order.{text_order}
use Rattle.sct_message.proofs.AscendingLemmas.{ascending-sort_dedup_plain}
use Rattle.sct_message.specs.CellsBack.{texts_same}
use Rattle.sct_view.proofs.ListedLemmas.{banks_listed}
use Rattle.sct_view.proofs.sums.banks_in_order.Goals as goal

pub returns : goal.returns
returns c = λ held are.
    dedup_is _ _ _ c.dedup.ensures.filtered
    ∙ ascending-sort_dedup_plain nat_list_cmp_total texts_same _ texts_ties _ _ c.in_ok-sort.ensures.permutation c.in_ok-sort.ensures.sorted
    ∙ ap (ascending text_order) c.in_ok-banks.ensures.banks
    ∙ banks_listed held c.args.totals.now c.in_ok-banks.ensures.unique are
