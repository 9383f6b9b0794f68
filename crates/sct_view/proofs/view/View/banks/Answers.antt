-- Banks that are sorted and told apart are the ascending ones.
use Rattle.std.proofs.Common.{◌∙◌, ap}
use Rattle.std.proofs.lemmas.List.Filters.{dedup_is}
use Rattle.std.specs.Cmp.Lexicographic.{nat_list_cmp_total, texts_ties}
use Rattle.sct_message.specs.Ascending.{ascending}
use Rattle.sct_message.specs.Order.{text_order}
use Rattle.sct_message.proofs.AscendingLemmas.{ascending-sort_dedup_plain}
use Rattle.sct_view.specs.Totals.{banks_of}
use Rattle.sct_view.specs.Kept.{case_at, totals_at}
use Rattle.sct_view.proofs.CommitLemmas.{sums_told}
use Rattle.sct_view.proofs.ListedLemmas.{banks_listed}
use Rattle.sct_message.specs.CellsBack.{texts_same}
use Rattle.sct_view.proofs.view.View.banks.Goals as goal

pub returns : goal.returns
returns c =
    let tables = c.self.inside.tables in
    dedup_is _ _ _ c.dedup.ensures.filtered
    ∙ ascending-sort_dedup_plain nat_list_cmp_total texts_same _ texts_ties _ _ c.in_ok-sort.ensures.permutation c.in_ok-sort.ensures.sorted
    ∙ ap (ascending text_order) c.in_ok-banks.ensures.banks
    ∙ banks_listed c.self.inside.archive tables.totals c.in_ok-banks.ensures.unique
    (sums_told c.self.inside.archive (case_at tables.cases) (totals_at tables.totals) tables.summed c.self.invariant.0)
    ∙ ap banks_of c.self.view_is
