-- Identifications that are sorted and told apart are the ascending ones.
use Rattle.std.proofs.Common.{◌∙◌, ap, sym}
use Rattle.std.proofs.lemmas.List.Filters.{dedup_is}
use Rattle.std.proofs.lemmas.Grind.{flat_map-append}
use Rattle.std.specs.Cmp.Lexicographic.{nat_list_cmp_total, texts_ties}
use Rattle.sct_message.specs.Order.{text_order}
use Rattle.sct_message.specs.Ascending.{ascending}
use Rattle.sct_message.proofs.AscendingLemmas.{ascending-sort_dedup_plain}
use Rattle.sct_view.specs.Answers.{cxls_named_by}
use Rattle.sct_view.specs.Kept.{kept_in}
use Rattle.sct_message.specs.CellsBack.{texts_same}
use Rattle.sct_view.proofs.listed.recalls_in.Goals as goal

pub returns : goal.returns
returns c =
    dedup_is _ _ _ c.dedup.ensures.filtered
    ∙ ascending-sort_dedup_plain nat_list_cmp_total texts_same _ texts_ties _ _ c.in_ok-sort.ensures.permutation c.in_ok-sort.ensures.sorted
    ∙ ap (ascending text_order) (c.in_ok-found.ensures ∙ sym (flat_map-append (cxls_named_by c.args.transfer.now) (kept_in c.args.case.now).clean (kept_in c.args.case.now).contradicted))
