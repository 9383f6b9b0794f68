-- A stable sort by the recalls keeps what is said of each.
use Rattle.std.proofs.Common.{rules}
use Rattle.std.specs.Cmp.Lexicographic.{nat_list_cmp_total}
use Rattle.std.specs.Ordering.{is_lt}
use Rattle.std.proofs.lemmas.List.MinMax.{ranks_by}
use Rattle.std.proofs.lemmas.List.Sorted.{answers_always}
use Rattle.sct_message.specs.Order.{text_order}
use Rattle.sct_case.proofs.OfOneRecall.{alike_from_stable}
use Rattle.sct_case.proofs.recall_order.by_recall.Goals as goal

pub returns-clause-order : goal.returns-clause-order
returns-clause-order g c =
    c.in_ok-sort_by.ensures.sorted (λ s t. is_lt (text_order (g.S.OfRecall.recall s) (g.S.OfRecall.recall t)))
    (ranks_by nat_list_cmp_total g.S.OfRecall.recall) (answers_always _ _ _ (λ f a r h k. search rules))

pub returns-clause-alike : goal.returns-clause-alike
returns-clause-alike g c =
    alike_from_stable g.S.OfRecall.recall _ _
    (c.in_ok-sort_by.ensures.stable (λ s t. is_lt (text_order (g.S.OfRecall.recall s) (g.S.OfRecall.recall t)))
    (ranks_by nat_list_cmp_total g.S.OfRecall.recall) (answers_always _ _ _ (λ f a r h k. search rules)))
