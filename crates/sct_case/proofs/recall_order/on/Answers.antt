-- What is at the recall lies between what is below it and what is above it.
use Rattle.std.proofs.Common.{rules}
use Rattle.std.specs.Ordering.{is_le, is_lt}
use Rattle.std.proofs.lemmas.List.Sorted.{IsPartitionPoint-from_clause}
use Rattle.sct_case.proofs.OfOneRecall.{between_places, order_at, parted_le, parted_lt}
use Rattle.sct_case.proofs.recall_order.on.Goals as goal

pub returns : goal.returns
returns g c =
    let recall = g.S.OfRecall.recall in
    let cxl = c.args.cxl.now in
    let said = c.args.said.now in
    between_places recall cxl said _ _ c.partition_point-end.result c.partition_point-start.result c.split_at.ensures.front c.split_at-2.ensures.back
    c.partition_point-end.ensures.bound c.partition_point-start.ensures.bound
    (IsPartitionPoint-from_clause (λ y. is_le (order_at recall cxl said y)) _ _ c.partition_point-end.ensures.partitioned (parted_le recall cxl said c.requires) (λ a r q k. search rules))
    (IsPartitionPoint-from_clause (λ y. is_lt (order_at recall cxl said y)) _ _ c.partition_point-start.ensures.partitioned
    (parted_lt recall cxl said _ _ _ _ c.split_at.ensures.front c.split_at-2.ensures.back c.requires) (λ a r q k. search rules))
