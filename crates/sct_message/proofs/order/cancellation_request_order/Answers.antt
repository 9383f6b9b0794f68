-- The declared orders of heads and of transactions are those by their elements.
use Rattle.std.proofs.Common.{◌∙◌}
use Rattle.sct_message.proofs.RecallRows.{after_head}
use Rattle.sct_message.proofs.order.cancellation_request_order.Goals as goal

pub returns : goal.returns
returns c = rw (← c.left.view_is, ← c.right.view_is)
    (c.cmp.ensures ∙ after_head c.cmp-by_head.result
    (record { head = c.left.inside.head; txs = c.left.inside.txs.items })
    (record { head = c.right.inside.head; txs = c.right.inside.txs.items })
    c.if-ne.ensures c.cmp-by_head.ensures)
