-- The order of messages is total and answers Equal only at one message.
use Rattle.sct_message.specs.OrderLaws.{message_total, message_same, message_itself}
use Rattle.sct_message.proofs.order.order_is_total.Goals as goal

pub returns : goal.returns
returns c = record { total = message_total; same = λ a b. (message_same a b, message_itself a b) }
