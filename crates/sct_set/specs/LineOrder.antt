-- The order of the archive text is total. Proof plumbing, cited by the impls of `Line`.
use Rattle.std.specs.Cmp.{IsTotalOrder, then_total, on_total}
use Rattle.std.specs.Cmp.Lexicographic.{nat_list_cmp_total}
use Rattle.sct_json.specs.Writing.{written_text}
use Rattle.sct_message.specs.OrderLaws.{message_total, identity_total}
use Rattle.sct_message.specs.Keys.{identity_of}
use Rattle.sct_set.specs.Archive.{line_order, written_order}

written_order_total : IsTotalOrder written_order
written_order_total = then_total (on_total written_text nat_list_cmp_total) message_total

pub line_order_total : IsTotalOrder line_order
unfolding line_order
line_order_total = then_total (on_total identity_of identity_total) written_order_total
