-- Each of the messages is on the transfer.
use Rattle.std.specs.Arc.{arc_value}
use Rattle.sct_message.specs.Transfers.{is_on}
use Rattle.sct_rights.proofs.TheirsLemmas.{passed_at}
use Rattle.sct_rights.proofs.showing.all_shown.Goals as goal

pub shown_to-requires-clause-on : goal.shown_to-requires-clause-on
shown_to-requires-clause-on c =
    passed_at (λ m. is_on c.args.transfer.now (arc_value m)) c.args.messages.now c.loop-message.message-index c.message-item.result c.loop-message-test.true c.message-item.is c.requires.on
