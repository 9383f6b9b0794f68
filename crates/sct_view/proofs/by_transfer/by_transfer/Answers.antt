-- A message more is filed by its transfers.
use Rattle.std.proofs.Common.{arith, subst, sym, take}
use Rattle.std.proofs.lemmas.List.{take_all}
use Rattle.sct_message.specs.Sets.{messages_in}
use Rattle.sct_set.proofs.ArchiveLemmas.{drafts_in-more}
use Rattle.sct_view.specs.Filed.{IsFiledBy}
use Rattle.sct_view.proofs.by_transfer.by_transfer.Goals as goal

pub loop-message-preserved : goal.loop-message-preserved
loop-message-preserved c =
    subst (λ ds. IsFiledBy c.file_each.new.index ds)
    (sym (drafts_in-more c.args.messages.now c.loop-message.message-index c.message-item.result c.loop-message-test.true c.message-item.is))
    (c.in_ok-file_each.ensures (messages_in (take c.loop-message.message-index c.args.messages.now)) c.loop-message.invariant)

pub returns : goal.returns
returns c =
    subst (λ ms. IsFiledBy c.loop-message.index (messages_in ms)) (take_all c.loop-message.message-index c.args.messages.now (omega arith)) c.loop-message.invariant
