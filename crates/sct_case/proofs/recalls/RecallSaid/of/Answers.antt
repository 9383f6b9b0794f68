-- One more message.
use Rattle.std.proofs.Common.{◌∙◌, subst, List}
use Rattle.sct_message.specs.declared.draft.Draft.{Draft}
use Rattle.sct_case.specs.Inside.{IsSaidOn}
use Rattle.sct_case.proofs.SaidOf.{messages_more}
use Rattle.sct_case.proofs.SaidOn.{more_on}
use Rattle.sct_case.proofs.recalls.RecallSaid.of.Goals as goal

pub loop-message-preserved : goal.loop-message-preserved
loop-message-preserved c =
    subst (λ (ms : List Draft). IsSaidOn c.args.transfer.now ms c.args.cxl.now c.add.new.self)
    (messages_more c.args.clean.now c.loop-message.message-index c.message-item.result c.draft.result.now c.loop-message-test.true c.message-item.is (c.draft.ensures.elements ∙ c.deref.ensures))
    (more_on c.args.transfer.now c.args.cxl.now _ c.draft.result.now _ _ c.loop-message.invariant c.add.ensures)
