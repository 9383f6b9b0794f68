-- One more message.
use Rattle.std.proofs.Common.{◌∙◌, subst, List}
use Rattle.sct_message.specs.declared.draft.Draft.{Draft}
use Rattle.sct_case.specs.Inside.{IsSaidOf}
use Rattle.sct_case.proofs.SaidOf.{messages_more, more_of}
use Rattle.sct_case.proofs.said.Said.of.Goals as goal

pub loop-message-init : goal.loop-message-init
loop-message-init c = c.new-said.ensures c.args.transfer.now

pub loop-message-preserved : goal.loop-message-preserved
loop-message-preserved c =
    subst (λ (ms : List Draft). IsSaidOf c.args.transfer.now ms c.add.new.self)
    (messages_more c.args.clean.now c.loop-message.message-index c.message-item.result c.draft.result.now c.loop-message-test.true c.message-item.is (c.draft.ensures.elements ∙ c.deref.ensures))
    (more_of c.args.transfer.now _ c.draft.result.now _ _ c.loop-message.invariant c.in_ok-add.ensures)
