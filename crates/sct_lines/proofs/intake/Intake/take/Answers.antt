-- A message more is the one that its line is read as, and a refusal more is the one by which its line is refused.
use Rattle.std.proofs.Common.{◌∙◌, ◌+◌, ap, sym}
use Rattle.sct_message.specs.Sets.{messages_in}
use Rattle.sct_lines.proofs.LineLemmas.{message_behind, refusal_behind}
use Rattle.sct_lines.proofs.intake.Intake.take.Goals as goal

pub returns-in_ok-push-in-Ok-clause-messages : goal.returns-in_ok-push-in-Ok-clause-messages
returns-in_ok-push-in-Ok-clause-messages c =
    ap messages_in c.in_ok-push-in-Ok.ensures.items
    ∙ message_behind c.args.self.now.messages.items c.in_ok-new-in-Ok.field-0 (c.args.before.now + c.args.number) c.args.line.now c.in-Ok.message
    (sym c.is_blank_line.ensures ∙ c.if-is_blank_line.false) (c.in_ok-message.ensures ∙ c.in-Ok.is) c.in_ok-new-in-Ok.ensures.ok

pub returns-in_ok-push-in-Err-clause-told : goal.returns-in_ok-push-in-Err-clause-told
returns-in_ok-push-in-Err-clause-told c =
    refusal_behind _ _ c.args.front.now (c.args.before.now + c.args.number) c.args.line.now c.in-Err.fault
    (sym c.is_blank_line.ensures ∙ c.if-is_blank_line.false) (c.in_ok-message.ensures ∙ c.in-Err.is) (rw c.count.ensures.count at c.in_ok-push-in-Err.ensures.text)
