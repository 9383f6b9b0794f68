-- What is read of a text. Read by an auditor.
use Rattle.std.specs.Prelude.{ℕ, ◌≡◌, List, length}
use Rattle.sct_message.specs.Sets.{messages_in}
use Rattle.sct_lines.specs.declared.intake.Intake.{Intake}
use Rattle.sct_lines.specs.Lines.{messages_read, refusals_told, told_text_of}

-- what is read of a text: its messages and its refused lines
pub record IsReadOf (text : List ℕ) (intake : Intake) : Type 0 where
  pub messages : messages_in intake.messages.items ≡ messages_read text
  pub told : intake.refusals.text ≡ told_text_of (refusals_told text)
  pub refused : intake.refusals.count ≡ length (refusals_told text)
