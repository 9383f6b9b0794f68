-- A message that was read is read again from its written form. Read by an auditor.
use Rattle.std.specs.Prelude.{◌≡◌, ℕ, List, Ok}
use Rattle.sct_message.specs.declared.draft.Draft.{Draft}
use Rattle.sct_json.specs.Reading.{message_in}
use Rattle.sct_json.specs.Writing.{written_text}

-- Whatever bytes a message was read from, its written form is read as the message.
abbrev pub MessagesAreReadAgain : Type 0
MessagesAreReadAgain =
    (bytes : List ℕ) (message : Draft) → message_in bytes ≡ Ok message → message_in (written_text message) ≡ Ok message
