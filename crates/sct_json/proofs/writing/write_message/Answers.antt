-- The text of a message reads back.
use Rattle.std.proofs.Common.{◌∙◌, ap, Ok}
use Rattle.sct_message.specs.declared.draft.Draft.{Draft}
use Rattle.sct_json.specs.Form.{StandsFor}
use Rattle.sct_json.specs.Writing.{written_object}
use Rattle.sct_json.proofs.Bytes.{message_in_object}
use Rattle.sct_json.proofs.Written.{written_is_read}
use Rattle.sct_json.proofs.writing.write_message.Goals as goal

pub returns-in-Ok-clause-reads_back : goal.returns-in-Ok-clause-reads_back
returns-in-Ok-clause-reads_back c =
    let stands : StandsFor c.in-Ok.text.items (written_object c.draft-elements.result.now) = c.in-Ok.ensures.stands in
    message_in_object c.in-Ok.text.items (written_object c.draft-elements.result.now) stands.text stands.value
    ∙ written_is_read c.draft-elements.result.now c.elements_read_back.ensures c.draft-elements.ensures.rules ∙ ap (λ (m : Draft). Ok m) c.draft-elements.ensures.elements
