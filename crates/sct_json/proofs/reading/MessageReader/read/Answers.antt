-- Bytes that are a text, and bytes that are none.
use Rattle.std.proofs.Common.{◌∙◌, ap, sym, subst, ℕ, List, Result}
use Rattle.serde_json.specs.Read.{read}
use Rattle.sct_message.specs.declared.draft.Draft.{Draft}
use Rattle.sct_json.specs.declared.faults.JsonFault.{JsonFault}
use Rattle.sct_json.specs.Reading.{GivesWithMemory, value_in}
use Rattle.sct_json.proofs.Bytes.{message_in_text, message_in_none}
use Rattle.sct_json.proofs.reading.MessageReader.read.Goals as goal

pub returns-in-Ok : goal.returns-in-Ok
returns-in-Ok c =
    subst (λ (found : Result Draft JsonFault). GivesWithMemory c.read_text.result found)
    (ap (λ (text : List ℕ). value_in (read text)) c.in-Ok.ensures.cases.0 ∙ sym (message_in_text c.args.bytes.now c.in-Ok.ensures.cases.1)) c.read_text.ensures

pub returns-in-Err : goal.returns-in-Err
returns-in-Err c = message_in_none c.args.bytes.now (λ u. absurd (c.in-Err.ensures.cases.0 u))
