-- The text has the tokens of the object, and no more.
use Rattle.std.proofs.Common.{◌≡◌, ◌∙◌, ap, sym, subst, List, ◌∷◌, IfSome}
use Rattle.json.specs.Token as json
use Rattle.json.specs.Reads.{token_of}
use Rattle.json.specs.declared.token.Token.{Token}
use Rattle.sct_json.specs.Objects.{tokens_before, listed_before}
use Rattle.sct_json.proofs.PlainLists.{message_read}
use Rattle.sct_json.proofs.plain_message.read.Goals as goal

pub returns-in-None : goal.returns-in-None
returns-in-None c =
    let members : c.next.new.self ≡ tokens_before c.in-Some.message.before (listed_before c.in-Some.message.listed (json.end_object ∷ c.read_members.new.reader)) =
    subst (λ found. IfSome found (λ message. c.next.new.self ≡ tokens_before message.before (listed_before message.listed (json.end_object ∷ c.read_members.new.reader)))) c.in-Some.is c.in_ok-message.ensures in
    message_read c.args.text.now c.in-Some.message.before c.in-Some.message.listed
    (sym c.in_ok-reader.ensures.ok ∙ c.in-Some-BeginObject.ensures.value
    ∙ ap (λ (t : Token). token_of t ∷ c.next.new.self) c.in-Some-BeginObject.field-0-is
    ∙ ap (λ (ts : List json.Token). json.begin_object ∷ ts) members
    ∙ ap (λ (ts : List json.Token). json.begin_object ∷ tokens_before c.in-Some.message.before (listed_before c.in-Some.message.listed (json.end_object ∷ ts))) c.in-None.ensures.value.0)
