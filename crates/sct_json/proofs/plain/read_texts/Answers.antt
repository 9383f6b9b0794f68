-- The member that was read is the last of all, and the list begins after all.
use Rattle.std.proofs.Common.{◌∙◌, ap, sym, List, ◌∷◌}
use Rattle.json.specs.Reads.{token_of}
use Rattle.json.specs.declared.token.Token.{Token}
use Rattle.sct_json.specs.declared.plain.Member.{Member}
use Rattle.sct_json.specs.Members.{texts_of}
use Rattle.sct_json.specs.Objects.{tokens_before}
use Rattle.sct_json.proofs.PlainTexts.{one_more, list_next}
use Rattle.sct_json.proofs.plain.read_texts.Goals as goal

pub loop-name-preserved : goal.loop-name-preserved
loop-name-preserved c =
    one_more c.args.reader.now c.loop-name.reader c.next.new.self c.read_next.new.reader c.in-Some-Key.name.now c.loop-name.members.items c.in-Text.member c.loop-name.invariant
    (c.in-Some-Key.ensures.value ∙ ap (λ (t : Token). token_of t ∷ c.next.new.self) c.in-Some-Key.field-0-is) c.in-Text.ensures.0 c.in-Text.ensures.1
    ∙ ap (λ (all : List Member). tokens_before (texts_of all) c.read_next.new.reader) (sym c.in_ok-push-in-Text.ensures.items)

pub returns-in-List : goal.returns-in-List
returns-in-List c =
    list_next c.args.reader.now c.loop-name.reader c.next.new.self c.read_next.new.reader c.in-Some-Key.name.now (texts_of c.loop-name.members.items) c.loop-name.invariant
    (c.in-Some-Key.ensures.value ∙ ap (λ (t : Token). token_of t ∷ c.next.new.self) c.in-Some-Key.field-0-is) c.in-List.ensures.0 c.in-List.ensures.1
