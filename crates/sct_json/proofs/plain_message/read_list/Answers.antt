-- The transaction that was read is the last of all.
use Rattle.std.proofs.Common.{◌≡◌, ◌∙◌, ap, sym, subst, ◌∷◌, IfSome}
use Rattle.json.specs.Token as json
use Rattle.json.specs.Reads.{token_of}
use Rattle.json.specs.declared.token.Token.{Token}
use Rattle.sct_json.specs.Objects.{tokens_before, objects_before}
use Rattle.sct_json.proofs.PlainLists.{one_object, fewer_left}
use Rattle.sct_json.proofs.plain_message.read_list.Goals as goal

pub loop-alloc-preserved : goal.loop-alloc-preserved
loop-alloc-preserved c =
    one_object c.args.reader.now c.loop-alloc.reader c.next.new.self c.read_transaction.new.reader c.loop-alloc.list.items c.in-Some.transaction c.loop-alloc.invariant
    (c.in-Some-BeginObject.ensures.value ∙ ap (λ (t : Token). token_of t ∷ c.next.new.self) c.in-Some-BeginObject.field-0-is)
    (subst (λ found. IfSome found (λ transaction. c.next.new.self ≡ tokens_before transaction (json.end_object ∷ c.read_transaction.new.reader))) c.in-Some.is c.in_ok-transaction.ensures)
    ∙ ap (λ txs. objects_before txs c.read_transaction.new.reader) (sym c.in_ok-push.ensures.items)

pub loop-alloc-smaller : goal.loop-alloc-smaller
loop-alloc-smaller c =
    fewer_left c.loop-alloc.reader c.next.new.self c.read_transaction.new.reader c.in-Some.transaction
    (c.in-Some-BeginObject.ensures.value ∙ ap (λ (t : Token). token_of t ∷ c.next.new.self) c.in-Some-BeginObject.field-0-is)
    (subst (λ found. IfSome found (λ transaction. c.next.new.self ≡ tokens_before transaction (json.end_object ∷ c.read_transaction.new.reader))) c.in-Some.is c.in_ok-transaction.ensures)
