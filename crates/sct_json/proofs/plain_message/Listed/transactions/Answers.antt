-- A text after the list is no list, and else the list is there.
use Rattle.std.proofs.Common.{◌∙◌, sym, subst}
use Rattle.serde_json.specs.Data.{array}
use Rattle.sct_json.specs.declared.keys.Key.TheVariants.{TxInf}
use Rattle.sct_json.specs.Keys.{key_text}
use Rattle.sct_json.specs.Objects.{objects_of}
use Rattle.sct_json.specs.Reading.{GivesItems, list_in}
use Rattle.sct_json.proofs.PlainLists.{text_after, text_refused, list_given}
use Rattle.sct_json.proofs.plain_message.Listed.transactions.Goals as goal

pub returns-in-Some : goal.returns-in-Some
returns-in-Some c = λ before list e. text_refused c.in-Some.field-0.now list (sym (text_after (key_text TxInf) c.in-Some.field-0.now c.args.self.now before c.in-Some.ensures) ∙ e)

pub returns-in-None : goal.returns-in-None
returns-in-None c = λ before list e.
    list_given c.read_plain_list.result c.args.self.now before list c.in-None.ensures e
    (subst (λ txs. GivesItems c.read_plain_list.result (list_in (array (objects_of txs)))) c.deref.ensures.value c.read_plain_list.ensures)
