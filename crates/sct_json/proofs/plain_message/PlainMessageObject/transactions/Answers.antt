-- Texts alone have no list, and else the list is there or a text after it.
use Rattle.std.proofs.Common.{◌∙◌, ap, sym}
use Rattle.serde_json.specs.Data.{no_members}
use Rattle.serde_json.specs.Find.{get_member}
use Rattle.sct_json.specs.declared.keys.Key.TheVariants.{TxInf}
use Rattle.sct_json.specs.Keys.{key_text}
use Rattle.sct_json.specs.Objects.{put_texts, put_listed}
use Rattle.sct_json.proofs.PlainLists.{texts_refused}
use Rattle.sct_json.proofs.plain_message.PlainMessageObject.transactions.Goals as goal

pub returns-in-None : goal.returns-in-None
returns-in-None c = λ list e.
    texts_refused (key_text TxInf) c.args.self.now.before list
    (ap (λ listed. get_member (key_text TxInf) (put_listed listed (put_texts c.args.self.now.before no_members))) (sym c.in-None.is) ∙ e)

pub returns-in-Some : goal.returns-in-Some
returns-in-Some c = λ list e.
    c.transactions.ensures (put_texts c.args.self.now.before no_members) list
    (ap (λ listed. get_member (key_text TxInf) (put_listed listed (put_texts c.args.self.now.before no_members))) (sym c.in-Some.is) ∙ e)
