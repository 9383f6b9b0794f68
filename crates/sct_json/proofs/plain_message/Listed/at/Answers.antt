-- A text after the list, the list itself, or what comes before it.
use Rattle.std.proofs.Common.{sym}
use Rattle.serde_json.specs.Data.{no_members}
use Rattle.sct_json.specs.Keys.{key_text}
use Rattle.sct_json.specs.Objects.{put_texts}
use Rattle.sct_json.proofs.PlainLists.{text_after, list_found, other_found}
use Rattle.sct_json.proofs.plain_message.Listed.at.Goals as goal

pub returns-in-Some : goal.returns-in-Some
returns-in-Some c = text_after (key_text c.args.key) c.in-Some.text.now c.args.self.now (put_texts c.args.before.now no_members) c.in-Some.ensures

pub returns-in-None : goal.returns-in-None
returns-in-None c = list_found (key_text c.args.key) c.args.self.now (put_texts c.args.before.now no_members) (sym c.if-is.ensures) c.in-None.ensures

pub returns-in-None-2 : goal.returns-in-None-2
returns-in-None-2 c = other_found c.at.result (key_text c.args.key) c.args.self.now (put_texts c.args.before.now no_members) (sym c.if-is.ensures) c.in-None-2.ensures c.at.ensures
