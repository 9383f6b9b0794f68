-- The last text at a key is what the object has there.
use Rattle.sct_json.specs.Keys.{key_text}
use Rattle.sct_json.proofs.PlainTexts.{text_seen}
use Rattle.sct_json.proofs.plain.PlainObjectKeyed.at.Goals as goal

pub returns-in-None : goal.returns-in-None
returns-in-None c = text_seen _ (key_text c.args.key) c.args.self.now c.in-None.ensures

pub returns-in-Some : goal.returns-in-Some
returns-in-Some c = text_seen _ (key_text c.args.key) c.args.self.now c.in-Some.ensures
