-- A reason is read from its own text.
use Rattle.sct_reason.specs.ReasonLaws.{text_is_read}
use Rattle.sct_json.proofs.elements.ReasonElement.reads_back.Goals as goal

pub returns : goal.returns
returns c = text_is_read c.args.self.now
