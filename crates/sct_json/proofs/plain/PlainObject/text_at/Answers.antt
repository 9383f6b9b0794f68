-- The last text of the members.
use Rattle.std.proofs.Common.{◌∙◌, ap, List}
use Rattle.sct_json.specs.declared.plain.Member.{Member}
use Rattle.sct_json.specs.Keys.{key_text}
use Rattle.sct_json.specs.Members.{texts_of}
use Rattle.sct_json.specs.Objects.{last_text}
use Rattle.sct_json.proofs.plain.PlainObject.text_at.Goals as goal

pub returns : goal.returns
returns c = c.last_text.ensures ∙ ap (λ (ms : List Member). last_text (key_text c.args.key) (texts_of ms)) c.deref.ensures.value ∙ ap (last_text (key_text c.args.key)) c.self.view_is
