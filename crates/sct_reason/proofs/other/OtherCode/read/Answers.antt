-- What was found is an other code, and where nothing was there is none.
use Rattle.std.proofs.Common.{◌∙◌, sym}
use Rattle.sct_reason.proofs.Others.{other_is_read, no_other_is_read}
use Rattle.sct_reason.proofs.other.OtherCode.read.Goals as goal

pub returns-in-Some : goal.returns-in-Some
returns-in-Some c = other_is_read c.args.text.now _ _ (sym c.unlisted_code.ensures ∙ c.in-Some.is)

pub returns-in-None : goal.returns-in-None
returns-in-None c = no_other_is_read _ (sym c.unlisted_code.ensures ∙ c.in-None.is)
