-- The lines of all identities are the archive text of the set, and each message of it is read again.
use Rattle.std.proofs.Common.{◌∙◌}
use Rattle.std.proofs.lemmas.Result.{IfOk-weaker}
use Rattle.sct_set.proofs.GroupLemmas.{all_read_again, all_text}
use Rattle.sct_set.proofs.text.archive_text.Goals as goal

pub returns-clause-text : goal.returns-clause-text
returns-clause-text c = IfOk-weaker c.lines_by.result _ _ (λ text written. all_text _ _ _ (c.deref.ensures.value ∙ c.in_ok-identities.ensures) written) c.lines_by.ensures

pub returns-clause-again : goal.returns-clause-again
returns-clause-again c = IfOk-weaker c.lines_by.result _ _ (λ text written. all_read_again _ _ _ (c.deref.ensures.value ∙ c.in_ok-identities.ensures) written) c.lines_by.ensures
