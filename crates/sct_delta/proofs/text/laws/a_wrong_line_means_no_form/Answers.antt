-- The law, by its lemmas.
use Rattle.sct_delta.proofs.DeltaLemmas.{no_form, some_form}
use Rattle.sct_delta.proofs.text.laws.a_wrong_line_means_no_form.Goals as goal

pub returns-clause-none : goal.returns-clause-none
returns-clause-none c = no_form

pub returns-clause-some : goal.returns-clause-some
returns-clause-some c = some_form
