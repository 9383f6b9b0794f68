-- The law, by its lemmas.
use Rattle.sct_delta.proofs.RightFrontLemmas.{front_is_right, front_of_form_1_is_right}
use Rattle.sct_delta.proofs.text.laws.the_lines_before_a_wrong_one_are_right.Goals as goal

pub returns-clause-entries : goal.returns-clause-entries
returns-clause-entries c = front_of_form_1_is_right

pub returns-clause-groups : goal.returns-clause-groups
returns-clause-groups c = front_is_right
