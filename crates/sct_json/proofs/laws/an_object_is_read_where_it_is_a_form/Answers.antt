-- What is read is a form, and a form is read.
use Rattle.sct_json.proofs.Forms.{forms_read}
use Rattle.sct_json.proofs.laws.an_object_is_read_where_it_is_a_form.Goals as goal

pub returns : goal.returns
returns c = forms_read c.all_rules_hold_where_none_is_broken.ensures
