-- An object is a form of one message.
use Rattle.sct_json.proofs.Forms.{one_message}
use Rattle.sct_json.proofs.laws.an_object_is_a_form_of_one_message.Goals as goal

pub returns : goal.returns
returns c = one_message c.all_rules_hold_where_none_is_broken.ensures
