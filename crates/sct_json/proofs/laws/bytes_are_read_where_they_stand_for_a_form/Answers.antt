-- Bytes that are read as a message stand for a form of it.
use Rattle.sct_json.proofs.Bytes.{bytes_read}
use Rattle.sct_json.proofs.laws.bytes_are_read_where_they_stand_for_a_form.Goals as goal

pub returns : goal.returns
returns c = bytes_read c.all_rules_hold_where_none_is_broken.ensures
