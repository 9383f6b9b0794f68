-- The rule of the name is not told of bytes.
use Rattle.sct_json.proofs.Refusals.{name_is_not_told}
use Rattle.sct_json.proofs.laws.no_message_is_refused_for_its_name.Goals as goal

pub returns : goal.returns
returns c = name_is_not_told
