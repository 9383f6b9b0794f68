-- The rule that is told is the first that is broken.
use Rattle.sct_message.proofs.FirstBroken.{first_is_first, none_where_none}
use Rattle.sct_message.proofs.rules.first_broken_rule_is_told.Goals as goal

pub returns : goal.returns
returns c = record { told = first_is_first; none = none_where_none }
