-- No rule is broken exactly where all rules hold.
use Rattle.sct_message.proofs.AllRules.{all_rules}
use Rattle.sct_message.proofs.rules.all_rules_hold_where_none_is_broken.Goals as goal

pub returns : goal.returns
returns c = all_rules
