-- A message that was read is read again.
use Rattle.sct_read_again.proofs.AgainLemmas.{messages_again}
use Rattle.sct_read_again.proofs.messages_are_read_again.Goals as goal

pub returns : goal.returns
returns c = messages_again c.all_rules_hold_where_none_is_broken.ensures c.amounts_are_exact.ensures c.reasons_are_exact.ensures.read_from_its_text
