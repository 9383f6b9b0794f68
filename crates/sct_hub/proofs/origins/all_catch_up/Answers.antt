-- All vectors are equal.
use Rattle.sct_hub.proofs.OriginLemmas.{all_catch_up}
use Rattle.sct_hub.proofs.origins.all_catch_up.Goals as goal

pub returns : goal.returns
returns c = all_catch_up c.messages_are_read_again.ensures
