-- A number is of one message.
use Rattle.sct_hub.proofs.EmbeddedLemmas.{no_number_twice}
use Rattle.sct_hub.proofs.embedded.no_number_is_given_twice.Goals as goal

pub returns : goal.returns
returns c = no_number_twice
