-- Written texts are of the hub.
use Rattle.sct_hub.proofs.HonestLemmas.{of_the_hub}
use Rattle.sct_hub.proofs.laws.written_texts_are_of_the_hub.Goals as goal

pub returns : goal.returns
returns c = of_the_hub c.messages_are_read_again.ensures
