-- What a site writes is read back.
use Rattle.sct_hub.proofs.ReadBackLemmas.{read_back, texts_back, were_read}
use Rattle.sct_hub.proofs.origins.texts_are_read_back.Goals as goal

pub returns-clause-read : goal.returns-clause-read
returns-clause-read c = were_read

pub returns-clause-deltas : goal.returns-clause-deltas
returns-clause-deltas c = read_back c.messages_are_read_again.ensures

pub returns-clause-texts : goal.returns-clause-texts
returns-clause-texts c = texts_back c.messages_are_read_again.ensures
