-- The law that the archive text has a line for each message.
use Rattle.sct_set.proofs.TextLemmas.{written_once}
use Rattle.sct_set.proofs.laws.text_writes_each_once.Goals as goal

pub returns : goal.returns
returns c = written_once
