-- The law, from the lemmas.
use Rattle.sct_delta.proofs.LawLemmas.{entry_set}
use Rattle.sct_delta.proofs.laws.logs_hold_an_entry_set.Goals as goal

pub returns : goal.returns
returns c = entry_set
