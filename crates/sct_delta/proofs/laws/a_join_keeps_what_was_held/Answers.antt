-- The law, from the lemmas.
use Rattle.sct_delta.proofs.LawLemmas.{keeps}
use Rattle.sct_delta.proofs.laws.a_join_keeps_what_was_held.Goals as goal

pub returns : goal.returns
returns c = keeps
