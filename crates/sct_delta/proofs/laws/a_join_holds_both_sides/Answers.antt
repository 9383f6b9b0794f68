-- The law, from the lemmas.
use Rattle.sct_delta.proofs.LawLemmas.{joins_both}
use Rattle.sct_delta.proofs.laws.a_join_holds_both_sides.Goals as goal

pub returns : goal.returns
returns c = joins_both
