-- The law, from the lemmas.
use Rattle.sct_delta.proofs.LawLemmas.{joins_once}
use Rattle.sct_delta.proofs.laws.joining_twice_is_joining_once.Goals as goal

pub returns : goal.returns
returns c = joins_once
