-- The law of Against.
use Rattle.sct_set.proofs.LawLemmas.{against_answered}
use Rattle.sct_set.proofs.laws.against_is_answered.Goals as goal

pub returns : goal.returns
returns c = against_answered
