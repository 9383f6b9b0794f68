-- An answered number stands.
use Rattle.sct_hub.proofs.AnswerLemmas.{numbers_last}
use Rattle.sct_hub.proofs.laws.answered_numbers_last.Goals as goal

pub returns : goal.returns
returns c = numbers_last
