-- A site holds what it answered for.
use Rattle.sct_hub.proofs.AnswerLemmas.{hold_what_they_answer}
use Rattle.sct_hub.proofs.laws.keepers_hold_what_they_answer.Goals as goal

pub returns : goal.returns
returns c = hold_what_they_answer
