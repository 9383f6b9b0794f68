-- A question for a text is answered with that text.
use Rattle.sct_hub.proofs.LifeLemmas.{texts_answered}
use Rattle.sct_hub.proofs.laws.texts_are_answered.Goals as goal

pub returns : goal.returns
returns c = texts_answered
