-- A number is a place.
use Rattle.sct_hub.proofs.NumberLemmas.{numbers_kept}
use Rattle.sct_hub.proofs.laws.numbers_are_kept.Goals as goal

pub returns : goal.returns
returns c = numbers_kept
