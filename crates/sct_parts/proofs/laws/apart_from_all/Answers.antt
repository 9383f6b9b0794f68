-- The law of more than two sets.
use Rattle.sct_parts.proofs.ApartLemmas.{apart_from_all}
use Rattle.sct_parts.proofs.laws.apart_from_all.Goals as goal

pub returns : goal.returns
returns c = apart_from_all
