-- The law that a merge holds both sides.
use Rattle.sct_set.proofs.LawLemmas.{both_sides}
use Rattle.sct_set.proofs.laws.merge_holds_both_sides.Goals as goal

pub returns : goal.returns
returns c = both_sides
