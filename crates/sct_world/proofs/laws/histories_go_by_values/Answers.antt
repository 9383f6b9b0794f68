-- By the lemma of that law.
use Rattle.sct_world.proofs.ValueLemmas.{by_values}
use Rattle.sct_world.proofs.laws.histories_go_by_values.Goals as goal

pub returns : goal.returns
returns c = by_values
