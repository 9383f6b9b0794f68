-- The law of the order of inputs.
use Rattle.sct_commands.proofs.UnionLemmas.{order_matters_not}
use Rattle.sct_commands.proofs.runs.no_order_matters.Goals as goal

pub returns : goal.returns
returns c = order_matters_not
