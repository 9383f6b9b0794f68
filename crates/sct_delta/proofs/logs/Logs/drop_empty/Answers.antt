-- Neither the shelf nor the vector keeps anything empty.
use Rattle.sct_delta.proofs.LogsLemmas.{none_empty}
use Rattle.sct_delta.proofs.logs.Logs.drop_empty.Goals as goal

pub returns-clause-filled : goal.returns-clause-filled
returns-clause-filled c = none_empty c.self.inside.group c.drop_empty.new.self c.drop_zeros.new.self c.drop_empty.ensures.filled c.drop_zeros.ensures.counted
