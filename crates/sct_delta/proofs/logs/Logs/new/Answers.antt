-- Nothing is kept yet.
use Rattle.sct_delta.proofs.LogsLemmas.{none_empty}
use Rattle.sct_delta.proofs.logs.Logs.new.Goals as goal

pub returns-clause-filled : goal.returns-clause-filled
returns-clause-filled c = none_empty c.args.group c.new.result c.empty.result c.new.ensures.filled c.empty.ensures.counted
