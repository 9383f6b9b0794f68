-- The room that was made is filled.
use Rattle.sct_delta.proofs.LogsLemmas.{filled_by_one}
use Rattle.sct_delta.proofs.logs.Logs.push.Goals as goal

pub returns-clause-kept : goal.returns-clause-kept
returns-clause-kept c = λ was. filled_by_one c.args.origin c.args.self.now c.room.new.self c.push_reserved.new.self was c.in_ok-room.ensures.due c.push_reserved.ensures.due
