-- A log and a count that are new are of the origin of which messages are to come.
use Rattle.std.proofs.Common.{subst, sym}
use Rattle.sct_delta.specs.Logs.{KeepsEmptyIfDue}
use Rattle.sct_delta.proofs.LogsLemmas.{due_kept, due_stored}
use Rattle.sct_delta.proofs.logs.Logs.room_for.Goals as goal

pub returns-clause-due : goal.returns-clause-due
returns-clause-due c = λ due some kept.
    let stored = subst (KeepsEmptyIfDue due) (sym c.self.view_is) kept in
    due_kept c.self.inside.group c.room-2.new.self c.room.new.self due (c.in_ok-room-2.ensures.due due some (due_stored c.self.inside.group c.self.inside.shelf c.self.inside.vector due stored))
    (c.in_ok-room.ensures.due due some stored.1)
