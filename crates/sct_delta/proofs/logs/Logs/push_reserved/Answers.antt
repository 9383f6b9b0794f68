-- The message that was to come is there.
use Rattle.std.proofs.Common.{arith, subst, sym}
use Rattle.sct_delta.specs.Logs.{KeepsEmptyIfDue}
use Rattle.sct_delta.proofs.LogsLemmas.{due_kept, due_stored}
use Rattle.sct_delta.proofs.logs.Logs.push_reserved.Goals as goal

pub returns-clause-due : goal.returns-clause-due
returns-clause-due c = λ due later kept less.
    let stored = subst (KeepsEmptyIfDue due) (sym c.self.view_is) kept in
    due_kept c.self.inside.group c.push_reserved-n.new.self c.set_reserved.new.self later
    (c.push_reserved-n.ensures.due due later (due_stored c.self.inside.group c.self.inside.shelf c.self.inside.vector due stored) less)
    (c.set_reserved.ensures.due due later (omega (arith, c.push_reserved-n.ensures.count)) stored.1 less)
