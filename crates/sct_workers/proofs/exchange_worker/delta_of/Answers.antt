-- The delta of one numbered entry is refused for its site alone.
use Rattle.std.proofs.Common.{sym, subst}
use Rattle.sct_workers.specs.Holds.{WorkerEndsWhere}
use Rattle.sct_workers.proofs.Refusing.{refused_ends}
use Rattle.sct_workers.proofs.exchange_worker.delta_of.Goals as goal

pub returns-in-Err-clause-ends : goal.returns-in-Err-clause-ends
returns-in-Err-clause-ends c =
    subst (WorkerEndsWhere (λ point. ⊥)) (sym c.from.ensures)
    (refused_ends (λ point. ⊥) c.args.entry.entry c.in_ok-entries.entries.items c.in-Err.refusal c.args.entry.numbered c.in_ok-entries.ensures
    c.in-Err.ensures.refused)
