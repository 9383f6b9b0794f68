-- A count of 0 is of the origin of which entries are to come.
use Rattle.std.proofs.Common.{All, subst, sym, ℕ, List}
use Rattle.sct_delta.proofs.DueLemmas.{IsDue, due-insert}
use Rattle.sct_delta.proofs.vector.Vector.room.Goals as goal

pub returns-clause-due : goal.returns-clause-due
returns-clause-due c = λ due some all.
    subst (λ (es : List (ℕ × ℕ)). All (IsDue (λ (n : ℕ). n) due) es) (sym c.in_ok-insert.ensures.entries) (due-insert (λ (n : ℕ). n) due c.args.origin 0 c.args.self.now.counts.entries some all)
