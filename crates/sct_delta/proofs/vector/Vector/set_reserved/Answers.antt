-- The count is that of entries that are there.
use Rattle.std.proofs.Common.{All, subst, sym, ℕ, List}
use Rattle.sct_delta.proofs.DueLemmas.{IsDue, due-put}
use Rattle.sct_delta.proofs.vector.Vector.set_reserved.Goals as goal

pub returns-in-Some-clause-due : goal.returns-in-Some-clause-due
returns-in-Some-clause-due c = λ due later some all less.
    subst (λ (es : List (ℕ × ℕ)). All (IsDue (λ (n : ℕ). n) later) es) (sym (c.get_mut.follows.holds c.args.count).0)
    (due-put (λ (n : ℕ). n) due later c.args.origin c.args.count c.args.self.now.counts.entries c.in-Some.ensures.ordered some less all)
