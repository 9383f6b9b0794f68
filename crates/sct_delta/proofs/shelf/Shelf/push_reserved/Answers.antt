-- The message that was to come is there.
use Rattle.std.proofs.Common.{All, arith, ap, length, length-append, subst, sym, ◌∙◌, ◌≤◌, ℕ, List}
use Rattle.sct_delta.proofs.DueLemmas.{IsDue, due-put}
use Rattle.sct_delta.proofs.EmptyLemmas.{Log}
use Rattle.sct_delta.proofs.shelf.Shelf.push_reserved.Goals as goal

pub returns-in-Some-clause-due : goal.returns-in-Some-clause-due
returns-in-Some-clause-due c = λ due later all less.
    let some : 1 ≤ length c.push_reserved.new.self.items = omega (arith, ap length c.push_reserved.ensures.items ∙ length-append c.in-Some.log.now.items _) in
    subst (λ (es : List (ℕ × Log)). All (IsDue (λ (log : Log). length log.items) later) es) (sym (c.get_mut.follows.holds c.push_reserved.new.self).0)
    (due-put (λ (log : Log). length log.items) due later c.args.origin c.push_reserved.new.self c.args.self.now.logs.entries c.in-Some.ensures.ordered some less all)
