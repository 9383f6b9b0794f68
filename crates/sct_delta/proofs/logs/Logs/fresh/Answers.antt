-- What is new of a delta that fits is what is not held of it, and is a delta.
use Rattle.std.proofs.Common.{◌≡◌, ◌∙◌, refl, ap, sym, subst, filter, ℕ, ◌+◌, List}
use Rattle.std.proofs.lemmas.List.{take_all}
use Rattle.sct_delta.specs.Entries.{Placed, IsDelta, entries_from, log_of, numbered}
use Rattle.sct_delta.specs.Logs.{log_in}
use Rattle.sct_delta.specs.Refusals.{is_new, fresh_in, vector_of}
use Rattle.sct_delta.proofs.JoinLemmas.{passed, kept_fresh, fresh_is_delta, fresh_continues}
use Rattle.sct_delta.proofs.logs.Logs.fresh.Goals as goal

pub of_shape-requires : goal.of_shape-requires
of_shape-requires c =
    let log = log_in c.args.self.now in
    subst IsDelta (sym (kept_fresh c.args.own c.args.self.now.group log log c.args.delta.now _ _ c.in_ok-fits.ensures.ok (λ o. refl) c.entries-entry-items.ensures.entries
    (c.loop-entry.invariant ∙ ap (filter (is_new log)) (take_all c.loop-entry.entry-index c.entries-entry-items.result.now c.loop-entry-test.false))))
    (fresh_is_delta c.args.own c.args.self.now.group log c.args.delta.now
    (subst IsDelta c.entries-entry-items.ensures.entries c.entries-entry-items.ensures.shape)
    (passed c.args.own c.args.self.now.group log c.args.delta.now c.in_ok-fits.ensures.ok))

found : (c : goal.After-of_shape) → c.of_shape.result ≡ fresh_in (log_in c.args.self.now) c.args.delta.now
found c =
    let log = log_in c.args.self.now in
    c.of_shape.ensures
    ∙ kept_fresh c.args.own c.args.self.now.group log log c.args.delta.now _ _ c.in_ok-fits.ensures.ok (λ o. refl) c.entries-entry-items.ensures.entries
    (c.loop-entry.invariant ∙ ap (filter (is_new log)) (take_all c.loop-entry.entry-index c.entries-entry-items.result.now c.loop-entry-test.false))

pub returns-clause-ok : goal.returns-clause-ok
returns-clause-ok c = found c

pub returns-clause-goes_on : goal.returns-clause-goes_on
returns-clause-goes_on c =
    let log = log_in c.args.self.now in
    subst (λ (fresh : List Placed). (o : ℕ) → entries_from o fresh ≡ numbered o (vector_of log o + 1) (log_of o fresh)) (sym (found c))
    (fresh_continues c.args.own c.args.self.now.group log c.args.delta.now
    (subst IsDelta c.entries-entry-items.ensures.entries c.entries-entry-items.ensures.shape).runs
    (passed c.args.own c.args.self.now.group log c.args.delta.now c.in_ok-fits.ensures.ok))
