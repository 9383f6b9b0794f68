-- The list at the key loses its last item, and an empty list is removed.
use Rattle.std.proofs.Common.{ap, subst, sym, refl, ◌∙◌, ◌-◌, None, Some, IsSome, length, take}
use Rattle.sct_set.specs.Buckets.{items_in}
use Rattle.sct_set.proofs.BucketLemmas.{filled_from, nil_from, HasAt-again, HasAt-lists, HasAt-no_empty}
use Rattle.sct_set.proofs.buckets.unfile.Goals as goal

pub returns-then-is_empty-clause-taken : goal.returns-then-is_empty-clause-taken
returns-then-is_empty-clause-taken g c =
    let w = c.pop.new.self in
    let became = (c.get_mut.follows.holds w).3 (subst IsSome c.in-Some.ensures.value refl) in
    HasAt-lists g.met.K.Eq.laws c.args.index.now c.swap_remove.new.self c.args.key.now None (λ xs. take (length xs - 1) xs)
    (HasAt-again g.met.K.Eq.laws c.args.index.now (c.get_mut.follows.lender w) c.args.key.now (Some w) c.swap_remove.new.self None became.0 c.swap_remove.ensures.updates.0)
    (nil_from _ (sym c.is_empty.ensures ∙ c.if-is_empty.true) ∙ c.pop.ensures ∙ ap (λ o. take (length (items_in o) - 1) (items_in o)) c.in-Some.ensures.value)

pub returns-then-is_empty-clause-no_empty : goal.returns-then-is_empty-clause-no_empty
returns-then-is_empty-clause-no_empty g c =
    let w = c.pop.new.self in
    let became = (c.get_mut.follows.holds w).3 (subst IsSome c.in-Some.ensures.value refl) in
    HasAt-no_empty g.met.K.Eq.laws c.args.index.now c.swap_remove.new.self c.args.key.now None
    (HasAt-again g.met.K.Eq.laws c.args.index.now (c.get_mut.follows.lender w) c.args.key.now (Some w) c.swap_remove.new.self None became.0 c.swap_remove.ensures.updates.0)
    refl

pub returns-else-is_empty-clause-taken : goal.returns-else-is_empty-clause-taken
returns-else-is_empty-clause-taken g c =
    let w = c.pop.new.self in
    let became = (c.get_mut.follows.holds w).3 (subst IsSome c.in-Some.ensures.value refl) in
    HasAt-lists g.met.K.Eq.laws c.args.index.now (c.get_mut.follows.lender w) c.args.key.now (Some w) (λ xs. take (length xs - 1) xs) became.0
    (c.pop.ensures ∙ ap (λ o. take (length (items_in o) - 1) (items_in o)) c.in-Some.ensures.value)

pub returns-else-is_empty-clause-no_empty : goal.returns-else-is_empty-clause-no_empty
returns-else-is_empty-clause-no_empty g c =
    let w = c.pop.new.self in
    let became = (c.get_mut.follows.holds w).3 (subst IsSome c.in-Some.ensures.value refl) in
    HasAt-no_empty g.met.K.Eq.laws c.args.index.now (c.get_mut.follows.lender w) c.args.key.now (Some w) became.0
    (filled_from _ (sym c.is_empty.ensures ∙ c.if-is_empty.false))
