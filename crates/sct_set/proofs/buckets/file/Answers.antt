-- The list at the key gains the item, or the key gains a list of it.
use Rattle.std.proofs.Common.{◌≡◌, ap, sym, ◌∙◌, ◌++◌, ◌∷◌, [], Some, None, length, nat_lt, rules}
use Rattle.indexmap.specs.Entry.{entry_value, map_with_value}
use Rattle.indexmap.specs.IndexMap.{get}
use Rattle.sct_set.specs.Buckets.{items_in}
use Rattle.sct_set.proofs.BucketLemmas.{filled_push, HasAt-lists, HasAt-no_empty, HasAt-of, HasAt-stays}
use Rattle.sct_set.proofs.IndexLemmas.{on_err}
use Rattle.sct_set.proofs.buckets.file.Goals as goal

pub returns-in_ok-push-in-Occupied-clause-ok : goal.returns-in_ok-push-in-Occupied-clause-ok
returns-in_ok-push-in-Occupied-clause-ok g c =
    let w = c.push.new.self in
    let had = sym c.into_mut.ensures.value ∙ sym (ap entry_value c.in-Occupied.is) ∙ c.in_ok-entry.ensures.value in
    let became = HasAt-of g.met.K.Eq.laws c.args.index.now c.index-in-Occupied-2-1.given.0 c.args.key (Some w) (map_with_value c.in_ok-entry.field-0 w) (search rules) (c.in_ok-entry.ensures.update.0 w).0 in
    HasAt-lists g.met.K.Eq.laws c.args.index.now c.index-in-Occupied-2-1.given.0 c.args.key (Some w) (λ xs. xs ++ c.args.item ∷ []) became
    (c.in_ok-push-in-Occupied.ensures.ok ∙ ap (λ o. items_in o ++ c.args.item ∷ []) had)

pub returns-in_ok-push-in-Occupied-clause-no_empty : goal.returns-in_ok-push-in-Occupied-clause-no_empty
returns-in_ok-push-in-Occupied-clause-no_empty g c =
    let w = c.push.new.self in
    let became = HasAt-of g.met.K.Eq.laws c.args.index.now c.index-in-Occupied-2-1.given.0 c.args.key (Some w) (map_with_value c.in_ok-entry.field-0 w) (search rules) (c.in_ok-entry.ensures.update.0 w).0 in
    HasAt-no_empty g.met.K.Eq.laws c.args.index.now c.index-in-Occupied-2-1.given.0 c.args.key (Some w) became
    (filled_push c.into_mut.result.now c.args.item ∙ ap (λ xs. nat_lt 0 (length xs)) (sym c.in_ok-push-in-Occupied.ensures.ok))

pub returns-in_err-push-in-Occupied-clause-err : goal.returns-in_err-push-in-Occupied-clause-err
returns-in_err-push-in-Occupied-clause-err g c =
    let w = c.push.new.self in
    let had = sym c.into_mut.ensures.value ∙ sym (ap entry_value c.in-Occupied.is) ∙ c.in_ok-entry.ensures.value in
    let became = HasAt-of g.met.K.Eq.laws c.args.index.now c.index-in-Occupied-2-1.given.0 c.args.key (Some w) (map_with_value c.in_ok-entry.field-0 w) (search rules) (c.in_ok-entry.ensures.update.0 w).0 in
    on_err c.from_residual-in_err-push-in-Occupied.result
    (HasAt-stays g.met.K.Eq.laws c.args.index.now c.index-in-Occupied-2-1.given.0 c.args.key (Some w) became
    (c.in_err-push-in-Occupied.ensures.err ∙ ap items_in had))

pub returns-in-Vacant-clause-ok : goal.returns-in-Vacant-clause-ok
unfolding entry_value
returns-in-Vacant-clause-ok g c =
    let w = c.insert.result.now in
    let had : None ≡ get g.K.PartialEq.eq c.args.index.now c.args.key = sym (ap entry_value c.in-Vacant.is) ∙ c.in_ok-entry.ensures.value in
    let became = HasAt-of g.met.K.Eq.laws c.args.index.now c.index-in-Vacant-2-1.given.0 c.args.key (Some w) (map_with_value c.in_ok-entry.field-0 w) (search rules) (c.in_ok-entry.ensures.update.0 w).0 in
    HasAt-lists g.met.K.Eq.laws c.args.index.now c.index-in-Vacant-2-1.given.0 c.args.key (Some w) (λ xs. xs ++ c.args.item ∷ []) became
    (c.insert.ensures.value ∙ c.of.ensures ∙ ap (λ o. items_in o ++ c.args.item ∷ []) had)

pub returns-in-Vacant-clause-no_empty : goal.returns-in-Vacant-clause-no_empty
returns-in-Vacant-clause-no_empty g c =
    let w = c.insert.result.now in
    let became = HasAt-of g.met.K.Eq.laws c.args.index.now c.index-in-Vacant-2-1.given.0 c.args.key (Some w) (map_with_value c.in_ok-entry.field-0 w) (search rules) (c.in_ok-entry.ensures.update.0 w).0 in
    HasAt-no_empty g.met.K.Eq.laws c.args.index.now c.index-in-Vacant-2-1.given.0 c.args.key (Some w) became
    (filled_push [] c.args.item ∙ ap (λ xs. nat_lt 0 (length xs)) (sym (c.insert.ensures.value ∙ c.of.ensures)))
