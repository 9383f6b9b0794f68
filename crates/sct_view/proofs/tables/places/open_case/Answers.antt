-- A place without messages shows nothing, and goes last.
use Rattle.std.proofs.Common.{◌≡◌, ◌∙◌, Some, false, ap, is_some, rules, subst, sym}
use Rattle.indexmap.specs.Entry.{entry_value, map_with_value}
use Rattle.indexmap.specs.IndexMap.{get, Updates}
use Rattle.sct_view.specs.Kept.{kept_in, kept_or_none, same_key}
use Rattle.sct_view.proofs.KeyLemmas.{keys_apart}
use Rattle.sct_view.proofs.TableLemmas.{opened, front_stays}
use Rattle.sct_view.proofs.tables.places.open_case.Goals as goal

pub returns-in-Vacant-clause-same : goal.returns-in-Vacant-clause-same
unfolding entry_value
returns-in-Vacant-clause-same c =
    let v = c.insert.result.now in
    let same : map_with_value c.in_ok-cases.field-0 v ≡ c.cases-in-Vacant-2-1.given.0 = search rules in
    let absent : is_some (get same_key c.args.cases.now c.copy.result) ≡ false = ap is_some (sym c.in_ok-cases.ensures.value ∙ ap entry_value c.in-Vacant.is) in
    opened same_key c.args.cases.now c.cases-in-Vacant-2-1.given.0 c.copy.result v kept_or_none keys_apart
    (subst (λ m. Updates same_key c.args.cases.now m c.copy.result (Some v)) same (c.in_ok-cases.ensures.update.0 v)) absent
    (ap kept_in c.insert.ensures.value ∙ c.no_case.ensures)

pub returns-in-Vacant-clause-front : goal.returns-in-Vacant-clause-front
unfolding entry_value
returns-in-Vacant-clause-front c =
    let v = c.insert.result.now in
    let same : map_with_value c.in_ok-cases.field-0 v ≡ c.cases-in-Vacant-2-1.given.0 = search rules in
    let absent : is_some (get same_key c.args.cases.now c.copy.result) ≡ false = ap is_some (sym c.in_ok-cases.ensures.value ∙ ap entry_value c.in-Vacant.is) in
    front_stays same_key c.args.cases.now c.cases-in-Vacant-2-1.given.0 c.copy.result v absent
    (ap (λ m. m.entries) (sym same) ∙ c.in_ok-cases.ensures.update.1 v)
