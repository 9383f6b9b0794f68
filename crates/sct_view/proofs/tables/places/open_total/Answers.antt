-- A place without totals shows nothing, and goes last.
use Rattle.std.proofs.Common.{◌≡◌, ◌∙◌, Some, false, ap, is_some, rules, subst, sym}
use Rattle.indexmap.specs.Entry.{entry_value, map_with_value}
use Rattle.indexmap.specs.IndexMap.{get, Updates}
use Rattle.sct_element.specs.Text.{is_text}
use Rattle.sct_message.proofs.SameValues.{text_is}
use Rattle.sct_view.specs.Kept.{totals_or_none}
use Rattle.sct_view.proofs.TableLemmas.{opened, front_stays}
use Rattle.sct_view.proofs.tables.places.open_total.Goals as goal

pub returns-in-Vacant-clause-same : goal.returns-in-Vacant-clause-same
unfolding entry_value
returns-in-Vacant-clause-same c =
    let v = c.insert.result.now in
    let same : map_with_value c.in_ok-totals.field-0 v ≡ c.totals-in-Vacant-2-1.given.0 = search rules in
    let absent : is_some (get is_text c.args.totals.now c.copy.result) ≡ false = ap is_some (sym c.in_ok-totals.ensures.value ∙ ap entry_value c.in-Vacant.is) in
    opened is_text c.args.totals.now c.totals-in-Vacant-2-1.given.0 c.copy.result v totals_or_none text_is
    (subst (λ m. Updates is_text c.args.totals.now m c.copy.result (Some v)) same (c.in_ok-totals.ensures.update.0 v)) absent
    (c.insert.ensures.value ∙ c.nothing.ensures)

pub returns-in-Vacant-clause-front : goal.returns-in-Vacant-clause-front
unfolding entry_value
returns-in-Vacant-clause-front c =
    let v = c.insert.result.now in
    let same : map_with_value c.in_ok-totals.field-0 v ≡ c.totals-in-Vacant-2-1.given.0 = search rules in
    let absent : is_some (get is_text c.args.totals.now c.copy.result) ≡ false = ap is_some (sym c.in_ok-totals.ensures.value ∙ ap entry_value c.in-Vacant.is) in
    front_stays is_text c.args.totals.now c.totals-in-Vacant-2-1.given.0 c.copy.result v absent
    (ap (λ m. m.entries) (sym same) ∙ c.in_ok-totals.ensures.update.1 v)
