-- The elements of the list at a key.
use Rattle.std.proofs.Common.{◌∙◌, ap, ℕ, List, map, Some}
use Rattle.std.specs.Prelude.{option_and_then}
use Rattle.serde_json.specs.Find.{get}
use Rattle.serde_json.specs.View.{view}
use Rattle.serde_json.specs.declared.value.Value.{Value}
use Rattle.sct_json.specs.Reading.{items_of_list}
use Rattle.sct_json.proofs.KeyByKey.{items_there}
use Rattle.sct_json.proofs.object.items.Goals as goal

pub returns : goal.returns
returns c =
    ap (λ (vs : List Value). Some (map view vs)) c.as_slice.ensures.value
    ∙ items_there _ (view c.in_ok-list.list.now) c.in_ok-as_array.field-0.now.items c.in_ok-list.ensures c.in_ok-as_array.ensures
    ∙ ap (λ (name : List ℕ). option_and_then items_of_list (get name (view c.args.object.now))) c.text.ensures
