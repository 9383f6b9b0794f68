-- An object as it is read key by key.
use Rattle.std.proofs.Common.{◌≡◌, ◌∙◌, ap, sym, refl, List, [], ◌∷◌, map, Option, Some, option_map}
use Rattle.std.specs.Prelude.{option_and_then}
use Rattle.serde_json.specs.Data.{Data}
use Rattle.serde_json.specs.Find.{as_array}
use Rattle.serde_json.specs.View.{view, items_of, items_view}
use Rattle.serde_json.specs.declared.value.Value.{Value}
use Rattle.sct_json.specs.Reading.{items_list, items_of_list}

items_back : (ds : List Data) → items_list (items_of ds) ≡ ds
items_back [] = refl
items_back (d ∷ ds) = ap (λ (all : List Data). d ∷ all) (items_back ds)

-- the elements of the list that is at a key
pub items_there : (o : Option Data) (d : Data) (vs : List Value) → Some d ≡ o → Some (items_view vs) ≡ as_array d → Some (map view vs) ≡ option_and_then items_of_list o
items_there o d vs there list =
    ap (λ (ds : List Data). Some ds) (sym (items_back (map view vs))) ∙ ap (option_map items_list) list ∙ ap (option_and_then items_of_list) there
