-- The first name that is no key of a shape, over a map and over the members that it stands for.
use Rattle.std.proofs.Common.{◌≡◌, sym, refl, ℕ, Bool, true, false, cond, List, [], ◌∷◌, Option, Some, option_map, String, BTreeMap, Global, string_bytes}
use Rattle.std.specs.Prelude.{find, not}
use Rattle.std.specs.BTreeMap.{keys}
use Rattle.std.specs.Map.{keys_of}
use Rattle.serde_json.specs.declared.value.Value.{Value}
use Rattle.serde_json.specs.View.{members_view}
use Rattle.sct_json.specs.declared.keys.Shape.{Shape}
use Rattle.sct_json.specs.Keys.{is_key_in}
use Rattle.sct_json.specs.Reading.{names_of, first_extra}

chosen : (b : Bool) (name : String Global) (later : Option (String Global)) (found : Option (List ℕ)) → option_map string_bytes later ≡ found
    → option_map string_bytes (cond b (Some name) later) ≡ cond b (Some (string_bytes name)) found
chosen true name later found e = refl
chosen false name later found e = e

names_found : (p : List ℕ → Bool) (es : List (String Global × Value)) → option_map string_bytes (find (λ name. p (string_bytes name)) (keys_of es)) ≡ find p (names_of (members_view es))
names_found p [] = refl
names_found p (e ∷ es) = chosen (p (string_bytes e.0)) e.0 _ _ (names_found p es)

pub first_extra_found : (shape : Shape) (m : BTreeMap (String Global) Value)
    → first_extra shape (members_view m.entries) ≡ option_map string_bytes (find (λ name. not (is_key_in shape (string_bytes name))) (keys m))
first_extra_found shape m = sym (names_found (λ name. not (is_key_in shape name)) m.entries)
