-- The key that is found has the text, and the key of the text is found.
use Rattle.std.proofs.Common.{◌≡◌, ◌∙◌, ap, sym, subst, ℕ, List, length, Option, Some, IfSome}
use Rattle.std.specs.Prelude.{find}
use Rattle.sct_element.specs.Text.{is_text}
use Rattle.sct_json.specs.declared.keys.Key.{Key}
use Rattle.sct_json.specs.KeyLookups.{keys_of_length}
use Rattle.sct_json.specs.Keys.{key_text}
use Rattle.sct_json.proofs.KeyTexts.{found_has_text, found_by_text}
use Rattle.sct_json.proofs.keys.Key.of_text.Goals as goal

pub returns-clause-some : goal.returns-clause-some
returns-clause-some c =
    subst (λ (found : Option Key). IfSome found (λ key. key_text key ≡ c.args.text.now)) (sym (c.copied.ensures ∙ c.first_of_text.ensures))
    (found_has_text c.args.text.now c.keys_of_length.result.now)

pub returns-clause-all : goal.returns-clause-all
returns-clause-all c key same =
    c.copied.ensures ∙ c.first_of_text.ensures
    ∙ ap (λ (keys : List Key). find (λ other. is_text c.args.text.now (key_text other)) keys) c.keys_of_length.ensures
    ∙ subst (λ (text : List ℕ). find (λ other. is_text text (key_text other)) (keys_of_length (length text)) ≡ Some key) (sym same) (found_by_text key)
