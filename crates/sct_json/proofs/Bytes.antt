-- The bytes of a text that is JSON, and those of none.
use Rattle.std.proofs.Common.{◌≡◌, ◌∙◌, ap, refl, ℕ, Bool, true, false, cond, List, Option, Some, None, Ok, Err}
use Rattle.std.specs.Prelude.{◌↔◌, IsUtf8}
use Rattle.std.specs.Str.{is_utf8}
use Rattle.std.proofs.lemmas.Bool.{cond-true}
use Rattle.std.proofs.lemmas.Str.{IsUtf8-from_is_utf8, is_utf8-from_IsUtf8}
use Rattle.serde_json.specs.Data.{Data}
use Rattle.serde_json.specs.Read.{read}
use Rattle.sct_message.specs.declared.draft.Draft.{Draft}
use Rattle.sct_json.specs.declared.faults.JsonFault.TheVariants.{NotJson}
use Rattle.sct_json.specs.Reading.{value_in, object_in, message_in}
use Rattle.sct_json.specs.Form.{IsFormOf, StandsFor}
use Rattle.sct_json.proofs.Forms.{RulesAreKnown, forms_read}

pub message_in_text : (bytes : List ℕ) → IsUtf8 bytes → message_in bytes ≡ value_in (read bytes)
unfolding message_in
message_in_text bytes u = cond-true _ _ _ (is_utf8-from_IsUtf8 bytes u)

pub message_in_object : (bytes : List ℕ) (d : Data) → IsUtf8 bytes → read bytes ≡ Some d → message_in bytes ≡ object_in d
unfolding message_in
message_in_object bytes d u e = cond-true _ _ _ (is_utf8-from_IsUtf8 bytes u) ∙ ap value_in e

no_value : (bytes : List ℕ) (b : Bool) → is_utf8 bytes ≡ b → (IsUtf8 bytes → read bytes ≡ None) → cond b (value_in (read bytes)) (Err NotJson) ≡ Err NotJson
no_value bytes true e none = ap value_in (none (IsUtf8-from_is_utf8 bytes e))
no_value bytes false e none = refl

pub message_in_none : (bytes : List ℕ) → (IsUtf8 bytes → read bytes ≡ None) → message_in bytes ≡ Err NotJson
unfolding message_in
message_in_none bytes none = no_value bytes (is_utf8 bytes) refl none

value_read : (o : Option Data) (m : Draft) → value_in o ≡ Ok m → (d : Data) × (o ≡ Some d) × (object_in d ≡ Ok m)
value_read None m e = cc
value_read (Some d) m e = (d, refl, e)

text_read : (bytes : List ℕ) (b : Bool) (m : Draft) → is_utf8 bytes ≡ b → cond b (value_in (read bytes)) (Err NotJson) ≡ Ok m → (d : Data) × StandsFor bytes d × (object_in d ≡ Ok m)
text_read bytes true m u e =
    let found : (d : Data) × (read bytes ≡ Some d) × (object_in d ≡ Ok m) = value_read (read bytes) m e in
    (found.0, record { text = IsUtf8-from_is_utf8 bytes u; value = found.1 }, found.2)
text_read bytes false m u e = cc

bytes_stand : (bytes : List ℕ) (m : Draft) → message_in bytes ≡ Ok m → (d : Data) × StandsFor bytes d × (object_in d ≡ Ok m)
unfolding message_in
bytes_stand bytes m e = text_read bytes (is_utf8 bytes) m refl e

pub bytes_read : RulesAreKnown → (bytes : List ℕ) (m : Draft) → (message_in bytes ≡ Ok m) ↔ ((d : Data) × StandsFor bytes d × IsFormOf d m)
bytes_read rules bytes m = (
  λ e. let found : (d : Data) × StandsFor bytes d × (object_in d ≡ Ok m) = bytes_stand bytes m e in (found.0, found.1, (forms_read rules found.0 m).0 found.2),
  λ h. message_in_object bytes h.0 h.1.text h.1.value ∙ (forms_read rules h.0 m).1 h.2,
)
