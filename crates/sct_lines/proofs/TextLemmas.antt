-- A text that was read has no bytes and owns nothing. Proof plumbing.
use Rattle.std.proofs.Common.{[], ◌∷◌, refl}
use seplogic.Ra.Ura.{Ura}
use mir.Val.{Val, vstruct, vnil}
use base.Logic.{ent, emp}
use denote.Shadow.{makes_shadow}
use types.Logic.{Logic, sem}
use Rattle.sct_lines.specs.contracts.text.TextRead.{the_row as Text}

-- its machine value
abbrev pub no_bytes : Val
no_bytes = vstruct vnil

-- it may be made of nothing, whatever the text
pub text_made : {M : Type 1} {𝓤 : Ura M} (𝓛 : Logic 𝓤) (text : Text.Denot) → ent 𝓤 (emp 𝓤) (sem 𝓛 (Text.own_val text (no_bytes ∷ [])))
text_made 𝓛 text = makes_shadow 𝓛 (Text.own_val text (no_bytes ∷ [])) ((λ vss. (tt, tt)), tt) ((tt, (refl, tt)), tt)
