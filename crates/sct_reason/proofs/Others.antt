-- What a text is read as, by the other code that it is.
use Rattle.std.proofs.Common.{◌≡◌, ◌∙◌, refl, ap, sym, ℕ, List, Bool, Some, None, true, false}
use Rattle.sct_element.specs.Settles.{read_parts}
use Rattle.sct_element.specs.Text.{where_read}
use Rattle.sct_reason.specs.declared.other.OtherCode.{OtherCode}
use Rattle.sct_reason.specs.Listed.{is_other_code}
use Rattle.sct_reason.specs.Reasons.{other_of}
use Rattle.sct_reason.specs.ReasonLaws.{other_code, same_code, other_some, other_none}

pub other_is_read : (s t : List ℕ) (p : is_other_code t ≡ true) → where_read (is_other_code s) s ≡ Some t
    → Some (other_code t p) ≡ other_of s
other_is_read s t p e =
    let k : (is_other_code s ≡ true) × (s ≡ t) = read_parts (is_other_code s) s t e in
    ap (λ (o : OtherCode). Some o) (same_code t s p k.0 (sym k.1)) ∙ sym (other_some s k.0)

refused : (b : Bool) (s : List ℕ) → where_read b s ≡ None → b ≡ false
refused true s e = cc
refused false s e = refl

pub no_other_is_read : (s : List ℕ) → where_read (is_other_code s) s ≡ None → None ≡ other_of s
no_other_is_read s e = sym (other_none s (refused (is_other_code s) s e))
