-- A name has the eight characters of its kind.
use Rattle.std.proofs.Common.{◌≡◌, sym, arith, ℕ, ◌<◌, ◌≢◌, false, List, length, take, nat_eq, refl}
use Rattle.std.specs.Cmp.Lexicographic.{unequal}
use Rattle.std.proofs.lemmas.Bool.{and_left}
use Rattle.std.proofs.lemmas.List.{length-take}
use Rattle.sct_message.specs.Kinds.{kind_text, is_name_of}
use Rattle.sct_message.specs.declared.kinds.Kind.{Kind}
use Rattle.sct_message.specs.declared.kinds.Kind.TheVariants.{Camt029, Camt056, Pacs002, Pacs004, Pacs008, Pacs028}

text_length : (kind : Kind) → length (kind_text kind) ≡ 8
text_length Camt029 = refl
text_length Camt056 = refl
text_length Pacs002 = refl
text_length Pacs004 = refl
text_length Pacs008 = refl
text_length Pacs028 = refl

pub too_short : (kind : Kind) (s : List ℕ) → length s < 8 → false ≡ is_name_of kind s
too_short kind s h =
    let apart : length (take 8 s) ≢ length (kind_text kind) = λ e. omega (arith, length-take 8 s, text_length kind, e) in
    sym (and_left _ _ (unequal nat_eq (take 8 s) (kind_text kind) apart))
