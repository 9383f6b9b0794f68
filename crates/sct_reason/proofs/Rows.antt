-- An unlisted code stands in no row.
use Rattle.std.proofs.Common.{◌≡◌, refl, sym, subst, ℕ, List, [], ◌∷◌, Bool, true, false, not}
use Rattle.std.specs.List.{list_any, list_all}
use Rattle.std.proofs.lemmas.Bool.{and_parts, or_from}
use Rattle.std.proofs.lemmas.Slice.Eq.{bytes_eq-Decides}
use Rattle.sct_reason.specs.declared.other.OtherCode.{OtherCode}
use Rattle.sct_reason.specs.declared.reasons.Reason.TheVariants.{Unlisted}
use Rattle.sct_reason.specs.declared.uses.Use.{Use}
use Rattle.sct_reason.specs.declared.uses.Use.TheVariants.{Reject, Recall, Refusal, Return}
use Rattle.sct_reason.specs.declared.uses.RecallClass.TheVariants as class
use Rattle.sct_element.specs.Text.{is_text}
use Rattle.sct_reason.specs.Listed.{is_listed, is_other_code}
use Rattle.sct_reason.specs.Uses.{usual_codes, is_among, is_usual, bank_codes, originator_codes, class_of}

not_true : (b : Bool) → not b ≡ true → b ≡ false
not_true true h = cc
not_true false h = refl

other_is_not_listed : (o : OtherCode) → is_listed o.code ≡ false
unfolding is_other_code
other_is_not_listed o = not_true _ (and_parts _ _ o.other).1

apart : (s c : List ℕ) (same : Bool) → is_text s c ≡ same → is_listed s ≡ false → is_listed c ≡ true
    → same ≡ false
apart s c true e h k =
    let listed : is_listed s ≡ true =
    subst (λ (t : List ℕ). is_listed t ≡ true) (sym ((bytes_eq-Decides s c).0 e)) k in cc
apart s c false e h k = refl

-- a text that is not listed is none of codes that are
in_no_row : (s : List ℕ) (row : List (List ℕ)) → is_listed s ≡ false → list_all is_listed row ≡ true
    → list_any (is_text s) row ≡ false
in_no_row s [] h k = refl
in_no_row s (c ∷ row) h k =
    let parts : (is_listed c ≡ true) × (list_all is_listed row ≡ true) = and_parts _ _ k in
    or_from _ _ (apart s c (is_text s c) refl h parts.0) (in_no_row s row h parts.1)

rows_are_listed : (purpose : Use) → list_all is_listed (usual_codes purpose) ≡ true
unfolding is_listed
rows_are_listed Reject = refl
rows_are_listed Recall = refl
rows_are_listed Refusal = refl
rows_are_listed Return = refl

pub other_is_unusual : (o : OtherCode) (purpose : Use) → false ≡ is_usual (Unlisted o) purpose
unfolding is_usual is_among
other_is_unusual o purpose =
    sym (in_no_row o.code (usual_codes purpose) (other_is_not_listed o) (rows_are_listed purpose))

pub other_has_no_class : (o : OtherCode) → class.Unlisted ≡ class_of (Unlisted o)
unfolding class_of is_among is_listed
other_has_no_class o =
    let bank : list_any (is_text o.code) bank_codes ≡ false =
    in_no_row o.code bank_codes (other_is_not_listed o) refl in
    let originator : list_any (is_text o.code) originator_codes ≡ false =
    in_no_row o.code originator_codes (other_is_not_listed o) refl in
    rw (bank, originator) refl
