-- The records that a reader gives one by one are the records of the text.
use Rattle.std.specs.Prelude.{if◌then◌else◌, length, ◌-◌, ◌+◌, zero, suc, ◌<◌, ◌≤◌, ◌==◌}
use Rattle.std.proofs.Common.{◌≡◌, ◌∙◌, ap, sym, subst, refl, arith, ℕ, Bool, true, false, List, [], ◌∷◌, Some, None, inl, inr}
use Rattle.std.proofs.lemmas.Bool.{cases_Bool, false≢true}
use Rattle.csv.specs.Machine.{Read, next_record, step, in_field, start_field, start_record, is_end, ends_at_end, fields_after}
use Rattle.csv.specs.Reading.{Reached, AreRecords, default_config, records, records_from, records_next}
use Rattle.csv.specs.declared.parser.Action.{Action}
use Rattle.csv.specs.declared.parser.State.{State}
use Rattle.csv.specs.declared.parser.State.TheVariants as st

-- ---- a record ends in a state in which the text may end

abbrev Rests : State × Action → Type 0
Rests next = is_end next.1 ≡ true → ends_at_end next.0 ≡ false

in_field_rests : (c : ℕ) → Rests (in_field default_config c)
in_field_rests c = elim (cases_Bool (c == 44)) [
  | inl comma ↦ rw comma (λ h. absurd (false≢true h))
  | inr comma ↦ elim (cases_Bool (c == 13)) [
    | inl return ↦ rw (comma, return) (λ h. refl)
    | inr return ↦ elim (cases_Bool (c == 10)) [
      | inl feed ↦ rw (comma, return, feed) (λ h. refl)
      | inr feed ↦ rw (comma, return, feed) (λ h. absurd (false≢true h))
    ]
  ]
]

start_field_rests : (c : ℕ) → Rests (start_field default_config c)
start_field_rests c = elim (cases_Bool (c == 34)) [
  | inl quote ↦ rw quote (λ h. absurd (false≢true h))
  | inr quote ↦ rw quote (in_field_rests c)
]

start_record_rests : (c : ℕ) → Rests (start_record default_config c)
start_record_rests c = elim (cases_Bool (c == 13)) [
  | inl return ↦ rw return (λ h. absurd (false≢true h))
  | inr return ↦ elim (cases_Bool (c == 10)) [
    | inl feed ↦ rw (return, feed) (λ h. absurd (false≢true h))
    | inr feed ↦ subst Rests (rw (return, feed) refl) (start_field_rests c)
  ]
]

step_rests : (s : State) (c : ℕ) → Rests (step default_config s c)
step_rests st.StartRecord c = start_record_rests c
step_rests st.StartField c = start_field_rests c
step_rests st.InField c = in_field_rests c
step_rests st.InQuoted c = elim (cases_Bool (c == 34)) [
  | inl quote ↦ rw quote (λ h. absurd (false≢true h))
  | inr quote ↦ rw quote (λ h. absurd (false≢true h))
]
step_rests st.InEscape c = λ h. absurd (false≢true h)
step_rests st.AfterQuote c = elim (cases_Bool (c == 34)) [
  | inl quote ↦ rw quote (λ h. absurd (false≢true h))
  | inr quote ↦ rw quote (in_field_rests c)
]
step_rests st.InComment c = elim (cases_Bool (c == 10)) [
  | inl feed ↦ rw feed (λ h. absurd (false≢true h))
  | inr feed ↦ rw feed (λ h. absurd (false≢true h))
]
step_rests st.AfterCr c = elim (cases_Bool (c == 10)) [
  | inl feed ↦ rw feed (λ h. absurd (false≢true h))
  | inr feed ↦ subst Rests (rw feed refl) (start_record_rests c)
]

-- ---- a record takes a byte at least

abbrev Shorter : List ℕ → Read → Type 0
Shorter bytes read = (ends_at_end read.1 ≡ false) × (length read.2 ≤ length bytes - 1)

at_end : (b : Bool) (given read : Read) → ends_at_end given.1 ≡ false → given.2 ≡ []
    → (if b then Some given else None) ≡ Some read → Shorter [] read
at_end true given read state rest e =
    let same : given ≡ read = cc in
    (ap (λ (r : Read). ends_at_end r.1) (sym same) ∙ state, subst (λ (r : Read). length r.2 ≤ 0) same (rw rest (omega arith)))
at_end false given read state rest e = absurd (cc e)

next_shorter : (bytes : List ℕ) (s : State) (fields : List (List ℕ)) (field : List ℕ) (read : Read)
    → next_record default_config s fields field bytes ≡ Some read → Shorter bytes read
unfolding next_record
next_shorter [] s fields field read e = at_end (ends_at_end s) _ read refl refl e
next_shorter (c ∷ rest) s fields field read e = elim (cases_Bool (is_end (step default_config s c).1)) [
  | inl ended ↦
      let same : (fields_after (step default_config s c).1 fields field, (step default_config s c).0, rest) ≡ read = cc (rw ended at e) in
      subst (Shorter (c ∷ rest)) same (step_rests s c ended, omega arith)
  | inr going ↦
      let more = next_shorter rest (step default_config s c).0 _ _ read (rw going at e) in
      (more.0, omega (arith, more.1))
]

-- ---- the records of a text

-- a record that begins where the text may end takes a byte
takes_one : (bytes : List ℕ) (s : State) (read : Read) → ends_at_end s ≡ false
    → next_record default_config s [] [] bytes ≡ Some read → 0 < length bytes
unfolding next_record
takes_one [] s read start e = absurd (cc (rw start at e))
takes_one (c ∷ rest) s read start e = omega arith

from_bound : (bytes : List ℕ) (n : ℕ) (read : Read) (s : State) → Shorter bytes read → ends_at_end s ≡ false → length bytes < suc n
    → next_record default_config s [] [] bytes ≡ Some read → length read.2 < n
from_bound bytes n read s less start short e = omega (arith, less.1, short, takes_one bytes s read start e)

from_reached : (n : ℕ) (s s2 : State) (bytes rest : List ℕ) (found : List (List (List ℕ))) → ends_at_end s ≡ false → length bytes < n
    → Reached default_config s bytes found s2 rest → next_record default_config s2 [] [] rest ≡ None
    → records_from default_config n s bytes ≡ found
unfolding records_from Reached
from_reached zero s s2 bytes rest found start short reached ended = absurd (omega (arith, short))
from_reached (suc n) s s2 bytes rest [] start short reached ended =
    ap (records_next (records_from default_config n))
    (subst (λ (t : State). next_record default_config t [] [] bytes ≡ None) (sym reached.0)
    (subst (λ (b : List ℕ). next_record default_config s2 [] [] b ≡ None) (sym reached.1) ended))
from_reached (suc n) s s2 bytes rest (r ∷ rs) start short reached ended =
    let less = next_shorter bytes s [] [] reached.0 reached.1 in
    let first : records_next (records_from default_config n) (next_record default_config s [] [] bytes)
    ≡ reached.0.0 ∷ records_from default_config n reached.0.1 reached.0.2 =
    ap (records_next (records_from default_config n)) reached.1 in
    first
    ∙ ap (λ (q : List (List ℕ)). q ∷ records_from default_config n reached.0.1 reached.0.2) (sym reached.2)
    ∙ ap (λ (qs : List (List (List ℕ))). r ∷ qs)
    (from_reached n reached.0.1 s2 reached.0.2 rest rs less.0 (from_bound bytes n reached.0 s less start short reached.1) reached.3 ended)

pub records_are : (bytes : List ℕ) (found : List (List (List ℕ))) → AreRecords default_config st.StartRecord bytes found
    → records default_config bytes ≡ found
records_are bytes found h = from_reached (length bytes + 1) st.StartRecord h.0 bytes h.1 found refl (omega arith) h.2 h.3
