-- Whose journal a file is. Proof plumbing.
use Rattle.std.proofs.Common.{ℕ, Bool, true, false, ◌≡◌, ◌≢◌, ◌⊎◌, ◌+◌, ◌<◌, ◌≤◌, ◌++◌, ◌∷◌, ◌==◌, [], List, inl, inr, length, take, drop, nat_eq, nat_le, refl, sym, ap, ◌∙◌, arith, append_assoc, length-append, length-take, take-append-drop, eq-eqb, if◌then◌else◌}
use Rattle.std.specs.Prelude.{codes}
use Rattle.std.specs.Bool.{Decides}
use Rattle.std.specs.Cmp.Lexicographic.{pointwise}
use Rattle.std.specs.List.{starts_with}
use Rattle.std.specs.Str.{bytes_eq}
use Rattle.std.proofs.lemmas.Bool.{cases_eq, cases_lt, false≢true, false_from_ne_true}
use Rattle.std.proofs.lemmas.Bool.Decides.{Decides-eqb, Decides-and, Decides-or, leb_tells, nat_tests, same_from_decides}
use Rattle.std.proofs.lemmas.List.{drop_at, take-take, take_all, take_at}
use Rattle.std.proofs.lemmas.Slice.Eq.{bytes_eq-Decides, starts_is}
use Rattle.sct_journal.specs.Fronts.{JournalsAreOurs, front_in, is_new_file, is_other, is_ours, is_shut, is_staged}
use Rattle.sct_journal.specs.Kept.{behind_gates, ended_lines, gated_line, kept}
use Rattle.sct_journal.specs.declared.front.Front.TheVariants.{NoJournal, New, OtherSite, Ours}

pub cancel : (front a b : List ℕ) → front ++ a ≡ front ++ b → a ≡ b
cancel front a b is = sym (drop_at front a (length front) refl) ∙ ap (λ (l : List ℕ). drop (length front) l) is ∙ drop_at front b (length front) refl

pub length-gated_line : (header : List ℕ) → length (gated_line header) ≡ length header + 2
length-gated_line header = omega (arith, length-append (32 ∷ header) (10 ∷ []))

le_is : (a b : ℕ) → Decides (nat_le a b) (a ≤ b)
le_is a b = elim (leb_tells a b) [
  | inl low ↦ ((λ _. low.1), λ _. low.0)
  | inr high ↦ ((λ told. absurd (false≢true (sym high.0 ∙ told))), λ le. absurd (omega (arith, le, high.1)))
]

itself : (b : Bool) → Decides b (b ≡ true)
itself b = ((λ told. told), λ told. told)

-- ---- the header behind an open gate

abbrev HasHeader : List ℕ → List ℕ → Type 0
HasHeader header file = (more : List ℕ) × (file ≡ gated_line header ++ more)

ours_is : (header file : List ℕ) → Decides (is_ours header file) (HasHeader header file)
ours_is header file =
    let both = starts_is Decides-eqb file (gated_line header) (is_ours header file) refl in
    ((λ told. (drop (length (gated_line header)) file, both.0 told)), λ has. both.1 has.0 has.1)

pub ours_front : (header file : List ℕ) → is_ours header file ≡ true → file ≡ gated_line header ++ drop (length header + 2) file
ours_front header file ours =
    (starts_is Decides-eqb file (gated_line header) (is_ours header file) refl).0 ours
    ∙ ap (λ n. gated_line header ++ drop n file) (length-gated_line header)

behind : (header bytes more : List ℕ) (gate : ℕ) → gate ∷ bytes ≡ gated_line header ++ more → bytes ≡ header ++ 10 ∷ more
behind header bytes more gate is =
    let flat : gate ∷ bytes ≡ 32 ∷ (header ++ 10 ∷ more) = is ∙ append_assoc (32 ∷ header) (10 ∷ []) more in ap (λ (l : List ℕ). drop 1 l) flat

-- ---- a prefix that was taken off

pub stripped : (header bytes rest : List ℕ) → pointwise nat_eq (take (length header) bytes) header ≡ true → rest ≡ drop (length header) bytes → bytes ≡ header ++ rest
stripped header bytes rest told is =
    sym (take-append-drop (length header) bytes)
    ∙ ap (λ (l : List ℕ). l ++ drop (length header) bytes) ((bytes_eq-Decides (take (length header) bytes) header).0 told)
    ∙ ap (λ (l : List ℕ). header ++ l) (sym is)

unstripped : (header bytes more : List ℕ) → pointwise nat_eq (take (length header) bytes) header ≡ false → bytes ≡ header ++ more → ⊥
unstripped header bytes more other is =
    let same : take (length header) bytes ≡ header = ap (λ (l : List ℕ). take (length header) l) is ∙ take_at header more (length header) refl in
    false≢true (sym other ∙ (bytes_eq-Decides (take (length header) bytes) header).1 same)

pub not_ours : (header file bytes : List ℕ) (gate : ℕ) → file ≡ gate ∷ bytes → pointwise nat_eq (take (length header) bytes) header ≡ false → false ≡ is_ours header file
not_ours header file bytes gate is other =
    sym (false_from_ne_true (is_ours header file) (λ told.
    let has = (ours_is header file).0 told in
    unstripped header bytes (10 ∷ has.0) other (behind header bytes has.0 gate (sym is ∙ has.1))))

pub ours_by : (header file bytes rest : List ℕ) (gate : ℕ) (ends : Bool) → file ≡ gate ∷ bytes → gate ≡ 32 → bytes ≡ header ++ rest
    → ends ≡ starts_with nat_eq rest (10 ∷ []) → ends ≡ is_ours header file
ours_by header file bytes rest gate ends is opens parts told =
    same_from_decides ends (is_ours header file) (yes, no) (ours_is header file)
  where
    ended : (ends ≡ true → rest ≡ 10 ∷ drop 1 rest) × ((more : List ℕ) → rest ≡ 10 ∷ more → ends ≡ true)
    ended = starts_is Decides-eqb rest (10 ∷ []) ends told

    yes : ends ≡ true → HasHeader header file
    yes so = (
      drop 1 rest,
      is ∙ ap (λ (g : ℕ). g ∷ bytes) opens ∙ ap (λ (l : List ℕ). 32 ∷ l) (parts ∙ ap (λ (l : List ℕ). header ++ l) (ended.0 so)) ∙ sym (append_assoc (32 ∷ header) (10 ∷ []) (drop 1 rest)),
    )

    no : HasHeader header file → ends ≡ true
    no has = ended.1 has.0 (cancel header rest (10 ∷ has.0) (sym parts ∙ behind header bytes has.0 gate (sym is ∙ has.1)))

-- ---- the header and a shut gate behind the first byte

pub staged_at : (header file bytes : List ℕ) (gate : ℕ) → file ≡ gate ∷ bytes → is_staged header file ≡ bytes_eq bytes (header ++ 10 ∷ 9 ∷ [])
staged_at header file bytes gate is = ap (is_staged header) is

pub not_staged : (header file bytes : List ℕ) (gate : ℕ) → file ≡ gate ∷ bytes → pointwise nat_eq (take (length header) bytes) header ≡ false → false ≡ is_staged header file
not_staged header file bytes gate is other =
    sym (false_from_ne_true (is_staged header file) (λ told.
    unstripped header bytes (10 ∷ 9 ∷ []) other ((bytes_eq-Decides bytes (header ++ 10 ∷ 9 ∷ [])).0 (sym (staged_at header file bytes gate is) ∙ told))))

pub staged_by : (header file bytes rest : List ℕ) (gate : ℕ) (ends : Bool) → file ≡ gate ∷ bytes → bytes ≡ header ++ rest
    → ends ≡ pointwise nat_eq rest (10 ∷ 9 ∷ []) → ends ≡ is_staged header file
staged_by header file bytes rest gate ends is parts told =
    same_from_decides ends (bytes_eq bytes (header ++ 10 ∷ 9 ∷ [])) (yes, no) (bytes_eq-Decides bytes (header ++ 10 ∷ 9 ∷ []))
    ∙ sym (staged_at header file bytes gate is)
  where
    yes : ends ≡ true → bytes ≡ header ++ 10 ∷ 9 ∷ []
    yes so = parts ∙ ap (λ (l : List ℕ). header ++ l) ((bytes_eq-Decides rest (10 ∷ 9 ∷ [])).0 (sym told ∙ so))

    no : bytes ≡ header ++ 10 ∷ 9 ∷ [] → ends ≡ true
    no same = told ∙ (bytes_eq-Decides rest (10 ∷ 9 ∷ [])).1 (cancel header rest (10 ∷ 9 ∷ []) (sym parts ∙ same))

-- a gate, and what stands behind it
pub staged_parts : (header file : List ℕ) → is_staged header file ≡ true → (gate : ℕ) × (file ≡ gate ∷ (header ++ 10 ∷ 9 ∷ []))
staged_parts header [] told = absurd (false≢true told)
staged_parts header (gate ∷ bytes) told = (gate, ap (λ (l : List ℕ). gate ∷ l) ((bytes_eq-Decides bytes (header ++ 10 ∷ 9 ∷ [])).0 told))

pub staged_is : (header file : List ℕ) (gate : ℕ) → file ≡ gate ∷ (header ++ 10 ∷ 9 ∷ []) → is_staged header file ≡ true
staged_is header file gate is = staged_at header file (header ++ 10 ∷ 9 ∷ []) gate is ∙ (bytes_eq-Decides (header ++ 10 ∷ 9 ∷ []) (header ++ 10 ∷ 9 ∷ [])).1 refl

-- ---- a file that is new

abbrev pub IsNewBy : List ℕ → List ℕ → Type 0
IsNewBy header file = (length file ≤ length header + 3) × ((length file ≤ 1) ⊎ ((is_shut file ≡ true) ⊎ (is_staged header file ≡ true)))

pub new_is : (header file : List ℕ) → Decides (is_new_file header file) (IsNewBy header file)
new_is header file =
    Decides-and _ _ (le_is (length file) (length header + 3))
    (Decides-or _ _ (le_is (length file) 1) (Decides-or _ _ (itself (is_shut file)) (itself (is_staged header file))))

-- ---- the front

pub front_ours : (header file : List ℕ) → is_ours header file ≡ true → front_in header file ≡ Ours
front_ours header file ours = rw ours refl

pub front_new : (header file : List ℕ) → is_ours header file ≡ false → is_new_file header file ≡ true → front_in header file ≡ New
front_new header file other new = rw (other, new) refl

chosen_ours : (a b c : Bool) → (if a then Ours else (if b then New else (if c then OtherSite else NoJournal))) ≡ Ours → a ≡ true
chosen_ours true b c is = refl
chosen_ours false true c is = cc
chosen_ours false false true is = cc
chosen_ours false false false is = cc

chosen_new : (a b c : Bool) → (if a then Ours else (if b then New else (if c then OtherSite else NoJournal))) ≡ New → (a ≡ false) × (b ≡ true)
chosen_new true b c is = cc
chosen_new false true c is = (refl, refl)
chosen_new false false true is = cc
chosen_new false false false is = cc

pub ours_of : (header file : List ℕ) → front_in header file ≡ Ours → is_ours header file ≡ true
ours_of header file is = chosen_ours (is_ours header file) (is_new_file header file) (is_other file) is

pub new_of : (header file : List ℕ) → front_in header file ≡ New → (is_ours header file ≡ false) × (is_new_file header file ≡ true)
new_of header file is = chosen_new (is_ours header file) (is_new_file header file) (is_other file) is

-- ---- the first bytes tell the front

starts_early : (file start : List ℕ) (n : ℕ) → length start ≤ n → starts_with nat_eq (take n file) start ≡ starts_with nat_eq file start
starts_early file start n long = ap (λ (l : List ℕ). pointwise nat_eq start l) (take-take (length start) n file long)

not_new : (header file : List ℕ) → length header + 3 < length file → is_new_file header file ≡ false
not_new header file long = false_from_ne_true (is_new_file header file) (λ told. let short : length file ≤ length header + 3 = ((new_is header file).0 told).0 in omega (arith, short, long))

pub front_take : (header file : List ℕ) (n : ℕ) → length header + 6 ≤ n → front_in header (take n file) ≡ front_in header file
front_take header file n most = elim (cases_lt n (length file)) [
  | inr all ↦ ap (front_in header) (take_all n file all)
  | inl longer ↦
      let ours : is_ours header (take n file) ≡ is_ours header file = starts_early file (gated_line header) n (omega (arith, length-gated_line header, most)) in
      let other : is_other (take n file) ≡ is_other file = starts_early file (codes " site ") n (omega (arith, most)) in
      let early : is_new_file header (take n file) ≡ false = not_new header (take n file) (omega (arith, length-take n file, longer, most)) in
      let late : is_new_file header file ≡ false = not_new header file (omega (arith, longer, most)) in
      rw (ours, other, early, late) refl
]

-- ---- a kept first line stands at the front of the file

abbrev StandsIn : List ℕ → List ℕ → Type 0
StandsIn line text = (more : List ℕ) × (text ≡ line ++ 10 ∷ more)

ended_now : (byte : ℕ) (bytes line : List ℕ) (lines : List (List ℕ)) → byte ≡ 10 → ended_lines (byte ∷ bytes) ≡ line ∷ lines → StandsIn line (byte ∷ bytes)
ended_now byte bytes line lines feed is =
    let told : (byte == 10) ≡ true = eq-eqb byte 10 feed in
    let first : ended_lines (byte ∷ bytes) ≡ [] ∷ ended_lines bytes = rw told refl in
    let empty : [] ∷ ended_lines bytes ≡ line ∷ lines = sym first ∙ is in
    let none : line ≡ [] = cc in
    (bytes, rw none (ap (λ (b : ℕ). b ∷ bytes) feed))

ended_late : (byte : ℕ) (bytes line : List ℕ) (lines behind : List (List ℕ)) → ended_lines bytes ≡ behind → byte ≢ 10
    → ((l : List ℕ) (ls : List (List ℕ)) → ended_lines bytes ≡ l ∷ ls → StandsIn l bytes)
    → ended_lines (byte ∷ bytes) ≡ line ∷ lines → StandsIn line (byte ∷ bytes)
ended_late byte bytes line lines [] same other on is =
    let told : (byte == 10) ≡ false = grind (arith, nat_tests) in
    let first : ended_lines (byte ∷ bytes) ≡ [] = rw (told, same) refl in
    let none : [] ≡ line ∷ lines = sym first ∙ is in
    absurd (omega (arith, ap length none))
ended_late byte bytes line lines (l ∷ ls) same other on is =
    let told : (byte == 10) ≡ false = grind (arith, nat_tests) in
    let first : ended_lines (byte ∷ bytes) ≡ (byte ∷ l) ∷ ls = rw (told, same) refl in
    let both : (byte ∷ l) ∷ ls ≡ line ∷ lines = sym first ∙ is in
    let one : line ≡ byte ∷ l = cc in
    let stands = on l ls same in
    (stands.0, rw one (ap (λ (b : List ℕ). byte ∷ b) stands.1))

ended_front : (text line : List ℕ) (lines : List (List ℕ)) → ended_lines text ≡ line ∷ lines → StandsIn line text
ended_front [] line lines is = absurd (omega (arith, ap length is))
ended_front (byte ∷ bytes) line lines is = elim (cases_eq byte 10) [
  | inl feed ↦ ended_now byte bytes line lines feed is
  | inr other ↦ ended_late byte bytes line lines (ended_lines bytes) refl other (λ l ls same. ended_front bytes l ls same) is
]

-- a kept first line of lines is the first line without its gate
kept_first : (lines : List (List ℕ)) (line : List ℕ) (rest : List (List ℕ)) → behind_gates lines ≡ line ∷ rest → (behind : List (List ℕ)) × (lines ≡ (32 ∷ line) ∷ behind)
kept_first [] line rest is = absurd (omega (arith, ap length is))
kept_first ([] ∷ lines) line rest is = absurd (omega (arith, ap length is))
kept_first ((gate ∷ first) ∷ lines) line rest is = elim (cases_eq gate 32) [
  | inl opens ↦
      let told : (gate == 32) ≡ true = eq-eqb gate 32 opens in
      let kept_is : behind_gates ((gate ∷ first) ∷ lines) ≡ first ∷ behind_gates lines = rw told refl in
      let both : first ∷ behind_gates lines ≡ line ∷ rest = sym kept_is ∙ is in
      let one : first ≡ line = cc in
      (lines, cc)
  | inr shut ↦
      let told : (gate == 32) ≡ false = grind (arith, nat_tests) in
      let kept_is : behind_gates ((gate ∷ first) ∷ lines) ≡ [] = rw told refl in
      let none : [] ≡ line ∷ rest = sym kept_is ∙ is in
      absurd (omega (arith, ap length none))
]

first_stands : (file header : List ℕ) (rest : List (List ℕ)) → kept file ≡ header ∷ rest → HasHeader header file
unfolding kept
first_stands file header rest is =
    let first = kept_first (ended_lines file) header rest is in
    let stands = ended_front file (32 ∷ header) first.0 first.1 in
    (stands.0, stands.1 ∙ sym (append_assoc (32 ∷ header) (10 ∷ []) stands.0))

pub journals_are_ours : JournalsAreOurs
journals_are_ours header file rest is = front_ours header file ((ours_is header file).1 (first_stands file header rest is))
