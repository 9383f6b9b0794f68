-- A journal that is being made. Proof plumbing.
use Rattle.std.proofs.Common.{ℕ, true, false, ◌≡◌, ◌≢◌, ◌⊎◌, ◌+◌, ◌≤◌, ◌++◌, ◌∷◌, [], List, inl, inr, length, max, slice_index, take, drop, refl, sym, ap, subst, ◌∙◌, arith, append_assoc, length-append, take-append-drop, eqb-true}
use Rattle.std.proofs.lemmas.Bool.{cases_eq, false≢true, false_from_ne_true}
use Rattle.std.proofs.lemmas.List.{append-nil, drop_all}
use Rattle.sqlite_disk.specs.Disk.{Torn}
use Rattle.sct_journal.specs.Disks.{is_with}
use Rattle.sct_journal.specs.Fronts.{IsLeft, IsMaking, front_in, is_ours, is_shut, is_staged}
use Rattle.sct_journal.specs.Kept.{IsLine, at_rest, gated_line, kept, recorded}
use Rattle.sct_journal.specs.declared.front.Front.TheVariants.{New, Ours}
use Rattle.sct_journal.proofs.LineLemmas.{kept_line, kept_shut}
use Rattle.sct_journal.proofs.RecoverLemmas.{one_byte}
use Rattle.sct_journal.proofs.DiskLemmas.{torn_byte, torn_front}
use Rattle.sct_journal.proofs.FrontLemmas.{front_new, journals_are_ours, length-gated_line, new_is, new_of, ours_front, staged_is, staged_parts}

-- ---- what keeps nothing

nothing : (file : List ℕ) → kept file ≡ [] → recorded file ≡ []
nothing file none = ap (λ (l : List (List ℕ)). drop 1 l) none

shut_first : (file : List ℕ) → is_shut file ≡ true → (bytes : List ℕ) × (file ≡ 9 ∷ bytes)
shut_first [] told = absurd (false≢true told)
shut_first (gate ∷ bytes) told = let tab : gate ≡ 9 = eqb-true gate 9 told in (bytes, ap (λ (g : ℕ). g ∷ bytes) tab)

-- a file that begins with another gate is no journal
not_open : (header file bytes : List ℕ) (gate : ℕ) → file ≡ gate ∷ bytes → gate ≢ 32 → is_ours header file ≡ false
not_open header file bytes gate is other = false_from_ne_true (is_ours header file) (λ told.
    let same : gate ∷ bytes ≡ 32 ∷ (header ++ 10 ∷ drop (length header + 2) file) = sym is ∙ ours_front header file told ∙ append_assoc (32 ∷ header) (10 ∷ []) (drop (length header + 2) file) in
    let first : gate ≡ 32 = cc in
    other first)

too_short : (header file : List ℕ) → length file ≤ 1 → is_ours header file ≡ false
too_short header file tiny = false_from_ne_true (is_ours header file) (λ told.
    let long : length file ≡ length (gated_line header ++ drop (length header + 2) file) = ap length (ours_front header file told) in
    omega (arith, tiny, long, length-append (gated_line header) (drop (length header + 2) file), length-gated_line header))

pub making_tiny : (header file : List ℕ) → length file ≤ 1 → IsMaking header file
making_tiny header file tiny = record {
  begun = inr (front_new header file (too_short header file tiny) ((new_is header file).1 (omega (arith, tiny), inl tiny)));
  none = nothing file (one_byte file tiny);
}

tab_other : (gate : ℕ) → gate ≡ 9 → gate ≢ 32
tab_other gate is same = omega (arith, is, same)

pub making_shut : (header file : List ℕ) → is_shut file ≡ true → length file ≤ length header + 3 → IsMaking header file
making_shut header file told short =
    let tab = shut_first file told in
    let other : 9 ≢ 32 = tab_other 9 refl in
    record {
      begun = inr (front_new header file (not_open header file tab.0 9 tab.1 other) ((new_is header file).1 (short, inr (inl told))));
      none = nothing file (ap kept tab.1 ∙ kept_shut 9 tab.0 other);
    }

-- ---- the header behind any gate

flat : (header : List ℕ) → 32 ∷ (header ++ 10 ∷ 9 ∷ []) ≡ gated_line header ++ 9 ∷ []
flat header = sym (append_assoc (32 ∷ header) (10 ∷ []) (9 ∷ []))

pub rest_is : (header : List ℕ) → 32 ∷ (header ++ 10 ∷ 9 ∷ []) ≡ at_rest (header ∷ [])
rest_is header = flat header ∙ ap (λ (l : List ℕ). l ++ 9 ∷ []) (sym (append-nil (gated_line header)))

pub length-staged : (header : List ℕ) (gate : ℕ) → length (gate ∷ (header ++ 10 ∷ 9 ∷ [])) ≡ length header + 3
length-staged header gate = omega (arith, length-append header (10 ∷ 9 ∷ []))

kept_header : (header file : List ℕ) → file ≡ 32 ∷ (header ++ 10 ∷ 9 ∷ []) → IsLine header → kept file ≡ header ∷ []
kept_header header file is line =
    ap kept (is ∙ flat header) ∙ kept_line header (9 ∷ []) line ∙ ap (λ (l : List (List ℕ)). header ∷ l) (kept_shut 9 [] (tab_other 9 refl))

begun_ours : (header file : List ℕ) → file ≡ 32 ∷ (header ++ 10 ∷ 9 ∷ []) → IsLine header → front_in header file ≡ Ours
begun_ours header file is line = journals_are_ours header file [] (kept_header header file is line)

pub making_gate : (header file : List ℕ) (gate : ℕ) → IsLine header → file ≡ gate ∷ (header ++ 10 ∷ 9 ∷ []) → IsMaking header file
making_gate header file gate line is = elim (cases_eq gate 32) [
  | inl opens ↦
      let open_is : file ≡ 32 ∷ (header ++ 10 ∷ 9 ∷ []) = is ∙ ap (λ (g : ℕ). g ∷ (header ++ 10 ∷ 9 ∷ [])) opens in
      record {
        begun = inl (begun_ours header file open_is line);
        none = ap (λ (l : List (List ℕ)). drop 1 l) (kept_header header file open_is line);
      }
  | inr other ↦
      let short : length file ≤ length header + 3 = omega (arith, ap length is, length-staged header gate) in
      record {
        begun = inr (front_new header file (not_open header file (header ++ 10 ∷ 9 ∷ []) gate is other) ((new_is header file).1 (short, inr (inr (staged_is header file gate is)))));
        none = nothing file (ap kept is ∙ kept_shut gate (header ++ 10 ∷ 9 ∷ []) other);
      }
]

pub making_staged : (header file : List ℕ) → IsLine header → is_staged header file ≡ true → IsMaking header file
making_staged header file line told = let parts = staged_parts header file told in making_gate header file parts.0 line parts.1

-- a file that is new
pub making_new : (header file : List ℕ) → IsLine header → front_in header file ≡ New → IsMaking header file
making_new header file line new =
    let by = (new_is header file).0 (new_of header file new).1 in
    elim by.1 [
      | inl tiny ↦ making_tiny header file tiny
      | inr (inl told) ↦ making_shut header file told by.0
      | inr (inr told) ↦ making_staged header file line told
    ]

-- ---- the writes

pub shut_or_tiny : (header file : List ℕ) → front_in header file ≡ New → is_staged header file ≡ false → (is_shut file ≡ true) ⊎ (length file ≤ 1)
shut_or_tiny header file new other =
    let by = (new_is header file).0 (new_of header file new).1 in
    elim by.1 [
      | inl tiny ↦ inr tiny
      | inr (inl told) ↦ inl told
      | inr (inr told) ↦ absurd (false≢true (sym other ∙ told))
    ]

pub new_short : (header file : List ℕ) → front_in header file ≡ New → length file ≤ length header + 3
new_short header file new = ((new_is header file).0 (new_of header file new).1).0

pub after_first : (header file c : List ℕ) → IsLine header → front_in header file ≡ New → (c ≡ file) ⊎ (length c ≤ 1) → IsMaking header c
after_first header file c line new (inl same) = subst (IsMaking header) (sym same) (making_new header file line new)
after_first header file c line new (inr tiny) = making_tiny header c tiny

pub has_first : (seen : List ℕ) → is_shut seen ≡ true → 1 ≤ length seen
has_first seen told = let tab = shut_first seen told in omega (arith, ap length tab.1)

pub after_stage : (header file seen text c : List ℕ) → front_in header file ≡ New → text ≡ header ++ 10 ∷ 9 ∷ [] → is_shut seen ≡ true → length seen ≤ max (length file) 1
    → Torn 1 (length text) seen c → IsMaking header c
after_stage header file seen text c new is told short torn =
    let tab = shut_first seen told in
    let some : 1 ≤ length seen = omega (arith, ap length tab.1) in
    let front : take 1 c ≡ 9 ∷ [] = torn_front 1 (length text) seen c some torn ∙ ap (λ (l : List ℕ). take 1 l) tab.1 in
    let is_c : c ≡ 9 ∷ drop 1 c = sym (take-append-drop 1 c) ∙ ap (λ (l : List ℕ). l ++ drop 1 c) front in
    let shut : is_shut c ≡ true = ap is_shut is_c in
    making_shut header c shut (omega (arith, torn.no_longer, short, new_short header file new, ap length is, length-append header (10 ∷ 9 ∷ [])))

pub stage_is : (header file seen text new : List ℕ) → front_in header file ≡ New → text ≡ header ++ 10 ∷ 9 ∷ [] → is_shut seen ≡ true → length seen ≤ max (length file) 1
    → new ≡ is_with seen 1 text → is_staged header new ≡ true
stage_is header file seen text new fresh is told short written =
    let tab = shut_first seen told in
    let front : take 1 seen ≡ 9 ∷ [] = ap (λ (l : List ℕ). take 1 l) tab.1 in
    let none : drop (1 + length text) seen ≡ [] = drop_all (1 + length text) seen (omega (arith, short, new_short header file fresh, ap length is, length-append header (10 ∷ 9 ∷ []))) in
    staged_is header new 9
    (written ∙ ap (λ (l : List ℕ). l ++ (text ++ drop (1 + length text) seen)) front ∙ ap (λ (l : List ℕ). 9 ∷ (text ++ l)) none ∙ ap (λ (l : List ℕ). 9 ∷ l) (append-nil text ∙ is))

pub after_gate : (header seen c : List ℕ) → IsLine header → is_staged header seen ≡ true → Torn 0 1 seen c → IsMaking header c
after_gate header seen c line told torn =
    let parts = staged_parts header seen told in
    let some : 0 + 1 ≤ length seen = omega (arith, ap length parts.1) in
    making_gate header c (slice_index c 0) line (torn_byte 0 seen c some torn ∙ ap (λ (l : List ℕ). slice_index c 0 ∷ drop 1 l) parts.1)

pub has_start : (seen : List ℕ) → 0 ≤ length seen
has_start seen = omega arith

pub gate_is : (header seen new : List ℕ) → is_staged header seen ≡ true → new ≡ is_with seen 0 (32 ∷ []) → new ≡ at_rest (header ∷ [])
gate_is header seen new told written =
    let parts = staged_parts header seen told in
    written ∙ ap (λ (l : List ℕ). 32 ∷ drop 1 l) parts.1 ∙ rest_is header

-- ---- a file that was told by its first bytes

pub left_same : (header file : List ℕ) → IsLeft header file file
left_same header file = record { same = refl; begun = λ begun. begun }

pub left_making : (header file c : List ℕ) → IsLine header → front_in header file ≡ New → IsMaking header c → IsLeft header file c
left_making header file c line new making = record {
  same = making.none ∙ sym (making_new header file line new).none;
  begun = λ _. making.begun;
}
