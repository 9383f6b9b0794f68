-- The end of a file that a crash may have left. Proof plumbing.
use Rattle.std.proofs.Common.{ℕ, ◌≡◌, ◌≢◌, ◌+◌, ◌<◌, ◌≤◌, ◌++◌, ◌∷◌, [], List, true, false, inl, inr, length, max, slice_index, take, drop, refl, sym, ap, subst, ◌∙◌, arith, append_assoc, length-append, length-drop, length-take, take-append-drop, eqb-true}
use Rattle.std.proofs.lemmas.Bool.{cases_eq, eqb-false, false≢true}
use Rattle.std.proofs.lemmas.List.{append-nil, drop-drop, take_at}
use Rattle.sqlite_disk.specs.Disk.{Cut, Torn}
use Rattle.sct_journal.specs.Disks.{is_with}
use Rattle.sct_journal.specs.Kept.{AreLines, behind_gates, ended_lines, ended_lines_from_byte, gated, is_ajar, kept}
use Rattle.sct_journal.specs.Settled.{EndsKept, IsAtRest}
use Rattle.sct_journal.proofs.LineLemmas.{kept_are_lines, kept_closed, kept_gated, kept_nothing, kept_shut, kept_unended}
use Rattle.sct_journal.proofs.DiskLemmas.{cut_front, torn_byte, torn_front}

-- a byte alone is no line
pub one_byte : (bytes : List ℕ) → length bytes ≤ 1 → kept bytes ≡ []
one_byte [] short = kept_nothing
one_byte (byte ∷ []) short = elim (cases_eq byte 32) [
  | inl opens ↦ kept_unended byte [] opens refl
  | inr other ↦ kept_shut byte [] other
]
one_byte (byte ∷ next ∷ bytes) short = absurd (omega arith)

-- if an open gate keeps no line, no line ends behind it
no_lines : (bytes : List ℕ) → kept (32 ∷ bytes) ≡ [] → ended_lines bytes ≡ []
unfolding kept
no_lines bytes none = (elim (ended_lines bytes) as (λ lines. ended_lines bytes ≡ lines → lines ≡ []) [ [] ↦ λ is. refl | line ∷ lines ↦ λ is. absurd (some line lines is) ]) refl
  where
    some : (line : List ℕ) (lines : List (List ℕ)) → ended_lines bytes ≡ line ∷ lines → ⊥
    some line lines is =
        let list : line ∷ behind_gates lines ≡ [] = ap (λ (l : List (List ℕ)). behind_gates (ended_lines_from_byte 32 l)) (sym is) ∙ none in
        absurd (omega (arith, ap length list))

-- so any byte in its place keeps none
any_gate : (byte : ℕ) (bytes : List ℕ) → kept (32 ∷ bytes) ≡ [] → kept (byte ∷ bytes) ≡ []
any_gate byte bytes none = elim (cases_eq byte 32) [
  | inl opens ↦ kept_unended byte bytes opens (no_lines bytes none)
  | inr other ↦ kept_shut byte bytes other
]

module _ (file : List ℕ) (end : ℕ) (ends : EndsKept file end) where
  within : end ≤ length file
  within = omega (arith, ends.place, ap length ends.parts, length-append (gated (kept file)) (drop end file))

  front : take end file ≡ gated (kept file)
  front = ap (λ (l : List ℕ). take end l) ends.parts ∙ take_at (gated (kept file)) (drop end file) end (sym ends.place)

  are : AreLines (kept file)
  are = kept_are_lines file

  -- what keeps no line behind the lines changes nothing
  alike : (c rest : List ℕ) → c ≡ gated (kept file) ++ rest → kept rest ≡ [] → kept c ≡ kept file
  alike c rest is none = ap kept is ∙ kept_gated (kept file) rest are ∙ ap (λ (l : List (List ℕ)). kept file ++ l) none ∙ append-nil (kept file)

  -- ---- the gate is ajar

  torn_rest : (rest : List ℕ) → drop end file ≡ rest → is_ajar rest ≡ true → (c : List ℕ) → Torn end 1 file c → kept c ≡ kept file
  torn_rest [] is ajar c torn =
      let old : length file ≡ end = omega (arith, within, ap length is, length-drop end file) in
      alike c (drop end c) (sym (take-append-drop end c) ∙ ap (λ (l : List ℕ). l ++ drop end c) (torn_front end 1 file c within torn ∙ front))
      (one_byte (drop end c) (omega (arith, old, torn.no_longer, length-drop end c)))
  torn_rest (gate ∷ bytes) is ajar c torn =
      let opens : gate ≡ 32 = eqb-true gate 32 ajar in
      let long : end + 1 ≤ length file = omega (arith, within, ap length is, length-drop end file) in
      let behind : drop (end + 1) file ≡ bytes = sym (drop-drop 1 end file) ∙ ap (λ (l : List ℕ). drop 1 l) is in
      alike c (slice_index c end ∷ bytes)
      (torn_byte end file c long torn ∙ ap (λ (l : List ℕ). l ++ slice_index c end ∷ drop (end + 1) file) front ∙ ap (λ (l : List ℕ). gated (kept file) ++ slice_index c end ∷ l) behind)
      (any_gate (slice_index c end) bytes (ap (λ (g : ℕ). kept (g ∷ bytes)) (sym opens) ∙ ap kept (sym is) ∙ ends.none))

  pub after_shut : (n : ℕ) → n ≡ 1 → is_ajar (drop end file) ≡ true → (c : List ℕ) → Torn end n file c → kept c ≡ kept file
  after_shut n one ajar c torn = torn_rest (drop end file) refl ajar c (subst (λ m. Torn end m file c) one torn)

  shut_is : (new : List ℕ) → new ≡ is_with file end (9 ∷ []) → new ≡ gated (kept file) ++ 9 ∷ drop (end + 1) file
  shut_is new written = written ∙ ap (λ (l : List ℕ). l ++ 9 ∷ drop (end + 1) file) front

  rests : (new : List ℕ) (gate : ℕ) (junk : List ℕ) → gate ≢ 32 → new ≡ gated (kept file) ++ gate ∷ junk → IsAtRest new end × (kept new ≡ kept file)
  rests new gate junk other is =
      let same : kept new ≡ kept file = ap kept is ∙ kept_closed (kept file) gate junk are other in (
        record {
          gate = gate;
          junk = junk;
          is = is ∙ ap (λ (l : List (List ℕ)). gated l ++ gate ∷ junk) (sym same);
          shut = other;
          place = ends.place ∙ ap (λ (l : List (List ℕ)). length (gated l)) (sym same);
        },
        same,
      )

  pub is_shut : (new : List ℕ) → new ≡ is_with file end (9 ∷ []) → IsAtRest new end × (kept new ≡ kept file)
  is_shut new written = rests new 9 (drop (end + 1) file) (λ same. absurd (omega (arith, same))) (shut_is new written)

  pub has_end : end ≤ length file
  has_end = within

  pub shut_length : (new : List ℕ) (len : ℕ) → len ≡ length file → new ≡ is_with file end (9 ∷ []) → length new ≡ max len (end + 1)
  shut_length new len all written =
      omega (arith, all, within, ap length written, length-append (take end file) (9 ∷ drop (end + 1) file), length-take end file, length-drop (end + 1) file)

  pub gate_stands : (len : ℕ) → len ≡ length file → is_ajar (drop end file) ≡ false → len ≡ max len (end + 1)
  gate_stands len all shut = omega (arith, all, some (drop end file) shut, length-drop end file)
    where
      some : (rest : List ℕ) → is_ajar rest ≡ false → 0 < length rest
      some [] told = absurd (false≢true (sym told))
      some (gate ∷ rest) told = omega arith

  -- ---- the gate is shut

  shut_rest : (rest : List ℕ) → drop end file ≡ rest → is_ajar rest ≡ false → IsAtRest file end
  shut_rest [] is ajar = absurd (false≢true (sym ajar))
  shut_rest (gate ∷ junk) is ajar =
      (rests file gate junk (eqb-false gate 32 ajar) (ends.parts ∙ ap (λ (l : List ℕ). gated (kept file) ++ l) is)).0

  pub was_shut : is_ajar (drop end file) ≡ false → IsAtRest file end
  was_shut ajar = shut_rest (drop end file) refl ajar

-- a file at rest that is cut behind its gate is at rest
pub trimmed : (file c : List ℕ) (end : ℕ) → IsAtRest file end → Cut (end + 1) file c → IsAtRest c end × (kept c ≡ kept file)
trimmed file c end rest shorter =
    let lines = kept file in
    let cell : file ≡ (gated lines ++ rest.gate ∷ []) ++ rest.junk = rest.is ∙ sym (append_assoc (gated lines) (rest.gate ∷ []) rest.junk) in
    let place : length (gated lines ++ rest.gate ∷ []) ≡ end + 1 = omega (arith, rest.place, length-append (gated lines) (rest.gate ∷ [])) in
    let long : end + 1 ≤ length file = omega (arith, place, ap length cell, length-append (gated lines ++ rest.gate ∷ []) rest.junk) in
    let front : take (end + 1) c ≡ gated lines ++ rest.gate ∷ [] = cut_front (end + 1) file c long shorter ∙ ap (λ (l : List ℕ). take (end + 1) l) cell ∙ take_at (gated lines ++ rest.gate ∷ []) rest.junk (end + 1) place in
    let is : c ≡ gated lines ++ rest.gate ∷ drop (end + 1) c = sym (take-append-drop (end + 1) c) ∙ ap (λ (l : List ℕ). l ++ drop (end + 1) c) front ∙ append_assoc (gated lines) (rest.gate ∷ []) (drop (end + 1) c) in
    let same : kept c ≡ lines = ap kept is ∙ kept_closed lines rest.gate (drop (end + 1) c) (kept_are_lines file) rest.shut in (
      record {
        gate = rest.gate;
        junk = drop (end + 1) c;
        is = is ∙ ap (λ (l : List (List ℕ)). gated l ++ rest.gate ∷ drop (end + 1) c) (sym same);
        shut = rest.shut;
        place = rest.place ∙ ap (λ (l : List (List ℕ)). length (gated l)) (sym same);
      },
      same,
    )
