-- A batch behind a shut gate, and the gate that opens. Proof plumbing.
use Rattle.std.proofs.Common.{ℕ, Bool, false, ◌==◌, ◌≡◌, ◌≢◌, ◌+◌, ◌<◌, ◌≤◌, ◌++◌, ◌∷◌, [], List, inl, inr, length, slice_index, take, drop, refl, sym, ap, subst, ◌∙◌, arith, append_assoc, length-append, take-append-drop}
use Rattle.std.proofs.lemmas.Bool.{cases_eq, false≢true}
use Rattle.sct_journal.specs.Settled.{IsAtRest}
use Rattle.std.proofs.lemmas.List.{drop-drop, drop_at, take_at}
use Rattle.sqlite_disk.specs.Disk.{Torn}
use Rattle.sct_journal.specs.Disks.{is_with}
use Rattle.sct_journal.specs.Kept.{AreLines, IsBeforeOrAfter, at_rest, gated, gated_line, kept}
use Rattle.sct_journal.proofs.LineLemmas.{gated_join, kept_are_lines, kept_closed, lines_join}
use Rattle.sct_journal.proofs.DiskLemmas.{torn_byte, torn_front}

-- a batch begins with an open gate
pub begins_open : (batch : List (List ℕ)) → 0 < length batch → at_rest batch ≡ 32 ∷ drop 1 (at_rest batch)
begins_open [] some = absurd (omega arith)
begins_open (line ∷ batch) some = refl

pub gate_of : (batch : List (List ℕ)) → 0 < length batch → take 1 (at_rest batch) ≡ 32 ∷ []
gate_of [] some = absurd (omega arith)
gate_of (line ∷ batch) some = refl

pub long : (batch : List (List ℕ)) → 0 < length batch → 1 < length (at_rest batch)
long [] some = absurd (omega arith)
long (line ∷ batch) some = omega (arith, length-append (gated_line line ++ gated batch) (9 ∷ []), length-append (gated_line line) (gated batch))

pub length-at_rest : (lines : List (List ℕ)) → length (at_rest lines) ≡ length (gated lines) + 1
length-at_rest lines = length-append (gated lines) (9 ∷ [])

-- a list that is not empty
pub some_lines : (lines : List (List ℕ)) (empty : Bool) → empty ≡ (length lines == 0) → empty ≡ false → 0 < length lines
some_lines [] empty is filled = absurd (false≢true (sym filled ∙ is))
some_lines (line ∷ lines) empty is filled = omega arith

module _ (lines batch : List (List ℕ)) (are : AreLines lines) (others : AreLines batch) (some : 0 < length batch)
    (end : ℕ) (place : end ≡ length (gated lines)) (gate : ℕ) (shut : gate ≢ 32) (junk : List ℕ) where
  -- what the file was
  abbrev file : List ℕ
  file = gated lines ++ gate ∷ junk

  abbrev body : List ℕ
  body = drop 1 (at_rest batch)

  -- what the file has behind the batch
  abbrev pub left : List ℕ
  left = drop (length body) junk

  -- the file with the batch behind the shut gate
  abbrev pub staged : List ℕ
  staged = gated lines ++ gate ∷ (body ++ left)

  cell : file ≡ (gated lines ++ gate ∷ []) ++ junk
  cell = sym (append_assoc (gated lines) (gate ∷ []) junk)

  end_is : length (gated lines ++ gate ∷ []) ≡ end + 1
  end_is = omega (arith, place, length-append (gated lines) (gate ∷ []))

  fits : end + 1 ≤ length file
  fits = omega (arith, place, length-append (gated lines) (gate ∷ junk))

  front : take (end + 1) file ≡ gated lines ++ gate ∷ []
  front = ap (λ (l : List ℕ). take (end + 1) l) cell ∙ take_at (gated lines ++ gate ∷ []) junk (end + 1) end_is

  -- the shut gate stands in each outcome of the first write
  torn_batch : (n : ℕ) (c : List ℕ) → Torn (end + 1) n file c → kept c ≡ lines
  torn_batch n c torn =
      ap kept (sym (take-append-drop (end + 1) c) ∙ ap (λ (l : List ℕ). l ++ drop (end + 1) c) (torn_front (end + 1) n file c fits torn ∙ front) ∙ append_assoc (gated lines) (gate ∷ []) (drop (end + 1) c))
      ∙ kept_closed lines gate (drop (end + 1) c) are shut

  back : drop (end + 1 + length body) file ≡ left
  back =
      ap (λ (l : List ℕ). drop (end + 1 + length body) l) cell
      ∙ sym (drop-drop (length body) (end + 1) ((gated lines ++ gate ∷ []) ++ junk))
      ∙ ap (λ (l : List ℕ). drop (length body) l) (drop_at (gated lines ++ gate ∷ []) junk (end + 1) end_is)

  is_staged : is_with file (end + 1) body ≡ staged
  is_staged =
      ap (λ (l : List ℕ). l ++ (body ++ drop (end + 1 + length body) file)) front
      ∙ ap (λ (l : List ℕ). (gated lines ++ gate ∷ []) ++ (body ++ l)) back
      ∙ append_assoc (gated lines) (gate ∷ []) (body ++ left)

  staged_front : take end staged ≡ gated lines
  staged_front = take_at (gated lines) (gate ∷ (body ++ left)) end (sym place)

  staged_back : drop (end + 1) staged ≡ body ++ left
  staged_back =
      ap (λ (l : List ℕ). drop (end + 1) l) (sym (append_assoc (gated lines) (gate ∷ []) (body ++ left)))
      ∙ drop_at (gated lines ++ gate ∷ []) (body ++ left) (end + 1) end_is

  has_gate : end + 1 ≤ length staged
  has_gate = omega (arith, place, length-append (gated lines) (gate ∷ (body ++ left)))

  -- lines behind an open gate
  whole : gated lines ++ 32 ∷ (body ++ left) ≡ gated (lines ++ batch) ++ 9 ∷ left
  whole =
      ap (λ (l : List ℕ). gated lines ++ (l ++ left)) (sym (begins_open batch some))
      ∙ ap (λ (l : List ℕ). gated lines ++ l) (append_assoc (gated batch) (9 ∷ []) left)
      ∙ sym (append_assoc (gated lines) (gated batch) (9 ∷ left))
      ∙ ap (λ (l : List ℕ). l ++ 9 ∷ left) (sym (gated_join lines batch))

  is_opened : is_with staged end (32 ∷ []) ≡ gated (lines ++ batch) ++ 9 ∷ left
  is_opened =
      ap (λ (l : List ℕ). l ++ 32 ∷ drop (end + 1) staged) staged_front
      ∙ ap (λ (l : List ℕ). gated lines ++ 32 ∷ l) staged_back
      ∙ whole

  pub kept_whole : kept (gated (lines ++ batch) ++ 9 ∷ left) ≡ lines ++ batch
  kept_whole = kept_closed (lines ++ batch) 9 left (lines_join lines batch are others) (omega arith)

  -- the batch counts in each outcome of the second write, or it does not
  torn_gate : (c : List ℕ) → Torn end 1 staged c → IsBeforeOrAfter lines batch c
  torn_gate c torn =
      let byte = slice_index c end in
      let is : c ≡ gated lines ++ byte ∷ (body ++ left) =
      torn_byte end staged c has_gate torn
      ∙ ap (λ (l : List ℕ). l ++ byte ∷ drop (end + 1) staged) staged_front
      ∙ ap (λ (l : List ℕ). gated lines ++ byte ∷ l) staged_back in
      elim (cases_eq byte 32) [
        | inl opens ↦ inr (ap kept (is ∙ ap (λ (g : ℕ). gated lines ++ g ∷ (body ++ left)) opens ∙ whole) ∙ kept_whole)
        | inr other ↦ inl (ap kept is ∙ kept_closed lines byte (body ++ left) are other)
      ]

  pub end_after : length (gated (lines ++ batch)) + 1 ≡ end + length (at_rest batch)
  end_after = omega (arith, place, ap length (gated_join lines batch), length-append (gated lines) (gated batch), length-at_rest batch)

  -- ---- the same, where the file is only known to be these lists

  pub after_stage : (seen : List ℕ) (n : ℕ) (c : List ℕ) → seen ≡ gated lines ++ gate ∷ junk → Torn (end + 1) n seen c → kept c ≡ lines
  after_stage seen n c is torn = torn_batch n c (subst (λ f. Torn (end + 1) n f c) is torn)

  pub has_place : (seen : List ℕ) → seen ≡ gated lines ++ gate ∷ junk → end + 1 ≤ length seen
  has_place seen is = omega (arith, fits, ap length is)

  pub stage_is : (seen new part : List ℕ) → seen ≡ gated lines ++ gate ∷ junk → part ≡ drop 1 (at_rest batch) → new ≡ is_with seen (end + 1) part → new ≡ staged
  stage_is seen new part is behind written =
      written ∙ ap (λ (b : List ℕ). is_with seen (end + 1) b) behind ∙ ap (λ (f : List ℕ). is_with f (end + 1) body) is ∙ is_staged

  pub has_stage : (seen : List ℕ) → seen ≡ staged → end ≤ length seen
  has_stage seen is = omega (arith, has_gate, ap length is)

  pub after_gate : (seen part c : List ℕ) → seen ≡ staged → part ≡ 32 ∷ [] → Torn end (length part) seen c → IsBeforeOrAfter lines batch c
  after_gate seen part c is one torn = torn_gate c (subst (λ n. Torn end n staged c) (ap length one) (subst (λ f. Torn end (length part) f c) is torn))

  pub gate_is : (seen new part : List ℕ) → seen ≡ staged → part ≡ 32 ∷ [] → new ≡ is_with seen end part → new ≡ gated (lines ++ batch) ++ 9 ∷ left
  gate_is seen new part is one written =
      written ∙ ap (λ (b : List ℕ). is_with seen end b) one ∙ ap (λ (f : List ℕ). is_with f end (32 ∷ [])) is ∙ is_opened

  pub rests : (new : List ℕ) (after : ℕ) → new ≡ gated (lines ++ batch) ++ 9 ∷ left → after + 1 ≡ end + length (at_rest batch) → IsAtRest new after
  rests new after is moved =
      let stands : kept new ≡ lines ++ batch = ap kept is ∙ kept_whole in
      record {
        gate = 9;
        junk = left;
        is = is ∙ ap (λ (l : List (List ℕ)). gated l ++ 9 ∷ left) (sym stands);
        shut = λ same. absurd (omega (arith, same));
        place = omega (arith, moved, end_after, ap (λ (l : List (List ℕ)). length (gated l)) stands);
      }

-- ---- the same for a file at rest

module _ (seen : List ℕ) (end : ℕ) (rest : IsAtRest seen end) (batch : List (List ℕ)) (others : AreLines batch) (some : 0 < length batch) where
  abbrev pub are : AreLines (kept seen)
  are = kept_are_lines seen

  -- the file with the batch behind its shut gate
  pub record HasBatch (new : List ℕ) : Type 0 where
    pub is : new ≡ staged (kept seen) batch are others some end rest.place rest.gate rest.shut rest.junk

  pub stage_left : (n : ℕ) (c : List ℕ) → Torn (end + 1) n seen c → IsBeforeOrAfter (kept seen) batch c
  stage_left n c torn = inl (after_stage (kept seen) batch are others some end rest.place rest.gate rest.shut rest.junk seen n c rest.is torn)

  pub stage_put : (new part : List ℕ) → part ≡ drop 1 (at_rest batch) → (end + 1 ≤ length seen → new ≡ is_with seen (end + 1) part) → HasBatch new
  stage_put new part behind written = record {
    is =
        stage_is (kept seen) batch are others some end rest.place rest.gate rest.shut rest.junk seen new part rest.is behind
        (written (has_place (kept seen) batch are others some end rest.place rest.gate rest.shut rest.junk seen rest.is));
  }

  pub gate_left : (stage part c : List ℕ) → HasBatch stage → part ≡ take 1 (at_rest batch) → Torn end (length part) stage c → IsBeforeOrAfter (kept seen) batch c
  gate_left stage part c has one torn =
      after_gate (kept seen) batch are others some end rest.place rest.gate rest.shut rest.junk stage part c has.is (one ∙ gate_of batch some) torn

  opened : (stage part new : List ℕ) → HasBatch stage → part ≡ take 1 (at_rest batch) → (end ≤ length stage → new ≡ is_with stage end part)
      → new ≡ gated (kept seen ++ batch) ++ 9 ∷ left (kept seen) batch are others some end rest.place rest.gate rest.shut rest.junk
  opened stage part new has one written =
      gate_is (kept seen) batch are others some end rest.place rest.gate rest.shut rest.junk stage new part has.is (one ∙ gate_of batch some)
      (written (has_stage (kept seen) batch are others some end rest.place rest.gate rest.shut rest.junk stage has.is))

  pub gate_keeps : (stage part new : List ℕ) → HasBatch stage → part ≡ take 1 (at_rest batch) → (end ≤ length stage → new ≡ is_with stage end part) → kept new ≡ kept seen ++ batch
  gate_keeps stage part new has one written =
      ap kept (opened stage part new has one written) ∙ kept_whole (kept seen) batch are others some end rest.place rest.gate rest.shut rest.junk

  pub gate_rests : (stage part new : List ℕ) (after : ℕ) → HasBatch stage → part ≡ take 1 (at_rest batch) → (end ≤ length stage → new ≡ is_with stage end part)
      → after + 1 ≡ end + length (at_rest batch) → IsAtRest new after
  gate_rests stage part new after has one written moved =
      rests (kept seen) batch are others some end rest.place rest.gate rest.shut rest.junk new after (opened stage part new has one written) moved
