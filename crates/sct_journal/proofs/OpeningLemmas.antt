-- Lines that are read while a journal is opened. Proof plumbing.
use Rattle.std.proofs.Common.{ℕ, false, ◌≡◌, ◌+◌, ◌≤◌, ◌++◌, ◌∷◌, [], List, inl, inr, length, min, take, drop, sym, ap, subst, ◌∙◌, arith, length-append, length-take, length-drop, take-append-drop}
use Rattle.std.proofs.lemmas.Bool.{cases_lt, eqb-false, false≢true}
use Rattle.std.proofs.lemmas.List.{append-nil, drop-take, drop_at, take-take, take_all, take_at}
use Rattle.sct_journal.specs.Fronts.{front_in}
use Rattle.sct_journal.specs.Kept.{IsLine, at_rest, gated, gated_line, is_ajar, kept, recorded}
use Rattle.sct_journal.specs.Openings.{IsReadTo}
use Rattle.sct_journal.specs.Parts.{IsFront}
use Rattle.sct_journal.specs.Settled.{EndsKept}
use Rattle.sct_journal.specs.declared.front.Front.TheVariants.{New, Ours}
use Rattle.sct_journal.proofs.LineLemmas.{gated_join, kept_all, kept_are_lines, kept_gated, kept_line, kept_nothing, kept_shut, lines_join}
use Rattle.sct_journal.proofs.FrontLemmas.{front_take, length-gated_line, ours_front, ours_of}
use Rattle.sct_journal.proofs.MakingLemmas.{length-staged, making_gate, making_new, new_short, rest_is}

-- ---- the next lines

module _ (file text : List ℕ) (end : ℕ) (read : IsReadTo file end) (next : IsFront (drop end file) text) where
  after : ℕ
  after = end + length text

  fits : end + length text ≤ length file
  fits = omega (arith, read.within, ap length next.front, length-take (length text) (drop end file), length-drop end file)

  part : drop end (take (end + length text) file) ≡ text
  part = drop-take end (length text) file ∙ sym next.front

  early : take end (take (end + length text) file) ≡ take end file
  early = take-take end (end + length text) file (omega arith)

  joined : take (end + length text) file ≡ gated (kept (take end file) ++ kept text)
  joined =
      sym (take-append-drop end (take (end + length text) file))
      ∙ ap (λ (l : List ℕ). l ++ drop end (take (end + length text) file)) early
      ∙ ap (λ (l : List ℕ). take end file ++ l) part
      ∙ ap (λ (l : List ℕ). l ++ text) read.lines
      ∙ ap (λ (l : List ℕ). gated (kept (take end file)) ++ l) next.lines
      ∙ sym (gated_join (kept (take end file)) (kept text))

  pub kept_more : kept (take (end + length text) file) ≡ kept (take end file) ++ kept text
  kept_more =
      kept_all (take (end + length text) file) (kept (take end file) ++ kept text) joined
      (lines_join (kept (take end file)) (kept text) (kept_are_lines (take end file)) (kept_are_lines text))

  pub read_more : IsReadTo file (end + length text)
  read_more = record {
    within = fits;
    lines = joined ∙ ap (λ (l : List (List ℕ)). gated l) (sym kept_more);
  }

-- no line is kept behind the lines
module _ (file : List ℕ) (end : ℕ) (read : IsReadTo file end) where
  split : file ≡ gated (kept (take end file)) ++ drop end file
  split = sym (take-append-drop end file) ∙ ap (λ (l : List ℕ). l ++ drop end file) read.lines

  pub kept_split : kept file ≡ kept (take end file) ++ kept (drop end file)
  kept_split = ap kept split ∙ kept_gated (kept (take end file)) (drop end file) (kept_are_lines (take end file))

  pub kept_whole : kept (drop end file) ≡ [] → kept file ≡ kept (take end file)
  kept_whole none = kept_split ∙ ap (λ (l : List (List ℕ)). kept (take end file) ++ l) none ∙ append-nil (kept (take end file))

  pub ends_kept : kept (drop end file) ≡ [] → EndsKept file end
  ends_kept none =
      let same : kept file ≡ kept (take end file) = kept_whole none in
      let lines : gated (kept file) ≡ take end file = ap gated same ∙ sym read.lines in
      record {
        place = omega (arith, ap length lines, length-take end file, read.within);
        parts = sym (take-append-drop end file) ∙ ap (λ (l : List ℕ). l ++ drop end file) (sym lines);
        none = none;
      }

-- the same, where the disk was read in between
pub next_more : (file seen text : List ℕ) (end after : ℕ) → seen ≡ file → IsReadTo file end → IsFront (drop end file) text → after ≡ end + length text
    → kept (take after seen) ≡ kept (take end file) ++ kept text
next_more file seen text end after same read next is =
    ap (λ (l : List ℕ). kept (take after l)) same ∙ ap (λ n. kept (take n file)) is ∙ kept_more file text end read next

pub next_read : (file seen text : List ℕ) (end after : ℕ) → seen ≡ file → IsReadTo file end → IsFront (drop end file) text → after ≡ end + length text → IsReadTo seen after
next_read file seen text end after same read next is =
    subst (λ (l : List ℕ). IsReadTo l after) (sym same) (subst (IsReadTo file) (sym is) (read_more file text end read next))

pub next_whole : (file seen : List ℕ) (end : ℕ) → seen ≡ file → IsReadTo file end → kept (drop end file) ≡ [] → kept seen ≡ kept (take end seen)
next_whole file seen end same read none =
    ap kept same ∙ kept_whole file end read none ∙ ap (λ (l : List ℕ). kept (take end l)) (sym same)

-- ---- a part

module _ (bytes left : List ℕ) (count at : ℕ) (is : bytes ≡ take count left) (ends : EndsKept bytes at) where
  front : take at bytes ≡ gated (kept bytes)
  front = ap (λ (l : List ℕ). take at l) ends.parts ∙ take_at (gated (kept bytes)) (drop at bytes) at (sym ends.place)

  within : at ≤ length bytes
  within = omega (arith, ends.place, ap length ends.parts, length-append (gated (kept bytes)) (drop at bytes))

  pub part_front : (text : List ℕ) → text ≡ take at bytes → IsFront left text
  part_front text cut =
      let long : length text ≡ at = omega (arith, ap length cut, length-take at bytes, within) in
      let lines : text ≡ gated (kept bytes) = cut ∙ front in
      let same : kept text ≡ kept bytes = kept_all text (kept bytes) lines (kept_are_lines bytes) in
      record {
        front = cut ∙ ap (λ (l : List ℕ). take at l) is ∙ take-take at count left (omega (arith, within, ap length is, length-take count left)) ∙ ap (λ n. take n left) (sym long);
        lines = lines ∙ ap (λ (l : List (List ℕ)). gated l) (sym same);
      }

pub part_length : (bytes : List ℕ) (at : ℕ) (text : List ℕ) → EndsKept bytes at → text ≡ take at bytes → length text ≡ at
part_length bytes at text ends cut =
    omega (arith, ap length cut, length-take at bytes, ends.place, ap length ends.parts, length-append (gated (kept bytes)) (drop at bytes))

shut_front : (bytes left rest : List ℕ) → is_ajar bytes ≡ false → left ≡ bytes ++ rest → kept left ≡ []
shut_front [] left rest shut is = absurd (false≢true (sym shut))
shut_front (gate ∷ bytes) left rest shut is = ap kept is ∙ kept_shut gate (bytes ++ rest) (eqb-false gate 32 shut)

pub part_shut : (bytes left : List ℕ) (count : ℕ) → bytes ≡ take count left → is_ajar bytes ≡ false → kept left ≡ []
part_shut bytes left count is shut =
    shut_front bytes left (drop count left) shut (sym (take-append-drop count left) ∙ ap (λ (l : List ℕ). l ++ drop count left) (sym is))

-- ---- the header that was read

module _ (header file : List ℕ) (is : file ≡ gated_line header ++ drop (length header + 2) file) (line : IsLine header) where
  first : take (length header + 2) file ≡ gated_line header
  first = ap (λ (l : List ℕ). take (length header + 2) l) is ∙ take_at (gated_line header) (drop (length header + 2) file) (length header + 2) (length-gated_line header)

  pub kept_header : kept (take (length header + 2) file) ≡ header ∷ []
  kept_header =
      ap kept (first ∙ sym (append-nil (gated_line header))) ∙ kept_line header [] line ∙ ap (λ (l : List (List ℕ)). header ∷ l) kept_nothing

  pub header_read : IsReadTo file (length header + 2)
  header_read = record {
    within = omega (arith, ap length is, length-append (gated_line header) (drop (length header + 2) file), length-gated_line header);
    lines = first ∙ sym (append-nil (gated_line header)) ∙ ap (λ (l : List (List ℕ)). gated l) (sym kept_header);
  }

  pub kept_recorded : kept file ≡ header ∷ recorded file
  kept_recorded =
      let parts : kept file ≡ header ∷ kept (drop (length header + 2) file) = ap kept is ∙ kept_line header (drop (length header + 2) file) line in
      parts ∙ ap (λ (l : List (List ℕ)). header ∷ drop 1 l) (sym parts)

-- ---- the first bytes of a file

pub ours_fits : (header bytes : List ℕ) (len : ℕ) → length bytes ≤ len → front_in header bytes ≡ Ours → length header + 2 ≤ len
ours_fits header bytes len short ours =
    let is : bytes ≡ gated_line header ++ drop (length header + 2) bytes = ours_front header bytes (ours_of header bytes ours) in
    omega (arith, short, ap length is, length-append (gated_line header) (drop (length header + 2) bytes), length-gated_line header)

pub first_is : (header file bytes : List ℕ) (count len : ℕ) → len ≡ length file → count ≡ min len (length header + 6) → bytes ≡ take count file → bytes ≡ take (length header + 6) file
first_is header file bytes count len all least is = elim (cases_lt len (length header + 6)) [
  | inl below ↦ is ∙ take_all count file (omega (arith, all, least, below)) ∙ sym (take_all (length header + 6) file (omega (arith, all, below)))
  | inr most ↦ let same : count ≡ length header + 6 = omega (arith, least, most) in is ∙ ap (λ n. take n file) same
]

pub front_is : (header file bytes : List ℕ) → bytes ≡ take (length header + 6) file → front_in header bytes ≡ front_in header file
front_is header file bytes is = ap (front_in header) is ∙ front_take header file (length header + 6) (omega arith)

-- a new file was read to its end
pub new_whole : (header file bytes : List ℕ) → bytes ≡ take (length header + 6) file → front_in header bytes ≡ New → bytes ≡ file
new_whole header file bytes is new =
    is ∙ take_all (length header + 6) file (omega (arith, new_short header file (sym (front_is header file bytes is) ∙ new)))

-- the bytes that were read are the first of the file
pub read_front : (header file seen bytes read : List ℕ) (count len : ℕ) → len ≡ length file → count ≡ min len (length header + 6) → seen ≡ file
    → (0 + count ≤ length seen → bytes ≡ take count seen) → read ≡ bytes → read ≡ take (length header + 6) file
read_front header file seen bytes read count len all least same told is =
    is
    ∙ first_is header file bytes count len all least
    (told (omega (arith, all, least, ap length same)) ∙ ap (λ (l : List ℕ). take count l) same)

pub ours_stand : (header file read new : List ℕ) → read ≡ take (length header + 6) file → front_in header read ≡ Ours → new ≡ file → new ≡ gated_line header ++ drop (length header + 2) new
ours_stand header file read new is ours same =
    subst (λ (l : List ℕ). l ≡ gated_line header ++ drop (length header + 2) l) (sym same) (ours_front header file (ours_of header file (sym (front_is header file read is) ∙ ours)))

pub made_stands : (header new : List ℕ) → new ≡ at_rest (header ∷ []) → new ≡ gated_line header ++ drop (length header + 2) new
made_stands header new made =
    let is : new ≡ gated_line header ++ 9 ∷ [] = made ∙ ap (λ (l : List ℕ). l ++ 9 ∷ []) (append-nil (gated_line header)) in
    is ∙ ap (λ (l : List ℕ). gated_line header ++ l) (sym (ap (λ (l : List ℕ). drop (length header + 2) l) is ∙ drop_at (gated_line header) (9 ∷ []) (length header + 2) (length-gated_line header)))

pub made_length : (header new : List ℕ) → new ≡ at_rest (header ∷ []) → length header + 3 ≡ length new
made_length header new made = omega (arith, ap length made, ap length (rest_is header), length-staged header 32)

pub made_same : (header file new : List ℕ) → IsLine header → front_in header file ≡ New → new ≡ at_rest (header ∷ []) → recorded new ≡ recorded file
made_same header file new line fresh made =
    (making_gate header new 32 line (made ∙ sym (rest_is header))).none ∙ sym (making_new header file line fresh).none
