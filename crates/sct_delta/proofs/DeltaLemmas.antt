-- A text is read as a delta exactly where one of the two forms makes it a form of it. Proof plumbing.
use Rattle.std.proofs.Common.{ℕ, ◌≡◌, ◌≢◌, ◌∷◌, inl, inr, [], List, true, false, cond, Some, None, Result, Ok, Err, refl}
use Rattle.std.specs.Prelude.{nat_eq}
use Rattle.std.specs.Cmp.Lexicographic.{pointwise}
use Rattle.sct_delta.specs.declared.fault.DeltaFault.{DeltaFault}
use Rattle.sct_delta.specs.declared.fault.DeltaFault.TheVariants as fault
use Rattle.sct_delta.specs.Entries.{Placed, IsDelta}
use Rattle.sct_delta.specs.TextLines.{Line, lines_by_end}
use Rattle.sct_delta.specs.EntryText.{entries_head, entries_in}
use Rattle.sct_delta.specs.GroupText.{groups_head, groups_in}
use Rattle.sct_delta.specs.DeltaText.{IsDeltaText, entries_behind, delta_of_lines, delta_in, wrong_line, first_wrong_line, Reads}
use Rattle.sct_delta.proofs.TextLemmas.{same_texts}
use Rattle.sct_delta.proofs.FormLemmas.{entry_form, entries_shape, entries_from_form}
use Rattle.sct_delta.proofs.GroupLemmas.{group_form, groups_shape, groups_from_form}

-- what follows of the lines behind a head line follows of those of each form
by_form : (P : Type 0) (head : List ℕ) (lines : List Line) (entries : List Placed) → entries_behind head lines ≡ Ok entries
    → (head ≡ entries_head → entries_in 2 0 0 [] lines ≡ Ok entries → P) → (head ≡ groups_head → groups_in 2 0 1 0 [] lines ≡ Ok entries → P) → P
by_form P head lines entries read one two =
    (elim (pointwise nat_eq head entries_head) as (λ b. pointwise nat_eq head entries_head ≡ b → cond b (entries_in 2 0 0 [] lines) (cond (pointwise nat_eq head groups_head) (groups_in 2 0 1 0 [] lines) (Err 1)) ≡ Ok entries → P) [
      | true ↦ λ is e. one (same_texts head entries_head is) e
      | false ↦ λ other. (elim (pointwise nat_eq head groups_head) as (λ b. pointwise nat_eq head groups_head ≡ b → cond b (groups_in 2 0 1 0 [] lines) (Err 1) ≡ Ok entries → P) [
        | true ↦ λ is e. two (same_texts head groups_head is) e
        | false ↦ λ other e. cc
      ]) refl
    ]) refl read

form_of_lines : (bytes : List ℕ) (lines : List Line) (entries : List Placed) → lines_by_end bytes ≡ lines → delta_of_lines lines ≡ Ok entries → IsDeltaText bytes entries
form_of_lines bytes [] entries are read = cc
form_of_lines bytes (None ∷ lines) entries are read = cc
form_of_lines bytes (Some head ∷ lines) entries are read =
    by_form (IsDeltaText bytes entries) head lines entries read
    (λ is e. inl (entry_form bytes head lines entries are is e)) (λ is e. inr (group_form bytes head lines entries are is e))

pub form_from_read : (bytes : List ℕ) (entries : List Placed) → delta_in bytes ≡ Ok entries → IsDeltaText bytes entries
unfolding delta_in
form_from_read bytes entries read = form_of_lines bytes (lines_by_end bytes) entries refl read

pub shape_from_read : (head : List ℕ) (lines : List Line) (entries : List Placed) → entries_behind head lines ≡ Ok entries → IsDelta entries
shape_from_read head lines entries read =
    by_form (IsDelta entries) head lines entries read (λ is e. entries_shape lines entries e) (λ is e. groups_shape lines entries e)

pub read_from_form : (bytes : List ℕ) (entries : List Placed) → IsDeltaText bytes entries → delta_in bytes ≡ Ok entries
unfolding delta_in
read_from_form bytes entries (inl form) = rw form.text (entries_from_form bytes entries form)
read_from_form bytes entries (inr form) = rw form.text (groups_from_form bytes entries form)

pub one_delta : (bytes : List ℕ) (left right : List Placed) → IsDeltaText bytes left → IsDeltaText bytes right → left ≡ right
one_delta bytes left right l r =
    let there : delta_in bytes ≡ Ok left = read_from_form bytes left l in
    let also : delta_in bytes ≡ Ok right = read_from_form bytes right r in
    cc

-- texts of one delta are read alike, whatever their forms
pub read_alike : (some other : List ℕ) (entries : List Placed) → IsDeltaText some entries → IsDeltaText other entries → delta_in some ≡ delta_in other
read_alike some other entries one two =
    let there : delta_in some ≡ Ok entries = read_from_form some entries one in
    let also : delta_in other ≡ Ok entries = read_from_form other entries two in
    cc

wrong_of : (read : Result (List Placed) ℕ) (line : ℕ) (entries : List Placed) → wrong_line read ≡ Some line → read ≡ Ok entries → ⊥
wrong_of (Ok es) line entries wrong read = cc
wrong_of (Err k) line entries wrong read = cc

pub no_form : (bytes : List ℕ) (line : ℕ) (entries : List Placed) → first_wrong_line bytes ≡ Some line → IsDeltaText bytes entries → ⊥
no_form bytes line entries wrong form = wrong_of (delta_in bytes) line entries wrong (read_from_form bytes entries form)

right_of : (bytes : List ℕ) (read : Result (List Placed) ℕ) → delta_in bytes ≡ read → wrong_line read ≡ None → (entries : List Placed) × IsDeltaText bytes entries
right_of bytes (Ok entries) is none = (entries, form_from_read bytes entries is)
right_of bytes (Err line) is none = cc

pub some_form : (bytes : List ℕ) → first_wrong_line bytes ≡ None → (entries : List Placed) × IsDeltaText bytes entries
some_form bytes none = right_of bytes (delta_in bytes) refl none

pub refused_at : (bytes : List ℕ) (line : ℕ) → delta_in bytes ≡ Err line → (entries : List Placed) → IsDeltaText bytes entries → ⊥
refused_at bytes line wrong entries form =
    let right : delta_in bytes ≡ Ok entries = read_from_form bytes entries form in
    cc

-- a refusal that names a line says that the text is a form of no delta
pub read_refused : (bytes : List ℕ) (refusal : DeltaFault) → Reads (Err refusal) (delta_in bytes) → refusal ≢ fault.Memory → (entries : List Placed) → IsDeltaText bytes entries → ⊥
read_refused bytes fault.Memory reads other entries form = other refl
read_refused bytes (fault.BadDelta line) reads other entries form = refused_at bytes line reads entries form
read_refused bytes fault.BadSite reads other entries form = reads
read_refused bytes (fault.OwnAhead n) reads other entries form = reads
read_refused bytes (fault.Fork origin n) reads other entries form = reads
read_refused bytes (fault.Gap origin have first) reads other entries form = reads
