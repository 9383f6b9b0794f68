-- A text of form 1 is read as a delta exactly where it is a form of it. Proof plumbing.
use Rattle.std.proofs.Common.{ℕ, ◌≡◌, ◌+◌, ◌++◌, ◌∷◌, [], List, Bool, true, false, cond, Some, None, Result, Ok, Err, length, refl, sym, ap, ◌∙◌, append_assoc, subst, arith}
use Rattle.std.specs.Prelude.{nat_eq}
use Rattle.std.specs.Cmp.Lexicographic.{pointwise}
use Rattle.std.specs.Result.{result_ok}
use Rattle.std.proofs.lemmas.Bool.{and_parts}
use Rattle.std.proofs.lemmas.Bool.Decides.{nat_tests}
use Rattle.std.proofs.lemmas.List.{append-nil}
use Rattle.sct_message.specs.declared.draft.Draft.{Draft}
use Rattle.sct_json.specs.declared.faults.JsonFault.{JsonFault}
use Rattle.sct_json.specs.Reading.{message_in}
use Rattle.sct_delta.specs.Sites.{is_site, is_site_of_form_1}
use Rattle.sct_delta.specs.Entries.{Placed, IsDelta}
use Rattle.sct_delta.specs.Shapes.{may_be_next, first_break, are_of_sites, are_of_form_1}
use Rattle.sct_delta.specs.TextLines.{Line, lines_by_end, lines_as, is_end_line, end_line, entries_ended}
use Rattle.sct_delta.specs.EntryText.{IsEntryText, EntryFields, fields_in, entry_of, entry_in, entries_head, TellsEntry, TellEntries, entries_on, entries_in}
use Rattle.sct_delta.proofs.TextLemmas.{HasFields, fields_read, fields_written, mapped_from, then_from, same_texts, texts_same}
use Rattle.sct_delta.proofs.ShapeLemmas.{delta_from_unbroken, delta_unbroken, unbroken}

-- ---- one entry

-- an entry line, by the entry
pub record IsEntryLine (line : List ℕ) (entry : Placed) : Type 0 where
  pub tells : TellsEntry line entry
  pub site : is_site_of_form_1 entry.origin ≡ true

pub message_of_ok : (read : Result Draft JsonFault) (message : Draft) → result_ok read ≡ Some message → read ≡ Ok message
message_of_ok (Ok m) message h = let same : m ≡ message = cc in ap (λ (d : Draft). Ok d) same
message_of_ok (Err e) message h = cc

pub entry_told : (line : List ℕ) (entry : Placed) → entry_in line ≡ Some entry → IsEntryLine line entry
unfolding entry_in
entry_told line entry read =
    let parts : (fields : EntryFields) × (fields_in line ≡ Some fields) × (entry_of fields ≡ Some entry) =
    then_from {A = EntryFields} {B = Placed} entry_of (fields_in line) entry read in
    let found : (message : Draft) × (result_ok (message_in parts.0.2) ≡ Some message) × (record { origin = parts.0.0; n = parts.0.1; message = message } ≡ entry) =
    mapped_from {B = Placed} (λ message. record { origin = parts.0.0; n = parts.0.1; message = message }) (result_ok (message_in parts.0.2)) entry parts.2 in
    let shape : HasFields line parts.0.0 parts.0.1 parts.0.2 = fields_written line parts.0.2 parts.0.0 parts.0.1 parts.1 in
    let is : IsEntryLine line (record { origin = parts.0.0; n = parts.0.1; message = found.0 }) = record {
      tells = record { json = parts.0.2; fields = shape.spelled; number = shape.number; message = message_of_ok _ found.0 found.1 };
      site = shape.site;
    } in
    rw (← found.2) is

pub entry_read : (line : List ℕ) (entry : Placed) → IsEntryLine line entry → entry_in line ≡ Some entry
unfolding entry_in
entry_read line entry is =
    let fields : fields_in line ≡ Some (entry.origin, entry.n, is.tells.json) =
    fields_read line is.tells.json entry.origin entry.n (record { spelled = is.tells.fields; site = is.site; number = is.tells.number }) in
    rw (fields, is.tells.message) refl

pub no_entry_at_end : (count : ℕ) → entry_in (end_line count) ≡ None
unfolding entry_in fields_in
no_entry_at_end count = refl

-- ---- from what is read to the form

-- Lines that are read on as these entries, behind those before them.
pub record ReadOn (origin n : ℕ) (before : List Placed) (lines : List Line) (entries : List Placed) : Type 0 where
  pub more : List Placed
  pub told : List (List ℕ)
  pub is : entries ≡ before ++ more
  pub text : lines ≡ lines_as (told ++ end_line (length entries) ∷ [])
  pub tell : TellEntries told more
  pub order : (place : ℕ) → first_break place origin n more ≡ None
  pub sites : are_of_form_1 more ≡ true

pub ended_as : (b : Bool) (place : ℕ) (some entries : List Placed) → cond b (Ok some) (Err place) ≡ Ok entries → (b ≡ true) × (some ≡ entries)
ended_as true place some entries h = (refl, cc)
ended_as false place some entries h = cc

pub never_ended : (b : Bool) (early late : ℕ) (entries : List Placed) → cond b (Err late) (Err early) ≡ Ok entries → ⊥
never_ended true early late entries h = cc
never_ended false early late entries h = cc

pub gone_on : (b : Bool) (place : ℕ) (read : Result (List Placed) ℕ) (entries : List Placed) → cond b read (Err place) ≡ Ok entries → (b ≡ true) × (read ≡ Ok entries)
gone_on true place read entries h = (refl, h)
gone_on false place read entries h = cc

at_end : (place origin n : ℕ) (before : List Placed) (line : List ℕ) (lines : List Line) (entries : List Placed) → entries_ended place before line lines ≡ Ok entries → ReadOn origin n before (Some line ∷ lines) entries
unfolding is_end_line
at_end place origin n before line [] entries read =
    let parts : (pointwise nat_eq line (end_line (length before)) ≡ true) × (before ≡ entries) = ended_as _ _ _ _ read in
    let same : line ≡ end_line (length before) = same_texts line (end_line (length before)) parts.0 in
    record {
      more = [];
      told = [];
      is = sym parts.1 ∙ sym (append-nil before);
      text = ap (λ (l : List ℕ). Some l ∷ []) (same ∙ ap (λ (es : List Placed). end_line (length es)) parts.1);
      tell = tt;
      order = λ place. refl;
      sites = refl;
    }
at_end place origin n before line (next ∷ lines) entries read = absurd (never_ended _ _ _ _ read)

entry_on : (origin n : ℕ) (before : List Placed) (line : List ℕ) (lines : List Line) (entries : List Placed) (entry : Placed) → may_be_next origin n entry ≡ true → IsEntryLine line entry
    → ReadOn entry.origin entry.n (before ++ entry ∷ []) lines entries → ReadOn origin n before (Some line ∷ lines) entries
entry_on origin n before line lines entries entry next line_is rest = record {
  more = entry ∷ rest.more;
  told = line ∷ rest.told;
  is = rest.is ∙ append_assoc before (entry ∷ []) rest.more;
  text = ap (λ (ls : List Line). Some line ∷ ls) rest.text;
  tell = (line_is.tells, rest.tell);
  order = λ place. rw next (rest.order (place + 1));
  sites = rw line_is.site rest.sites;
}

pub read_on : (place origin n : ℕ) (before : List Placed) (lines : List Line) (entries : List Placed) → entries_in place origin n before lines ≡ Ok entries → ReadOn origin n before lines entries
unfolding entries_in
read_on place origin n before [] entries read = cc
read_on place origin n before (None ∷ lines) entries read = cc
read_on place origin n before (Some line ∷ lines) entries read =
    (elim (entry_in line) as (λ told. entry_in line ≡ told → entries_on place origin n before line lines (λ entry. entries_in (place + 1) entry.origin entry.n (before ++ entry ∷ []) lines) told ≡ Ok entries → ReadOn origin n before (Some line ∷ lines) entries) [
      | None ↦ λ none ends. at_end place origin n before line lines entries ends
      | Some entry ↦ λ told goes.
          let parts : (may_be_next origin n entry ≡ true) × (entries_in (place + 1) entry.origin entry.n (before ++ entry ∷ []) lines ≡ Ok entries) = gone_on _ _ _ _ goes in
          entry_on origin n before line lines entries entry parts.0 (entry_told line entry told) (read_on (place + 1) entry.origin entry.n (before ++ entry ∷ []) lines entries parts.1)
    ]) refl read

site_of_form_1 : (origin : ℕ) → is_site_of_form_1 origin ≡ true → is_site origin ≡ true
site_of_form_1 origin h = grind (arith, nat_tests, h)

pub sites_of_form_1 : (entries : List Placed) → are_of_form_1 entries ≡ true → are_of_sites entries ≡ true
sites_of_form_1 [] h = refl
sites_of_form_1 (entry ∷ entries) h =
    let parts : (is_site_of_form_1 entry.origin ≡ true) × (are_of_form_1 entries ≡ true) = and_parts (is_site_of_form_1 entry.origin) (are_of_form_1 entries) h in
    rw (site_of_form_1 entry.origin parts.0) (sites_of_form_1 entries parts.1)

whole_shape : (entries more : List Placed) → more ≡ entries → are_of_form_1 more ≡ true → first_break 1 0 0 more ≡ None → IsDelta entries
whole_shape entries more all sites order = delta_from_unbroken entries (rw (← all) (sites_of_form_1 more sites)) (rw (← all) order)

whole_form : (bytes line : List ℕ) (lines : List Line) (entries : List Placed) → lines_by_end bytes ≡ Some line ∷ lines → line ≡ entries_head → ReadOn 0 0 [] lines entries → IsEntryText bytes entries
whole_form bytes line lines entries are head rest =
    let all : rest.more ≡ entries = sym rest.is in
    record {
      lines = rest.told;
      text = are ∙ ap (λ (l : List ℕ). Some l ∷ lines) head ∙ ap (λ (ls : List Line). Some entries_head ∷ ls) rest.text;
      told = subst (λ (es : List Placed). TellEntries rest.told es) all rest.tell;
      shape = whole_shape entries rest.more all rest.sites (rest.order 1);
      sites = rw (← all) rest.sites;
    }

pub entry_form : (bytes head : List ℕ) (lines : List Line) (entries : List Placed) → lines_by_end bytes ≡ Some head ∷ lines → head ≡ entries_head → entries_in 2 0 0 [] lines ≡ Ok entries → IsEntryText bytes entries
entry_form bytes head lines entries are is read = whole_form bytes head lines entries are is (read_on 2 0 0 [] lines entries read)

pub entries_shape : (lines : List Line) (entries : List Placed) → entries_in 2 0 0 [] lines ≡ Ok entries → IsDelta entries
entries_shape lines entries read =
    let rest : ReadOn 0 0 [] lines entries = read_on 2 0 0 [] lines entries read in
    whole_shape entries rest.more (sym rest.is) rest.sites (rest.order 1)

-- ---- from the form to what is read

pub end_is_end : (count : ℕ) → is_end_line count (end_line count) ≡ true
unfolding is_end_line
end_is_end count = texts_same (end_line count)

pub form_on : (place k origin n : ℕ) (before more : List Placed) (told : List (List ℕ)) → TellEntries told more → first_break k origin n more ≡ None → are_of_form_1 more ≡ true
    → entries_in place origin n before (lines_as (told ++ end_line (length (before ++ more)) ∷ [])) ≡ Ok (before ++ more)
unfolding entries_in
form_on place k origin n before [] [] tell order sites =
    rw (append-nil before, no_entry_at_end (length before), end_is_end (length before)) refl
form_on place k origin n before [] (line ∷ told) tell order sites = absurd tell
form_on place k origin n before (entry ∷ more) [] tell order sites = absurd tell
form_on place k origin n before (entry ∷ more) (line ∷ told) tell order sites =
    let next : (may_be_next origin n entry ≡ true) × (first_break (k + 1) entry.origin entry.n more ≡ None) = unbroken _ _ _ order in
    let site : (is_site_of_form_1 entry.origin ≡ true) × (are_of_form_1 more ≡ true) = and_parts (is_site_of_form_1 entry.origin) (are_of_form_1 more) sites in
    let read : entry_in line ≡ Some entry = entry_read line entry (record { tells = tell.0; site = site.0 }) in
    let rest : entries_in (place + 1) entry.origin entry.n (before ++ entry ∷ []) (lines_as (told ++ end_line (length ((before ++ entry ∷ []) ++ more)) ∷ [])) ≡ Ok ((before ++ entry ∷ []) ++ more) =
    form_on (place + 1) (k + 1) entry.origin entry.n (before ++ entry ∷ []) more told tell.1 next.1 site.1 in
    let same : (before ++ entry ∷ []) ++ more ≡ before ++ entry ∷ more = append_assoc before (entry ∷ []) more in
    rw (read, next.0, ← same) rest

pub entries_from_form : (bytes : List ℕ) (entries : List Placed) → (form : IsEntryText bytes entries) → entries_in 2 0 0 [] (lines_as (form.lines ++ end_line (length entries) ∷ [])) ≡ Ok entries
entries_from_form bytes entries form = form_on 2 1 0 0 [] entries form.lines form.told (delta_unbroken entries form.shape) form.sites
