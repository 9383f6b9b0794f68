-- A text of form 2 is read as a delta exactly where it is a form of it. Proof plumbing.
use Rattle.std.proofs.Common.{ℕ, ◌≡◌, ◌+◌, ◌-◌, ◌<◌, ◌≤◌, ◌^◌, ◌++◌, ◌∷◌, [], List, true, false, cond, Option, Some, None, Result, Ok, length, refl, sym, ap, ◌∙◌, append_assoc, arith}
use Rattle.std.specs.Prelude.{nat_eq, nat_le, nat_lt, decimal, flat_map, codes, option_and_then}
use Rattle.std.specs.Cmp.Lexicographic.{pointwise}
use Rattle.std.specs.Result.{result_ok}
use Rattle.std.proofs.lemmas.Bool.Decides.{nat_tests}
use Rattle.std.proofs.lemmas.Bool.{eqb-true}
use Rattle.std.proofs.lemmas.List.{append-nil}
use Rattle.sct_message.specs.declared.draft.Draft.{Draft}
use Rattle.sct_json.specs.Reading.{message_in}
use Rattle.sct_delta.specs.Sites.{is_site}
use Rattle.sct_delta.specs.Entries.{Placed, IsDelta, numbered}
use Rattle.sct_delta.specs.Shapes.{first_break, are_of_sites}
use Rattle.sct_delta.specs.TextLines.{Line, lines_by_end, lines_as, is_end_line, end_line, entries_ended, Field, number_in, number_before_space, after_prefix}
use Rattle.sct_delta.specs.GroupText.{Group, origin_line, group_lines, group_entries, TellMessages, may_begin, AreGroups, groups_head, IsGroupText, OriginFields, count_behind, numbers_behind, origin_in, origin_on, message_on, groups_in}
use Rattle.sct_delta.proofs.TextLemmas.{IsNumbered, field_read, field_written, number_read, number_written, prefix_written, mapped_from, then_from, same_texts, site_below}
use Rattle.sct_delta.proofs.ShapeLemmas.{delta_from_unbroken}
use Rattle.sct_delta.proofs.FormLemmas.{ended_as, never_ended, gone_on, message_of_ok, end_is_end}

-- ---- the fields of an origin line

-- the word, and the numbers behind it, one after another
origin_joined : (line front second third : List ℕ) (origin first count a b c : ℕ) → line ≡ codes "origin " ++ front
    → IsNumbered front a second → IsNumbered second b third → third ≡ decimal c → a ≡ origin → b ≡ first → c ≡ count
    → line ≡ origin_line origin first count
origin_joined line front second third origin first count a b c word one two three is_origin is_first is_count =
    word
    ∙ ap (λ (t : List ℕ). codes "origin " ++ t) (one.spelled
    ∙ ap (λ (m : ℕ). decimal m ++ 32 ∷ second) is_origin
    ∙ ap (λ (t : List ℕ). decimal origin ++ 32 ∷ t) (two.spelled
    ∙ ap (λ (m : ℕ). decimal m ++ 32 ∷ third) is_first
    ∙ ap (λ (t : List ℕ). decimal first ++ 32 ∷ t) (three ∙ ap decimal is_count)))

origin_written : (line : List ℕ) (origin first count : ℕ) → origin_in line ≡ Some (origin, first, count) → line ≡ origin_line origin first count
unfolding origin_in
origin_written line origin first count read =
    let whole : (field : Field) × (option_and_then number_before_space (after_prefix (codes "origin ") line) ≡ Some field) × (numbers_behind field ≡ Some (origin, first, count)) =
    then_from {A = Field} {B = OriginFields} numbers_behind _ (origin, first, count) read in
    let front : (rest : List ℕ) × (after_prefix (codes "origin ") line ≡ Some rest) × (number_before_space rest ≡ Some whole.0) =
    then_from {B = Field} number_before_space (after_prefix (codes "origin ") line) whole.0 whole.1 in
    let second : (field : Field) × (number_before_space whole.0.1 ≡ Some field) × (count_behind whole.0.0 field ≡ Some (origin, first, count)) =
    then_from {A = Field} {B = OriginFields} (count_behind whole.0.0) (number_before_space whole.0.1) (origin, first, count) whole.2 in
    let third : (n : ℕ) × (number_in second.0.1 ≡ Some n) × ((whole.0.0, second.0.0, n) ≡ (origin, first, count)) =
    mapped_from {B = OriginFields} (λ n. (whole.0.0, second.0.0, n)) (number_in second.0.1) (origin, first, count) second.2 in
    let one : IsNumbered front.0 whole.0.0 whole.0.1 = field_written front.0 whole.0.1 whole.0.0 front.2 in
    let two : IsNumbered whole.0.1 second.0.0 second.0.1 = field_written whole.0.1 second.0.1 second.0.0 second.1 in
    let three : (second.0.1 ≡ decimal third.0) × (third.0 < 2 ^ 64) = number_written second.0.1 third.0 third.1 in
    origin_joined line front.0 whole.0.1 second.0.1 origin first count whole.0.0 second.0.0 third.0 (prefix_written (codes "origin ") line front.0 front.1) one two three.0
    (ap (λ (fields : OriginFields). fields.0) third.2) (ap (λ (fields : OriginFields). fields.1) third.2) (ap (λ (fields : OriginFields). fields.2) third.2)

origin_read : (origin first count : ℕ) → origin < 2 ^ 64 → first < 2 ^ 64 → count < 2 ^ 64 → origin_in (origin_line origin first count) ≡ Some (origin, first, count)
unfolding origin_in
origin_read origin first count small_origin small_first small_count =
    let one : number_before_space (decimal origin ++ 32 ∷ (decimal first ++ 32 ∷ decimal count)) ≡ Some (origin, decimal first ++ 32 ∷ decimal count) =
    field_read _ _ origin (record { spelled = refl; small = small_origin }) in
    let two : number_before_space (decimal first ++ 32 ∷ decimal count) ≡ Some (first, decimal count) =
    field_read _ _ first (record { spelled = refl; small = small_first }) in
    rw (one, two, number_read count small_count) refl

pub no_origin_at_end : (count : ℕ) → origin_in (end_line count) ≡ None
unfolding origin_in
no_origin_at_end count = refl

-- ---- where a group may begin

pub later_origin : (before origin first count : ℕ) → may_begin before origin first count ≡ true → before < origin
later_origin before origin first count h = grind (arith, nat_tests, h)

pub of_site : (before origin first count : ℕ) → may_begin before origin first count ≡ true → is_site origin ≡ true
of_site before origin first count h = grind (arith, nat_tests, h)

pub first_above_0 : (before origin first count : ℕ) → may_begin before origin first count ≡ true → 1 ≤ first
first_above_0 before origin first count h = grind (arith, nat_tests, h)

pub some_counted : (before origin first count : ℕ) → may_begin before origin first count ≡ true → 1 ≤ count
some_counted before origin first count h = grind (arith, nat_tests, h)

pub last_below : (before origin first count : ℕ) → may_begin before origin first count ≡ true → first + count ≤ 2 ^ 64
last_below before origin first count h = grind (arith, nat_tests, h)

-- ---- from what is read to the form

-- Lines that are read on as these entries, behind those before them: the messages that are due, and then groups.
pub record GroupsOn (origin n due : ℕ) (before : List Placed) (lines : List Line) (entries : List Placed) : Type 0 where
  pub texts : List (List ℕ)
  pub messages : List Draft
  pub groups : List Group
  pub is : entries ≡ before ++ (numbered origin n messages ++ flat_map group_entries groups)
  pub text : lines ≡ lines_as (texts ++ (flat_map group_lines groups ++ end_line (length entries) ∷ []))
  pub tell : TellMessages texts messages
  pub many : length messages ≡ due
  pub stand : AreGroups origin groups

ends_groups : (place origin n due : ℕ) (before : List Placed) (line : List ℕ) (lines : List Line) (entries : List Placed) → due ≡ 0 → entries_ended place before line lines ≡ Ok entries → GroupsOn origin n due before (Some line ∷ lines) entries
unfolding is_end_line
ends_groups place origin n due before line [] entries none read =
    let parts : (pointwise nat_eq line (end_line (length before)) ≡ true) × (before ≡ entries) = ended_as _ _ _ _ read in
    let same : line ≡ end_line (length before) = same_texts line (end_line (length before)) parts.0 in
    record {
      texts = [];
      messages = [];
      groups = [];
      is = sym parts.1 ∙ sym (append-nil before);
      text = ap (λ (l : List ℕ). Some l ∷ []) (same ∙ ap (λ (es : List Placed). end_line (length es)) parts.1);
      tell = tt;
      many = sym none;
      stand = tt;
    }
ends_groups place origin n due before line (next ∷ lines) entries none read = absurd (never_ended _ _ _ _ read)

-- an origin line, and what is read behind it
begins_group : (origin n due : ℕ) (before : List Placed) (line : List ℕ) (lines : List Line) (entries : List Placed) (next first count : ℕ) → due ≡ 0 → origin_in line ≡ Some (next, first, count) → may_begin origin next first count ≡ true
    → GroupsOn next first count before lines entries → GroupsOn origin n due before (Some line ∷ lines) entries
begins_group origin n due before line lines entries next first count none told begins rest =
    let spelled : line ≡ origin_line next first (length rest.messages) = origin_written line next first count told ∙ ap (origin_line next first) (sym rest.many) in
    record {
      texts = [];
      messages = [];
      groups = record { origin = next; first = first; messages = rest.messages; texts = rest.texts } ∷ rest.groups;
      is = rest.is;
      text = ap (λ (l : List ℕ). Some l ∷ lines) spelled
          ∙ ap (λ (ls : List Line). Some (origin_line next first (length rest.messages)) ∷ ls) (rest.text
          ∙ ap lines_as (sym (append_assoc rest.texts (flat_map group_lines rest.groups) (end_line (length entries) ∷ []))));
      tell = tt;
      many = sym none;
      stand = (ap (may_begin origin next first) rest.many ∙ begins, rest.tell, rest.stand);
    }

-- a message line, and what is read behind it
takes_message : (origin n due : ℕ) (before : List Placed) (line : List ℕ) (lines : List Line) (entries : List Placed) (message : Draft) → nat_eq due 0 ≡ false → result_ok (message_in line) ≡ Some message
    → GroupsOn origin (n + 1) (due - 1) (before ++ record { origin = origin; n = n; message = message } ∷ []) lines entries → GroupsOn origin n due before (Some line ∷ lines) entries
takes_message origin n due before line lines entries message some told rest = record {
  texts = line ∷ rest.texts;
  messages = message ∷ rest.messages;
  groups = rest.groups;
  is = rest.is ∙ append_assoc before (record { origin = origin; n = n; message = message } ∷ []) (numbered origin (n + 1) rest.messages ++ flat_map group_entries rest.groups);
  text = ap (λ (ls : List Line). Some line ∷ ls) rest.text;
  tell = (message_of_ok (message_in line) message told, rest.tell);
  many = let many : length rest.messages ≡ due - 1 = rest.many in grind (arith, nat_tests, some, many);
  stand = rest.stand;
}

told_message : (place : ℕ) (more : Draft → Result (List Placed) ℕ) (found : Option Draft) (entries : List Placed) → message_on place more found ≡ Ok entries → (message : Draft) × (found ≡ Some message) × (more message ≡ Ok entries)
told_message place more None entries h = cc
told_message place more (Some message) entries h = (message, refl, h)

pub groups_read_on : (place origin n due : ℕ) (before : List Placed) (lines : List Line) (entries : List Placed) → groups_in place origin n due before lines ≡ Ok entries → GroupsOn origin n due before lines entries
unfolding groups_in
groups_read_on place origin n due before [] entries read = cc
groups_read_on place origin n due before (None ∷ lines) entries read = cc
groups_read_on place origin n due before (Some line ∷ lines) entries read =
    (elim (nat_eq due 0) as (λ none. nat_eq due 0 ≡ none
    → cond none (origin_on place origin before line lines (λ fields. groups_in (place + 1) fields.0 fields.1 fields.2 before lines) (origin_in line))
    (message_on place (λ message. groups_in (place + 1) origin (n + 1) (due - 1) (before ++ record { origin = origin; n = n; message = message } ∷ []) lines) (result_ok (message_in line))) ≡ Ok entries
    → GroupsOn origin n due before (Some line ∷ lines) entries) [
      | true ↦ λ none. (elim (origin_in line) as (λ told. origin_in line ≡ told → origin_on place origin before line lines (λ fields. groups_in (place + 1) fields.0 fields.1 fields.2 before lines) told ≡ Ok entries → GroupsOn origin n due before (Some line ∷ lines) entries) [
        | None ↦ λ told ends. ends_groups place origin n due before line lines entries (eqb-true due 0 none) ends
        | Some fields ↦ λ told goes.
            let parts : (may_begin origin fields.0 fields.1 fields.2 ≡ true) × (groups_in (place + 1) fields.0 fields.1 fields.2 before lines ≡ Ok entries) = gone_on _ _ _ _ goes in
            begins_group origin n due before line lines entries fields.0 fields.1 fields.2 (eqb-true due 0 none) told parts.0 (groups_read_on (place + 1) fields.0 fields.1 fields.2 before lines entries parts.1)
      ]) refl
      | false ↦ λ some goes.
          let told : (message : Draft) × (result_ok (message_in line) ≡ Some message) × (groups_in (place + 1) origin (n + 1) (due - 1) (before ++ record { origin = origin; n = n; message = message } ∷ []) lines ≡ Ok entries) =
          told_message place (λ message. groups_in (place + 1) origin (n + 1) (due - 1) (before ++ record { origin = origin; n = n; message = message } ∷ []) lines) (result_ok (message_in line)) entries goes in
          takes_message origin n due before line lines entries told.0 some told.1 (groups_read_on (place + 1) origin (n + 1) (due - 1) (before ++ record { origin = origin; n = n; message = told.0 } ∷ []) lines entries told.2)
    ]) refl read

-- where no message is due, none is read
pub none_due : (texts : List (List ℕ)) (messages : List Draft) → TellMessages texts messages → length messages ≡ 0 → (texts ≡ []) × (messages ≡ [])
none_due [] [] tell none = (refl, refl)
none_due [] (message ∷ messages) tell none = absurd tell
none_due (text ∷ texts) [] tell none = absurd tell
none_due (text ∷ texts) (message ∷ messages) tell none = absurd (omega (arith, none))

pub group_form : (bytes head : List ℕ) (lines : List Line) (entries : List Placed) → lines_by_end bytes ≡ Some head ∷ lines → head ≡ groups_head → groups_in 2 0 1 0 [] lines ≡ Ok entries → IsGroupText bytes entries
group_form bytes head lines entries are is read =
    let rest : GroupsOn 0 1 0 [] lines entries = groups_read_on 2 0 1 0 [] lines entries read in
    let none : (rest.texts ≡ []) × (rest.messages ≡ []) = none_due rest.texts rest.messages rest.tell rest.many in
    record {
      groups = rest.groups;
      text = are ∙ ap (λ (l : List ℕ). Some l ∷ lines) is
          ∙ ap (λ (ls : List Line). Some groups_head ∷ ls) (rest.text
          ∙ ap (λ (ts : List (List ℕ)). lines_as (ts ++ (flat_map group_lines rest.groups ++ end_line (length entries) ∷ []))) none.0);
      stand = rest.stand;
      all = rest.is ∙ ap (λ (ms : List Draft). numbered 0 1 ms ++ flat_map group_entries rest.groups) none.1;
    }

-- ---- groups make a delta

next_number : (origin n : ℕ) → (nat_le 1 (n + 1) ≡ true) × (nat_eq origin origin ≡ true) × (nat_eq (n + 1) (n + 1) ≡ true)
next_number origin n = (grind (arith, nat_tests), grind (arith, nat_tests), grind (arith, nat_tests))

run_unbroken : (k origin n : ℕ) (messages : List Draft) (rest : List Placed) → ((place : ℕ) → first_break place origin (n + length messages) rest ≡ None) → first_break k origin n (numbered origin (n + 1) messages ++ rest) ≡ None
run_unbroken k origin n [] rest order = ap (λ (m : ℕ). first_break k origin m rest) (omega arith) ∙ order k
run_unbroken k origin n (message ∷ messages) rest order =
    let next = next_number origin n in
    let number : n + 1 + length messages ≡ n + length (message ∷ messages) = omega arith in
    rw (next.0, next.1, next.2) (run_unbroken (k + 1) origin (n + 1) messages rest (λ place. ap (λ (m : ℕ). first_break place origin m rest) number ∙ order place))

-- from any later number on, of the last origin
other_origin : (before n origin first : ℕ) → before < origin → 1 ≤ first → (nat_le 1 first ≡ true) × (nat_eq before origin ≡ false) × (nat_lt before origin ≡ true)
other_origin before n origin first later above = (grind (arith, nat_tests, above), grind (arith, nat_tests, later), grind (arith, nat_tests, later))

group_unbroken : (k before n origin first : ℕ) (messages : List Draft) (rest : List Placed) → before < origin → 1 ≤ first → 1 ≤ length messages
    → ((place m : ℕ) → first_break place origin m rest ≡ None) → first_break k before n (numbered origin first messages ++ rest) ≡ None
group_unbroken k before n origin first [] rest later above some order = absurd (omega (arith, some))
group_unbroken k before n origin first (message ∷ messages) rest later above some order =
    let other = other_origin before n origin first later above in
    rw (other.0, other.1, other.2) (run_unbroken (k + 1) origin first messages rest (λ place. order place (first + length messages)))

groups_unbroken : (k before n : ℕ) (groups : List Group) → AreGroups before groups → first_break k before n (flat_map group_entries groups) ≡ None
groups_unbroken k before n [] stand = refl
groups_unbroken k before n (group ∷ groups) stand =
    group_unbroken k before n group.origin group.first group.messages (flat_map group_entries groups)
    (later_origin before group.origin group.first (length group.messages) stand.0)
    (first_above_0 before group.origin group.first (length group.messages) stand.0)
    (some_counted before group.origin group.first (length group.messages) stand.0)
    (λ place m. groups_unbroken place group.origin m groups stand.2)

run_of_site : (origin n : ℕ) (messages : List Draft) (rest : List Placed) → is_site origin ≡ true → are_of_sites rest ≡ true → are_of_sites (numbered origin n messages ++ rest) ≡ true
run_of_site origin n [] rest site others = others
run_of_site origin n (message ∷ messages) rest site others = rw site (run_of_site origin (n + 1) messages rest site others)

groups_of_sites : (before : ℕ) (groups : List Group) → AreGroups before groups → are_of_sites (flat_map group_entries groups) ≡ true
groups_of_sites before [] stand = refl
groups_of_sites before (group ∷ groups) stand =
    run_of_site group.origin group.first group.messages (flat_map group_entries groups)
    (of_site before group.origin group.first (length group.messages) stand.0) (groups_of_sites group.origin groups stand.2)

pub groups_delta : (groups : List Group) → AreGroups 0 groups → IsDelta (flat_map group_entries groups)
groups_delta groups stand = delta_from_unbroken (flat_map group_entries groups) (groups_of_sites 0 groups stand) (groups_unbroken 1 0 0 groups stand)

pub groups_shape : (lines : List Line) (entries : List Placed) → groups_in 2 0 1 0 [] lines ≡ Ok entries → IsDelta entries
groups_shape lines entries read =
    let rest : GroupsOn 0 1 0 [] lines entries = groups_read_on 2 0 1 0 [] lines entries read in
    let none : (rest.texts ≡ []) × (rest.messages ≡ []) = none_due rest.texts rest.messages rest.tell rest.many in
    let all : entries ≡ flat_map group_entries rest.groups = rest.is ∙ ap (λ (ms : List Draft). numbered 0 1 ms ++ flat_map group_entries rest.groups) none.1 in
    rw all (groups_delta rest.groups rest.stand)

-- ---- from the form to what is read

-- the messages that are due are read, and then the lines behind them
pub messages_read : (place origin n : ℕ) (before : List Placed) (texts : List (List ℕ)) (messages : List Draft) (rest : List (List ℕ)) → TellMessages texts messages
    → groups_in place origin n (length messages) before (lines_as (texts ++ rest)) ≡ groups_in (place + length messages) origin (n + length messages) 0 (before ++ numbered origin n messages) (lines_as rest)
unfolding groups_in
messages_read place origin n before [] [] rest tell =
    let at : place + 0 ≡ place = omega arith in
    let number : n + 0 ≡ n = omega arith in
    rw (append-nil before, at, number) refl
messages_read place origin n before [] (message ∷ messages) rest tell = absurd tell
messages_read place origin n before (text ∷ texts) [] rest tell = absurd tell
messages_read place origin n before (text ∷ texts) (message ∷ messages) rest tell =
    let some : nat_eq (length (message ∷ messages)) 0 ≡ false = grind (arith, nat_tests) in
    let left : length (message ∷ messages) - 1 ≡ length messages = omega arith in
    let at : place + 1 + length messages ≡ place + length (message ∷ messages) = omega arith in
    let number : n + 1 + length messages ≡ n + length (message ∷ messages) = omega arith in
    let same : (before ++ record { origin = origin; n = n; message = message } ∷ []) ++ numbered origin (n + 1) messages ≡ before ++ numbered origin n (message ∷ messages) =
    append_assoc before (record { origin = origin; n = n; message = message } ∷ []) (numbered origin (n + 1) messages) in
    let more = messages_read (place + 1) origin (n + 1) (before ++ record { origin = origin; n = n; message = message } ∷ []) texts messages rest tell.1 in
    rw (some, tell.0, left, ← at, ← number, ← same) more

-- the line of an origin that may begin is read
begins_read : (place before n origin first count : ℕ) (entries : List Placed) (lines : List Line) → may_begin before origin first count ≡ true
    → groups_in place before n 0 entries (Some (origin_line origin first count) ∷ lines) ≡ groups_in (place + 1) origin first count entries lines
unfolding groups_in
begins_read place before n origin first count entries lines begins =
    let last : first + count ≤ 2 ^ 64 = last_below before origin first count begins in
    let above : 1 ≤ first = first_above_0 before origin first count begins in
    let some : 1 ≤ count = some_counted before origin first count begins in
    let read : origin_in (origin_line origin first count) ≡ Some (origin, first, count) =
    origin_read origin first count (site_below origin (of_site before origin first count begins)) (omega arith) (omega arith) in
    rw (read, begins) refl

pub ends_read : (place before n : ℕ) (entries : List Placed) → groups_in place before n 0 entries (Some (end_line (length entries)) ∷ []) ≡ Ok entries
unfolding groups_in
ends_read place before n entries = rw (no_origin_at_end (length entries), end_is_end (length entries)) refl

pub groups_form_on : (place origin n : ℕ) (before : List Placed) (groups : List Group) → AreGroups origin groups
    → groups_in place origin n 0 before (lines_as (flat_map group_lines groups ++ end_line (length (before ++ flat_map group_entries groups)) ∷ [])) ≡ Ok (before ++ flat_map group_entries groups)
groups_form_on place origin n before [] stand = rw (append-nil before) (ends_read place origin n before)
groups_form_on place origin n before (group ∷ groups) stand =
    let so_far : List Placed = before ++ group_entries group in
    let same : so_far ++ flat_map group_entries groups ≡ before ++ flat_map group_entries (group ∷ groups) = append_assoc before (group_entries group) (flat_map group_entries groups) in
    let ends : List (List ℕ) = end_line (length (before ++ flat_map group_entries (group ∷ groups))) ∷ [] in
    let rest : groups_in (place + 1 + length group.messages) group.origin (group.first + length group.messages) 0 so_far (lines_as (flat_map group_lines groups ++ end_line (length (so_far ++ flat_map group_entries groups)) ∷ [])) ≡ Ok (so_far ++ flat_map group_entries groups) =
    groups_form_on (place + 1 + length group.messages) group.origin (group.first + length group.messages) so_far groups stand.2 in
    begins_read place origin n group.origin group.first (length group.messages) before (lines_as ((group.texts ++ flat_map group_lines groups) ++ ends)) stand.0
    ∙ ap (λ (ls : List (List ℕ)). groups_in (place + 1) group.origin group.first (length group.messages) before (lines_as ls)) (append_assoc group.texts (flat_map group_lines groups) ends)
    ∙ messages_read (place + 1) group.origin group.first before group.texts group.messages (flat_map group_lines groups ++ ends) stand.1
    ∙ ap (λ (es : List Placed). groups_in (place + 1 + length group.messages) group.origin (group.first + length group.messages) 0 so_far (lines_as (flat_map group_lines groups ++ end_line (length es) ∷ []))) (sym same)
    ∙ rest
    ∙ ap (λ (es : List Placed). Ok es) same

pub groups_from_form : (bytes : List ℕ) (entries : List Placed) → (form : IsGroupText bytes entries) → groups_in 2 0 1 0 [] (lines_as (flat_map group_lines form.groups ++ end_line (length entries) ∷ [])) ≡ Ok entries
groups_from_form bytes entries form = rw form.all (groups_form_on 2 0 1 [] form.groups form.stand)
