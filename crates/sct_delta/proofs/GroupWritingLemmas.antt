-- The written text is the form 2 of its delta. Proof plumbing.
use Rattle.std.proofs.Common.{ℕ, ◌≡◌, ◌+◌, ◌<◌, ◌≤◌, ◌^◌, ◌++◌, ◌∷◌, [], List, true, false, cond, None, length, refl, sym, ap, ◌∙◌, arith, append_assoc, subst, All}
use Rattle.std.specs.Prelude.{nat_eq, nat_le, nat_lt, decimal, flat_map}
use Rattle.std.specs.List.{list_all}
use Rattle.std.proofs.lemmas.Bool.{and_parts, and_from, eqb-true}
use Rattle.std.proofs.lemmas.Bool.Decides.{nat_tests}
use Rattle.std.proofs.lemmas.Grind.{flat_map-append}
use Rattle.std.proofs.lemmas.List.{append-nil}
use Rattle.std.proofs.lemmas.List.Elements.{All-tail}
use Rattle.std.proofs.lemmas.List.Folds.{list_all-append}
use Rattle.sct_message.specs.declared.draft.Draft.{Draft}
use Rattle.sct_json.specs.Writing.{written_text, has_no_line_feed}
use Rattle.sct_json.proofs.Texts.{text_is_one_line}
use Rattle.sct_delta.specs.Sites.{is_site}
use Rattle.sct_delta.specs.Entries.{Placed, IsDelta, numbered}
use Rattle.sct_delta.specs.Shapes.{may_be_next, first_break, are_of_sites}
use Rattle.sct_delta.specs.TextLines.{lines_by_end, lines_as, ended, end_line}
use Rattle.sct_delta.specs.GroupText.{Group, origin_line, group_lines, group_entries, TellMessages, may_begin, AreGroups, groups_head, IsGroupText, run_length, lines_after, IsWritable}
use Rattle.sct_delta.specs.DeltaText.{written_delta}
use Rattle.sct_delta.proofs.ShapeLemmas.{Behind, behind_from, delta_unbroken, unbroken}
use Rattle.sct_delta.proofs.TextLemmas.{site_below}
use Rattle.sct_delta.proofs.GroupLemmas.{none_due}
use Rattle.sct_delta.proofs.WritingLemmas.{lines_from_text, decimal_one_line, one_line_appended, end_one_line}

-- ---- groups of entries

-- Entries that go on behind an entry of an origin and a number: first those of that origin, and then groups.
pub record Continued (previous n : ℕ) (entries : List Placed) : Type 0 where
  pub texts : List (List ℕ)
  pub messages : List Draft
  pub groups : List Group
  pub lines : lines_after previous entries ≡ texts ++ flat_map group_lines groups
  pub tell : TellMessages texts messages
  pub many : run_length previous entries ≡ length messages
  pub last : n + length messages < 2 ^ 64
  pub stand : AreGroups previous groups
  pub all : entries ≡ numbered previous (n + 1) messages ++ flat_map group_entries groups

-- one entry more of the same origin
same_origin : (previous n : ℕ) (message : Draft) (entries : List Placed) → IsWritable (record { origin = previous; n = n + 1; message = message }) → Continued previous (n + 1) entries
    → Continued previous n (record { origin = previous; n = n + 1; message = message } ∷ entries)
same_origin previous n message entries written rest =
    let same : nat_eq previous previous ≡ true = grind (arith, nat_tests) in
    record {
      texts = written_text message ∷ rest.texts;
      messages = message ∷ rest.messages;
      groups = rest.groups;
      lines = rw same (ap (λ (ls : List (List ℕ)). written_text message ∷ ls) rest.lines);
      tell = (written.reads_back, rest.tell);
      many = rw (same, rest.many) (omega arith);
      last = omega (arith, rest.last);
      stand = rest.stand;
      all = ap (λ (es : List Placed). record { origin = previous; n = n + 1; message = message } ∷ es) rest.all;
    }

begins : (previous origin first count : ℕ) → previous < origin → is_site origin ≡ true → 1 ≤ first → 1 ≤ count → first + count ≤ 2 ^ 64 → may_begin previous origin first count ≡ true
begins previous origin first count later site above some last =
    let a : nat_lt previous origin ≡ true = grind (arith, nat_tests, later) in
    let b : nat_le 1 first ≡ true = grind (arith, nat_tests, above) in
    let c : nat_le 1 count ≡ true = grind (arith, nat_tests, some) in
    let d : nat_le (first + count) (2 ^ 64) ≡ true = grind (arith, nat_tests, last) in
    and_from _ _ a (and_from _ _ site (and_from _ _ b (and_from _ _ c d)))

-- an entry that begins an origin
new_origin : (previous n : ℕ) (entry : Placed) (entries : List Placed) → n < 2 ^ 64 → nat_eq entry.origin previous ≡ false → previous < entry.origin → 1 ≤ entry.n → is_site entry.origin ≡ true → IsWritable entry
    → Continued entry.origin entry.n entries → Continued previous n (entry ∷ entries)
new_origin previous n entry entries small other later above site written rest =
    let count : 1 + run_length entry.origin entries ≡ length (entry.message ∷ rest.messages) = omega (arith, rest.many) in
    record {
      texts = [];
      messages = [];
      groups = record { origin = entry.origin; first = entry.n; messages = entry.message ∷ rest.messages; texts = written_text entry.message ∷ rest.texts } ∷ rest.groups;
      lines = rw (other, count) (ap (λ (ls : List (List ℕ)). origin_line entry.origin entry.n (length (entry.message ∷ rest.messages)) ∷ written_text entry.message ∷ ls) rest.lines);
      tell = tt;
      many = rw other refl;
      last = omega (arith, small);
      stand = (
        begins previous entry.origin entry.n (length (entry.message ∷ rest.messages)) later site above (omega arith) (omega (arith, rest.last)),
        (written.reads_back, rest.tell),
        rest.stand,
      );
      all = ap (λ (es : List Placed). entry ∷ es) rest.all;
    }

-- an entry whose place is told by equations
goes_on : (previous n : ℕ) (entry : Placed) (entries : List Placed) → entry.origin ≡ previous → entry.n ≡ n + 1 → IsWritable entry → Continued entry.origin entry.n entries → Continued previous n (entry ∷ entries)
goes_on previous n entry entries it number written rest =
    let there : Continued previous (n + 1) entries =
    subst (λ (o : ℕ). Continued o (n + 1) entries) it (subst (λ (m : ℕ). Continued entry.origin m entries) number rest) in
    let whole : entry ≡ record { origin = previous; n = n + 1; message = entry.message } =
    ap (λ (o : ℕ). record { origin = o; n = entry.n; message = entry.message }) it ∙ ap (λ (m : ℕ). record { origin = previous; n = m; message = entry.message }) number in
    subst (λ (e : Placed). Continued previous n (e ∷ entries)) (sym whole)
    (same_origin previous n entry.message entries (record { reads_back = written.reads_back; small = subst (λ (m : ℕ). m < 2 ^ 64) number written.small }) there)

later_of : (previous origin : ℕ) → previous ≤ origin → nat_eq origin previous ≡ false → previous < origin
later_of previous origin le other = grind (arith, nat_tests, le, other)

pub continued : (k previous n : ℕ) (entries : List Placed) → first_break k previous n entries ≡ None → are_of_sites entries ≡ true → n < 2 ^ 64 → All IsWritable entries → Continued previous n entries
continued k previous n [] order sites small all = record {
  texts = [];
  messages = [];
  groups = [];
  lines = refl;
  tell = tt;
  many = refl;
  last = omega (arith, small);
  stand = tt;
  all = refl;
}
continued k previous n (entry ∷ entries) order sites small all =
    let next : (may_be_next previous n entry ≡ true) × (first_break (k + 1) entry.origin entry.n entries ≡ None) = unbroken _ _ _ order in
    let site : (is_site entry.origin ≡ true) × (are_of_sites entries ≡ true) = and_parts (is_site entry.origin) (are_of_sites entries) sites in
    let behind : Behind previous n entry = behind_from previous n entry next.0 in
    let written : IsWritable entry = all 0 entry (omega arith) in
    let rest : Continued entry.origin entry.n entries = continued (k + 1) entry.origin entry.n entries next.1 site.1 written.small (All-tail IsWritable entry entries all) in
    elim (nat_eq entry.origin previous) as (λ same. nat_eq entry.origin previous ≡ same → Continued previous n (entry ∷ entries)) [
      | true ↦ λ same.
          let it : entry.origin ≡ previous = eqb-true entry.origin previous same in
          goes_on previous n entry entries it (behind.next (sym it)) written rest
      | false ↦ λ other. new_origin previous n entry entries small other (later_of previous entry.origin behind.not_before other) behind.above_0 site.0 written rest
    ] refl

-- ---- the lines of the written text

run_short : (origin : ℕ) (entries : List Placed) → run_length origin entries ≤ length entries
run_short origin [] = omega arith
run_short origin (entry ∷ entries) =
    elim (nat_eq entry.origin origin) as (λ same. cond same (1 + run_length origin entries) 0 ≤ length (entry ∷ entries)) [
      | true ↦ omega (arith, run_short origin entries)
      | false ↦ omega arith
    ]

origin_one_line : (origin first count : ℕ) → origin < 2 ^ 64 → first < 2 ^ 64 → count < 2 ^ 64 → has_no_line_feed (origin_line origin first count) ≡ true
origin_one_line origin first count small_origin small_first small_count =
    one_line_appended (decimal origin) (32 ∷ (decimal first ++ 32 ∷ decimal count)) (decimal_one_line origin small_origin)
    (one_line_appended (decimal first) (32 ∷ decimal count) (decimal_one_line first small_first) (decimal_one_line count small_count))

lines_one : (previous : ℕ) (entries : List Placed) → length entries < 2 ^ 64 → are_of_sites entries ≡ true → All IsWritable entries → list_all has_no_line_feed (lines_after previous entries) ≡ true
lines_one previous [] few sites all = refl
lines_one previous (entry ∷ entries) few sites all =
    let site : (is_site entry.origin ≡ true) × (are_of_sites entries ≡ true) = and_parts (is_site entry.origin) (are_of_sites entries) sites in
    let written : IsWritable entry = all 0 entry (omega arith) in
    let rest : list_all has_no_line_feed (lines_after entry.origin entries) ≡ true = lines_one entry.origin entries (omega (arith, few)) site.1 (All-tail IsWritable entry entries all) in
    let behind : list_all has_no_line_feed (written_text entry.message ∷ lines_after entry.origin entries) ≡ true = and_from _ _ (text_is_one_line entry.message) rest in
    elim (nat_eq entry.origin previous) as (λ same. list_all has_no_line_feed (cond same [] (origin_line entry.origin entry.n (1 + run_length entry.origin entries) ∷ []) ++ written_text entry.message ∷ lines_after entry.origin entries) ≡ true) [
      | true ↦ behind
      | false ↦ and_from _ _ (origin_one_line entry.origin entry.n (1 + run_length entry.origin entries) (site_below entry.origin site.0) written.small (omega (arith, few, run_short entry.origin entries))) behind
    ]

written_lines : (entries : List Placed) → length entries < 2 ^ 64 → are_of_sites entries ≡ true → All IsWritable entries
    → lines_by_end (written_delta entries) ≡ lines_as (groups_head ∷ lines_after 0 entries ++ end_line (length entries) ∷ [])
unfolding written_delta
written_lines entries few sites all =
    lines_from_text (groups_head ∷ lines_after 0 entries ++ end_line (length entries) ∷ [])
    (list_all-append has_no_line_feed (lines_after 0 entries) (end_line (length entries) ∷ [])
    ∙ and_from _ _ (lines_one 0 entries few sites all) (and_from _ _ (end_one_line (length entries) (omega (arith, few))) refl))

no_site_0 : (origin : ℕ) → is_site origin ≡ true → nat_eq origin 0 ≡ false
no_site_0 origin h = grind (arith, nat_tests, h)

none_of_0 : (entries : List Placed) → are_of_sites entries ≡ true → run_length 0 entries ≡ 0
none_of_0 [] sites = refl
none_of_0 (entry ∷ entries) sites = rw (no_site_0 entry.origin (and_parts (is_site entry.origin) (are_of_sites entries) sites).0) refl

pub written_is_form : (entries : List Placed) → length entries < 2 ^ 64 → IsDelta entries → All IsWritable entries → IsGroupText (written_delta entries) entries
written_is_form entries few delta all =
    let on : Continued 0 0 entries = continued 1 0 0 entries (delta_unbroken entries delta) delta.sites (omega arith) all in
    let none : (on.texts ≡ []) × (on.messages ≡ []) = none_due on.texts on.messages on.tell (sym on.many ∙ none_of_0 entries delta.sites) in
    record {
      groups = on.groups;
      text = written_lines entries few delta.sites all
          ∙ ap (λ (ls : List (List ℕ)). lines_as (groups_head ∷ ls ++ end_line (length entries) ∷ []))
          (on.lines ∙ ap (λ (ts : List (List ℕ)). ts ++ flat_map group_lines on.groups) none.0);
      stand = on.stand;
      all = on.all ∙ ap (λ (ms : List Draft). numbered 0 1 ms ++ flat_map group_entries on.groups) none.1;
    }

-- ---- the text, part by part

pub whole_written : (head with_lines whole end : List ℕ) (entries : List Placed) → head ≡ ended groups_head → with_lines ≡ head ++ flat_map ended (lines_after 0 entries) → end ≡ ended (end_line (length entries)) → whole ≡ with_lines ++ end → whole ≡ written_delta entries
unfolding written_delta
whole_written head with_lines whole end entries first middle last all =
    let lines : List ℕ = flat_map ended (lines_after 0 entries) in
    all
    ∙ ap (λ (t : List ℕ). t ++ end) (middle ∙ ap (λ (t : List ℕ). t ++ lines) first)
    ∙ append_assoc (ended groups_head) lines end
    ∙ ap (λ (t : List ℕ). ended groups_head ++ (lines ++ t)) (last ∙ sym (append-nil (ended (end_line (length entries)))))
    ∙ ap (λ (t : List ℕ). ended groups_head ++ t) (sym (flat_map-append ended (lines_after 0 entries) (end_line (length entries) ∷ [])))
