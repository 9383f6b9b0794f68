-- The text of a written object: one line, its keys ascending, and of one message alone.
use Rattle.std.proofs.Common.{◌≡◌, ◌∙◌, ap, sym, refl, arith, inl, inr, ℕ, zero, suc, ◌<◌, ◌≤◌, ◌==◌, Bool, true, false, List, [], ◌∷◌, ◌++◌, Option, Some, None, Result, Ok}
use Rattle.std.specs.Prelude.{◌&&◌, not, option_and_then}
use Rattle.std.proofs.lemmas.Bool.{and_parts, and_from, cases_lt, cases_eq}
use Rattle.std.proofs.lemmas.Bool.Decides.{nat_tests}
use Rattle.std.proofs.lemmas.List.Folds.{list_all-append}
use Rattle.json.specs.Json as json
use Rattle.json.specs.Print.{escape_byte, escape, quoted}
use Rattle.json.specs.Tree as tree
use Rattle.json.proofs.Printed.Strings.{escape_byte_plain}
use Rattle.json.proofs.Printed.Trees.{document-print}
use Rattle.serde_json.specs.Data.{Data, string, array, object, Members, no_members, member, put}
use Rattle.serde_json.specs.Read.{of_json}
use Rattle.serde_json.specs.Written.{compact_text, items_text, members_text, outline, items_outline, members_outline}
use Rattle.serde_json.proofs.Texts.{print-outline}
use Rattle.sct_message.specs.declared.draft.RecallTx.{RecallTx}
use Rattle.sct_message.specs.declared.draft.Draft.{Draft}
use Rattle.sct_message.specs.Rules.{first_broken_rule}
use Rattle.sct_json.specs.declared.keys.Key.TheVariants as key
use Rattle.sct_json.specs.declared.faults.JsonFault.{JsonFault}
use Rattle.sct_json.specs.Keys.{key_text}
use Rattle.sct_json.specs.Names.{NamesAscend, NamesAscendInItems}
use Rattle.sct_json.specs.Reading.{object_in}
use Rattle.sct_json.specs.Writing.{with_rows, transaction_rows, transaction_objects, with_elements, written_object, written_text, has_no_line_feed, ElementsReadBack}
use Rattle.sct_json.proofs.Names.{ascend_none, ascend_put, same_value}
use Rattle.sct_json.proofs.Ordered.{object_back, written_shallow}
use Rattle.sct_json.proofs.Rows.{IsKept, kept_put, kept_rows, kept_written}
use Rattle.sct_json.proofs.Written.{written_is_read}

-- ---- the keys ascend

kept_ascending : IsKept (λ ms. NamesAscend (object ms))
kept_ascending k s ms all = ascend_put k (string s) ms tt all

objects_ascend : (txs : List RecallTx) → NamesAscendInItems (transaction_objects txs)
objects_ascend [] = tt
objects_ascend (tx ∷ txs) = (kept_rows (λ ms. NamesAscend (object ms)) kept_ascending (transaction_rows tx) no_members ascend_none, objects_ascend txs)

pub keys_ascend : (m : Draft) → (ms : Members) × (written_text m ≡ compact_text (object ms)) × NamesAscend (object ms)
unfolding written_text
keys_ascend m = (
  with_elements m no_members,
  refl,
  kept_written (λ ms. NamesAscend (object ms)) kept_ascending (λ txs ms all. ascend_put (key_text key.TxInf) (array (transaction_objects txs)) ms (objects_ascend txs) all) ascend_none m,
)

-- ---- one line

abbrev IsOneLine : List ℕ → Type 0
IsOneLine s = has_no_line_feed s ≡ true

both_one_line : (s t : List ℕ) → IsOneLine s → IsOneLine t → IsOneLine (s ++ t)
both_one_line s t p q = list_all-append (λ byte. not (byte == 10)) s t ∙ and_from _ _ p q

-- the escapes of the bytes below n
abbrev escapes_below : ℕ → Bool
escapes_below zero = true
escapes_below (suc n) = has_no_line_feed (escape_byte n) && escapes_below n

escape_below : (n : ℕ) → escapes_below n ≡ true → (x : ℕ) → x < n → IsOneLine (escape_byte x)
escape_below zero e x h = absurd (omega arith)
escape_below (suc n) e x h = let p = and_parts _ _ e in elim (cases_eq x n) [ inl same ↦ rw same p.0 | inr other ↦ escape_below n p.1 x (omega arith) ]

all_below : escapes_below 128 ≡ true
unfolding escape_byte
all_below = refl

byte_above : (x : ℕ) → 128 ≤ x → IsOneLine (x ∷ [])
byte_above x high = grind (arith, nat_tests)

escaped_byte : (x : ℕ) → IsOneLine (escape_byte x)
escaped_byte x = elim (cases_lt x 128) [
  | inl small ↦ escape_below 128 all_below x small
  | inr high ↦ ap has_no_line_feed (escape_byte_plain x (λ e. omega arith) (λ e. omega arith) (omega arith)) ∙ byte_above x high
]

escaped : (s : List ℕ) → IsOneLine (escape s)
escaped [] = refl
escaped (x ∷ s) = both_one_line (escape_byte x) (escape s) (escaped_byte x) (escaped s)

quoted_is_one_line : (s : List ℕ) → IsOneLine (quoted s)
quoted_is_one_line s = both_one_line (escape s) (34 ∷ []) (escaped s) refl

-- the text of each member is one line
abbrev AreLines : Members → Type 0
AreLines no_members = Unit {0}
AreLines (member k d ms) = IsOneLine (compact_text d) × AreLines ms

lines_put : (k : List ℕ) (d : Data) (ms : Members) → IsOneLine (compact_text d) → AreLines ms → AreLines (put k d ms)
lines_put k d ms here all =
    kept_put AreLines (λ _ value. IsOneLine (compact_text value))
    (record { none = tt; both = λ l e ns h rest. (h, rest); parts = λ l e ns h. h; mixed = λ j l e f h there. h }) k d here ms all

member_is_one_line : (k text rest : List ℕ) → IsOneLine text → IsOneLine rest → IsOneLine (quoted k ++ 58 ∷ (text ++ rest))
member_is_one_line k text rest here later = both_one_line (quoted k) (58 ∷ (text ++ rest)) (quoted_is_one_line k) (both_one_line text rest here later)

members_are_one_line : (later : Bool) (ms : Members) → AreLines ms → IsOneLine (members_text later ms)
members_are_one_line later no_members all = refl
members_are_one_line true (member k d ms) all = member_is_one_line k (compact_text d) (members_text true ms) all.0 (members_are_one_line true ms all.1)
members_are_one_line false (member k d ms) all = member_is_one_line k (compact_text d) (members_text true ms) all.0 (members_are_one_line true ms all.1)

kept_lines : IsKept AreLines
kept_lines k s ms all = lines_put k (string s) ms (quoted_is_one_line s) all

objects_are_one_line : (later : Bool) (txs : List RecallTx) → IsOneLine (items_text later (transaction_objects txs))
objects_are_one_line later [] = refl
objects_are_one_line true (tx ∷ txs) =
    both_one_line (compact_text (object (with_rows (transaction_rows tx) no_members))) (items_text true (transaction_objects txs))
    (members_are_one_line false (with_rows (transaction_rows tx) no_members) (kept_rows AreLines kept_lines (transaction_rows tx) no_members tt))
    (objects_are_one_line true txs)
objects_are_one_line false (tx ∷ txs) =
    both_one_line (compact_text (object (with_rows (transaction_rows tx) no_members))) (items_text true (transaction_objects txs))
    (members_are_one_line false (with_rows (transaction_rows tx) no_members) (kept_rows AreLines kept_lines (transaction_rows tx) no_members tt))
    (objects_are_one_line true txs)

lines_written : (m : Draft) → AreLines (with_elements m no_members)
lines_written m =
    kept_written AreLines kept_lines (λ txs ms all. lines_put (key_text key.TxInf) (array (transaction_objects txs)) ms (objects_are_one_line false txs) all) tt m

pub text_is_one_line : (m : Draft) → has_no_line_feed (written_text m) ≡ true
unfolding written_text
text_is_one_line m = members_are_one_line false (with_elements m no_members) (lines_written m)

pub text_begins : (m : Draft) → (rest : List ℕ) × (written_text m ≡ 123 ∷ rest)
unfolding written_text
text_begins m = (members_text false (with_elements m no_members), refl)

-- ---- one message

abbrev HaveNumbers : Members → Type 0
HaveNumbers ms = tree.MembersHaveNumbers (members_outline ms)

numbers_put : (k : List ℕ) (d : Data) (ms : Members) → tree.HasNumbers (outline d) → HaveNumbers ms → HaveNumbers (put k d ms)
numbers_put k d ms here all =
    kept_put HaveNumbers (λ _ value. tree.HasNumbers (outline value))
    (record { none = tt; both = λ l e ns h rest. (h, rest); parts = λ l e ns h. h; mixed = λ j l e f h there. h }) k d here ms all

kept_numbers : IsKept HaveNumbers
kept_numbers k s ms all = numbers_put k (string s) ms tt all

objects_have_numbers : (txs : List RecallTx) → tree.ItemsHaveNumbers (items_outline (transaction_objects txs))
objects_have_numbers [] = tt
objects_have_numbers (tx ∷ txs) = (kept_rows HaveNumbers kept_numbers (transaction_rows tx) no_members tt, objects_have_numbers txs)

numbers_written : (m : Draft) → HaveNumbers (with_elements m no_members)
numbers_written m =
    kept_written HaveNumbers kept_numbers (λ txs ms all. numbers_put (key_text key.TxInf) (array (transaction_objects txs)) ms (objects_have_numbers txs) all) tt m

-- the value that a text is
abbrev value_of : List ℕ → Option Data
value_of text = option_and_then of_json (json.document text)

value_written : (m : Draft) → value_of (written_text m) ≡ Some (written_object m)
unfolding written_text
value_written m =
    let line : json.Json = outline (written_object m) in
    let low = written_shallow m in
    ap value_of (sym (print-outline (written_object m)))
    ∙ ap (option_and_then of_json) (document-print line (numbers_written m) (omega (arith, low)))
    ∙ object_back m

same_object : (m n : Draft) → written_text m ≡ written_text n → written_object m ≡ written_object n
same_object m n same = same_value _ _ (sym (value_written m) ∙ ap value_of same ∙ value_written n)

ok_same : (m n : Draft) → ◌≡◌ {A = Result Draft JsonFault} (Ok m) (Ok n) → m ≡ n
ok_same m n e = cc

-- the elements of both read back, and follow the rules
pub same_message : (m n : Draft) → ElementsReadBack m → ElementsReadBack n → first_broken_rule m ≡ None → first_broken_rule n ≡ None → written_text m ≡ written_text n → m ≡ n
same_message m n m_back n_back m_rules n_rules same =
    ok_same m n (sym (written_is_read m m_back m_rules) ∙ ap object_in (same_object m n same) ∙ written_is_read n n_back n_rules)
