-- What is listed out of the tables of a view is what is listed of the set. Proof plumbing.
use Rattle.std.specs.FinSet as set
use Rattle.std.proofs.Common.{◌≡◌, ◌∙◌, refl, sym, ap, subst, ℕ, ◌==◌, ◌&&◌, Bool, true, false, cond, not, Option, Some, None, is_some, List, [], ◌∷◌, filter, length, arith}
use Rattle.std.specs.Option.{option_map_or}
use Rattle.std.specs.List.{dedup, dedup_from, list_any, IsDistinct}
use Rattle.std.proofs.lemmas.Bool.{false≢true, false_from_ne_true, or_left}
use Rattle.std.proofs.lemmas.Map.Keys.{IsDistinct-IsPermutation}
use Rattle.std.proofs.lemmas.Bool.Decides.{nat_tests}
use Rattle.std.specs.Global.{Global}
use Rattle.std.specs.declared.sync.Arc.{Arc}
use Rattle.std.specs.Cmp.{IsEquivalence}
use Rattle.std.specs.Cmp.Lexicographic.{nat_list_cmp_total, nat_list_eq_equiv, texts_ties}
use Rattle.std.specs.List.Sorted.{IsPermutation, IsSorted, IsStrictlySortedBy}
use Rattle.std.specs.Map.{keys_of, lookup}
use Rattle.std.proofs.lemmas.Cmp.{eq_by_cmp_equiv}
use Rattle.std.proofs.lemmas.List.{length-map}
use Rattle.std.proofs.lemmas.List.Kept.{IsStrictlySortedBy-filter}
use Rattle.std.proofs.lemmas.Map.Entries.{lookup-filter-values, option_filter}
use Rattle.std.proofs.lemmas.Map.Made.{is_some-lookup}
use Rattle.std.specs.Arc.{arc_value}
use Rattle.indexmap.specs.IndexMap.{IndexMap, get, IsUnique}
use Rattle.sct_element.specs.Text.{is_text}
use Rattle.sct_message.specs.Ascending.{ascending}
use Rattle.sct_message.specs.Order.{message_order, transfer_order, text_order}
use Rattle.sct_message.specs.OrderLaws.{message_total, message_same, transfer_total, transfers_same, transfer_ties}
use Rattle.sct_message.specs.Sets.{MessageSet, clean_messages, contradicted_messages, in_order, is_contradicted, messages_in}
use Rattle.sct_message.specs.Transfers.{is_on, keys_of as keys_held}
use Rattle.sct_message.specs.declared.draft.Draft.{Draft}
use Rattle.sct_message.specs.declared.keys.TransferKey.{TransferKey}
use Rattle.sct_set.specs.Buckets.{bucket, items_in}
use Rattle.sct_view.specs.Filed.{IsFiled, has_items}
use Rattle.sct_message.proofs.AscendingLemmas.{ascending-same, ascending-sort_dedup_plain, ascending-sorted, ascending_rises, any_ascending, members_ascending}
use Rattle.sct_view.specs.Kept.{Kept, kept_or_none, same_key, case_at, case_of, totals_or_none, totals_at}
use Rattle.sct_view.specs.Listed.{has_messages, is_something, keys_with}
use Rattle.sct_view.specs.Totals.{is_nothing, totals_of, banks_of}
use Rattle.sct_view.specs.declared.case.Case.{Case}
use Rattle.sct_view.specs.declared.totals.Totals.{Totals}
use Rattle.sct_view.proofs.BankLemmas.{told_where}
use Rattle.sct_view.proofs.KeyLemmas.{key_swap, same_key_is}
use Rattle.sct_message.specs.CellsBack.{texts_same}
use Rattle.sct_view.proofs.SetKeys.{apart_from_distinct, key-is_on}
use Rattle.sct_view.proofs.SumLemmas.{AreApart}
use Rattle.sct_view.proofs.RebuildLemmas.{filed-contents}
use Rattle.sct_view.proofs.StandingLemmas.{some_left, split}

-- ---- the entries of a map that pass a test

filtered : {V : Type 0} (p : V → Bool) (o : Option V) → is_some (option_filter p o) ≡ option_map_or p o false
filtered p o = grind arith

-- a key is among them exactly where what the map has of it passes
found_passing : {K V : Type 0} {E : K → K → Bool} (p : V → Bool) → IsEquivalence E → (q : K) (es : List (K × V)) → IsDistinct E (keys_of es)
    → list_any (E q) (keys_with p es) ≡ option_map_or p (lookup (E q) es) false
found_passing {E = E} p same q es h = sym (is_some-lookup (E q) _) ∙ ap is_some (lookup-filter-values same p q es h) ∙ filtered p (lookup (E q) es)

-- ---- keys

-- some message is kept of a transfer
abbrev has_kept : Kept → Bool
has_kept case = not (length case.clean == 0 && length case.contradicted == 0)

has_kept-case : (o : Option Case) → option_map_or has_messages o false ≡ has_kept (kept_or_none o)
has_kept-case None = refl
has_kept-case (Some c) =
    λ i. not (sym (length-map c.clean.items arc_value) i == 0 && sym (length-map c.contradicted.items arc_value) i == 0)

has_kept-held : (s : MessageSet) (t : TransferKey) → has_kept (case_of s t) ≡ list_any (is_on t) (in_order s)
unfolding case_of
has_kept-held s t =
    grind (arith, some_left (is_on t) (clean_messages s), some_left (is_on t) (contradicted_messages s), split (is_on t) (is_contradicted s) (in_order s))

-- the transfers of which messages are kept, ascending, are the set's keys
pub keys_listed : {S : Type 0} (s : MessageSet) (cases : IndexMap TransferKey Case S) → IsUnique same_key cases
    → ((t : TransferKey) → case_at cases t ≡ case_of s t)
    → ascending transfer_order (keys_with has_messages cases.entries) ≡ keys_held s
keys_listed s cases unique are =
    ascending-same transfer_total transfers_same _ _ (λ q.
    found_passing has_messages (eq_by_cmp_equiv transfer_total) q cases.entries (subst (λ E. IsUnique E cases) same_key_is unique)
    ∙ ap (λ E. option_map_or has_messages (get E cases q) false) (sym same_key_is)
    ∙ has_kept-case (get same_key cases q)
    ∙ ap has_kept (are q)
    ∙ has_kept-held s q
    ∙ any_ascending message_total message_same (is_on q) (set.items s)
    ∙ sym (key-is_on s q)
    ∙ members_ascending transfer_total transfers_same _ q)

-- to drop repeats drops nothing of keys that are apart
apart_from : {K : Type 0} (E : K → K → Bool) → ((x y : K) → E x y ≡ E y x) → (k : K) (xs : List K) → AreApart E (k ∷ xs) → dedup_from E k xs ≡ k ∷ xs
apart_from E flips k [] apart = refl
apart_from E flips k (x ∷ xs) apart =
    let other : E x k ≡ false = flips x k ∙ false_from_ne_true (E k x) (λ e. false≢true (sym apart.0 ∙ or_left (E k x) (list_any (E k) xs) e)) in
    ap (λ b. cond b (dedup_from E k xs) (k ∷ dedup_from E x xs)) other ∙ ap (λ ys. k ∷ ys) (apart_from E flips x xs apart.1)

all_apart : {K : Type 0} (E : K → K → Bool) → ((x y : K) → E x y ≡ E y x) → (xs : List K) → AreApart E xs → dedup E xs ≡ xs
all_apart E flips [] apart = refl
all_apart E flips (x ∷ xs) apart = apart_from E flips x xs apart

-- transfers that are apart, once sorted, are the ascending ones
pub sorted_apart : (ts sorted : List TransferKey) → IsDistinct same_key ts → IsPermutation ts sorted → IsSorted transfer_order sorted
    → sorted ≡ ascending transfer_order ts
sorted_apart ts sorted apart moved rises =
    sym (all_apart same_key key_swap sorted (apart_from_distinct same_key sorted (IsDistinct-IsPermutation same_key key_swap ts sorted moved apart)))
    ∙ ascending-sort_dedup_plain transfer_total transfers_same same_key transfer_ties ts sorted moved rises

-- ---- banks

something_at : (o : Option Totals) → option_map_or is_something o false ≡ is_something (totals_or_none o)
something_at o = grind arith

pub banks_rise : (s : MessageSet) → IsStrictlySortedBy text_order (banks_of s)
unfolding banks_of
banks_rise s = IsStrictlySortedBy-filter text_order (λ bank. not (is_nothing (totals_of s bank))) _ (ascending_rises nat_list_cmp_total texts_same _)

-- the banks of which totals are kept, ascending, are those that have totals
pub banks_listed : {S : Type 0} (s : MessageSet) (totals : IndexMap (List ℕ) Totals S) → IsUnique is_text totals
    → ((bank : List ℕ) → totals_at totals bank ≡ totals_of s bank)
    → ascending text_order (keys_with is_something totals.entries) ≡ banks_of s
banks_listed s totals unique are =
    ascending-same nat_list_cmp_total texts_same _ _ (λ q.
    subst (λ (E : List ℕ → List ℕ → Bool). list_any (E q) (keys_with is_something totals.entries) ≡ list_any (E q) (banks_of s)) (λ i s t. texts_ties s t i)
    (found_passing is_something nat_list_eq_equiv q totals.entries unique
    ∙ something_at (get is_text totals q)
    ∙ ap is_something (are q)
    ∙ sym (told_where s q)))
    ∙ ascending-sorted nat_list_cmp_total texts_same (banks_of s) (banks_rise s)

-- ---- an index

has_items-at : {V : Type 0} (o : Option (List V)) → option_map_or has_items o false ≡ has_items (items_in o)
has_items-at None = refl
has_items-at (Some items) = refl

some_item : {V : Type 0} (items : List V) → has_items items ≡ list_any (λ _. true) items
some_item [] = refl
some_item (x ∷ xs) = grind (arith, nat_tests)

has_items-filed : (s : MessageSet) (t : TransferKey) (found : List (Arc Draft Global))
    → ascending message_order (messages_in found) ≡ filter (is_on t) (in_order s) → has_items found ≡ list_any (is_on t) (in_order s)
has_items-filed s t found filed =
    (λ i. not (sym (length-map found arc_value) i == 0))
    ∙ some_item (messages_in found)
    ∙ sym (any_ascending message_total message_same (λ _. true) (messages_in found))
    ∙ ap (list_any (λ _. true)) filed
    ∙ sym (some_item (filter (is_on t) (in_order s)))
    ∙ some_left (is_on t) (in_order s)

-- the transfers under which an index files messages of a set, ascending, are the set's keys
pub keys_filed : {S : Type 0} (s : MessageSet) (index : IndexMap TransferKey (List (Arc Draft Global)) S) → IsUnique same_key index
    → IsFiled s index → ascending transfer_order (keys_with has_items index.entries) ≡ keys_held s
keys_filed s index unique filed =
    ascending-same transfer_total transfers_same _ _ (λ q.
    found_passing has_items (eq_by_cmp_equiv transfer_total) q index.entries (subst (λ E. IsUnique E index) same_key_is unique)
    ∙ ap (λ E. option_map_or has_items (get E index q) false) (sym same_key_is)
    ∙ has_items-at (get same_key index q)
    ∙ has_items-filed s q (bucket same_key index q) (filed-contents s q filed.0 _ filed.1 (filed.2 q))
    ∙ any_ascending message_total message_same (is_on q) (set.items s)
    ∙ sym (key-is_on s q)
    ∙ members_ascending transfer_total transfers_same _ q)
