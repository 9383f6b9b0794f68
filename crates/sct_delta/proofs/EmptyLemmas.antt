-- What is kept once empty logs and counts of 0 are dropped. Proof plumbing.
use Rattle.std.proofs.Common.{ℕ, zero, suc, ◌≡◌, ◌≤◌, ◌==◌, List, [], ◌∷◌, Bool, true, false, cond, not, All, Option, Some, None, map, filter, length, refl, ap, ◌∙◌, arith}
use Rattle.std.specs.Prelude.{nat_lt, vec_len}
use Rattle.std.specs.Arc.{arc_value}
use Rattle.std.specs.BTreeMap.{is_at}
use Rattle.std.specs.Cmp.{eq_by_cmp_equiv, nat_cmp_total}
use Rattle.std.specs.Global.{Vec, Global}
use Rattle.std.specs.List.Sorted.{IsStrictlySortedBy}
use Rattle.std.specs.Map.{lookup, keys_of}
use Rattle.std.specs.Ordering.{nat_cmp}
use Rattle.std.specs.declared.sync.Arc.{Arc}
use Rattle.std.proofs.lemmas.Bool.Decides.{nat_tests}
use Rattle.std.proofs.lemmas.List.Elements.{filter_passes, All-weaker}
use Rattle.std.proofs.lemmas.Map.Entries.{lookup-filter-values, option_filter}
use Rattle.std.proofs.lemmas.Map.Keys.{IsDistinct-from_sorted}
use Rattle.sct_message.specs.declared.draft.Draft.{Draft}
use Rattle.sct_delta.specs.Shelves.{messages_in_log}
use Rattle.sct_delta.specs.Vectors.{count_or_0}

-- a look-up among the entries whose values pass a test
kept_at : {X : Type 0} (p : X → Bool) (k : ℕ) (es : List (ℕ × X)) → IsStrictlySortedBy nat_cmp (keys_of es)
    → lookup (is_at (nat_cmp k)) (filter (λ e. p e.1) es) ≡ option_filter p (lookup (is_at (nat_cmp k)) es)
kept_at p k es ordered = lookup-filter-values (eq_by_cmp_equiv nat_cmp_total) p k es (IsDistinct-from_sorted nat_cmp (keys_of es) ordered)

-- ---- counts

abbrev pub is_counted : ℕ → Bool
is_counted count = nat_lt 0 count

count_kept : (found : Option ℕ) → count_or_0 (option_filter is_counted found) ≡ count_or_0 found
count_kept None = refl
count_kept (Some zero) = refl
count_kept (Some (suc count)) = let above : nat_lt 0 (suc count) ≡ true = grind (arith, nat_tests) in rw above refl

pub counts_kept : (k : ℕ) (old kept : List (ℕ × ℕ)) → IsStrictlySortedBy nat_cmp (keys_of old) → kept ≡ filter (λ e. is_counted e.1) old
    → count_or_0 (lookup (is_at (nat_cmp k)) kept) ≡ count_or_0 (lookup (is_at (nat_cmp k)) old)
counts_kept k old kept ordered is =
    ap (λ (es : List (ℕ × ℕ)). count_or_0 (lookup (is_at (nat_cmp k)) es)) is
    ∙ ap count_or_0 (kept_at is_counted k old ordered) ∙ count_kept (lookup (is_at (nat_cmp k)) old)

above_0 : (count : ℕ) → is_counted count ≡ true → 1 ≤ count
above_0 count h = grind (arith, nat_tests, h)

pub all_counted : (old kept : List (ℕ × ℕ)) → kept ≡ filter (λ e. is_counted e.1) old → All (λ e. 1 ≤ e.1) kept
all_counted old kept is = rw is (All-weaker _ _ (λ e some. above_0 e.1 some) _ (filter_passes (λ e. is_counted e.1) old))

-- ---- logs

abbrev pub Log : Type 0
Log = Vec (Arc Draft Global)

abbrev pub is_filled : Log → Bool
is_filled log = not (vec_len log == 0)

none_left : (items : List (Arc Draft Global)) → length items ≡ 0 → [] ≡ map arc_value items
none_left [] none = refl
none_left (item ∷ items) none = absurd (omega (arith, none))

no_length : (log : Log) → is_filled log ≡ false → length log.items ≡ 0
no_length log empty = let len : vec_len log ≡ length log.items = log.ok.0 in grind (arith, nat_tests, len, empty)

messages_kept : (found : Option Log) → messages_in_log (option_filter is_filled found) ≡ messages_in_log found
messages_kept None = refl
messages_kept (Some log) =
    elim (is_filled log) as (λ filled. is_filled log ≡ filled → messages_in_log (cond filled (Some log) None) ≡ messages_in_log (Some log)) [
      | true ↦ λ some. refl
      | false ↦ λ empty. none_left log.items (no_length log empty)
    ] refl

pub logs_kept : (k : ℕ) (old kept : List (ℕ × Log)) → IsStrictlySortedBy nat_cmp (keys_of old) → kept ≡ filter (λ e. is_filled e.1) old
    → messages_in_log (lookup (is_at (nat_cmp k)) kept) ≡ messages_in_log (lookup (is_at (nat_cmp k)) old)
logs_kept k old kept ordered is =
    ap (λ (es : List (ℕ × Log)). messages_in_log (lookup (is_at (nat_cmp k)) es)) is
    ∙ ap messages_in_log (kept_at is_filled k old ordered) ∙ messages_kept (lookup (is_at (nat_cmp k)) old)

some_message : (log : Log) → is_filled log ≡ true → 1 ≤ length log.items
some_message log some = let len : vec_len log ≡ length log.items = log.ok.0 in grind (arith, nat_tests, len, some)

pub all_filled : (old kept : List (ℕ × Log)) → kept ≡ filter (λ e. is_filled e.1) old → All (λ e. 1 ≤ length e.1.items) kept
all_filled old kept is = rw is (All-weaker _ _ (λ e some. some_message e.1 some) _ (filter_passes (λ e. is_filled e.1) old))
