-- In a list of transactions in the order of their recalls, two of one recall are neighbours.
use Rattle.std.proofs.Common.{◌≡◌, ◌∙◌, ap, sym, subst, refl, Bool, true, false, cond, ◌||◌, List, [], ◌∷◌, Ordering}
use Rattle.std.specs.List.{list_any, dedup, dedup_from, AllByRecursion, IsDistinct}
use Rattle.std.specs.List.Sorted.{IsPermutation, IsSorted}
use Rattle.std.specs.Cmp.{IsTotalOrder, IsEquivalence, on_total}
use Rattle.std.proofs.lemmas.Bool.{or_parts, or_right, false_from_ne_true, false≢true}
use Rattle.std.proofs.lemmas.Cmp.{eq_by_cmp_equiv}
use Rattle.std.proofs.lemmas.List.Kept.{IsStrictlySortedBy-dedup}
use Rattle.std.proofs.lemmas.List.Sorted.{IsPermutation-sym}
use Rattle.std.proofs.lemmas.Map.Keys.{IsDistinct-from_sorted, IsDistinct-IsPermutation}
use Rattle.sct_message.specs.declared.draft.RecallTx.{RecallTx}
use Rattle.sct_message.specs.Recalls.{recall_in, have_same_recall}
use Rattle.sct_message.specs.KeyOrders.{recall_order}
use Rattle.sct_message.specs.OrderLaws.{recall_total}
use Rattle.sct_message.specs.Neighbours.{recalls_next, repeats_next}
use Rattle.sct_message.specs.Rules.{repeats}

-- ---- transactions in the order of their recalls

abbrev pub by_recall : RecallTx → RecallTx → Ordering
by_recall s t = recall_order (recall_in s) (recall_in t)

pub by_recall_total : IsTotalOrder by_recall
by_recall_total = on_total recall_in recall_total

sharing : IsEquivalence have_same_recall
sharing = eq_by_cmp_equiv by_recall_total

-- ---- to name no recall twice is to keep all apart

apart_from : (tx : RecallTx) (txs : List RecallTx) → list_any (have_same_recall tx) txs ≡ false → AllByRecursion (λ other. have_same_recall tx other ≡ false) txs
apart_from tx [] e = tt
apart_from tx (other ∷ txs) e = let parts = or_parts _ _ e in (parts.0, apart_from tx txs parts.1)

none_among : (tx : RecallTx) (txs : List RecallTx) → AllByRecursion (λ other. have_same_recall tx other ≡ false) txs → list_any (have_same_recall tx) txs ≡ false
none_among tx [] h = refl
none_among tx (other ∷ txs) h = (λ n. h.0 n || none_among tx txs h.1 n)

pub apart_where_none : (txs : List RecallTx) → repeats txs ≡ false → IsDistinct have_same_recall txs
unfolding IsDistinct
apart_where_none [] e = tt
apart_where_none (tx ∷ txs) e = let parts = or_parts _ _ e in (apart_from tx txs parts.0, apart_where_none txs parts.1)

pub none_where_apart : (txs : List RecallTx) → IsDistinct have_same_recall txs → repeats txs ≡ false
unfolding IsDistinct
none_where_apart [] h = refl
none_where_apart (tx ∷ txs) h = (λ n. none_among tx txs h.0 n || none_where_apart txs h.1 n)

-- ---- neighbours

-- a neighbour is one of those behind
next_is_among : (tx : RecallTx) (txs : List RecallTx) → recalls_next tx txs ≡ true → list_any (have_same_recall tx) txs ≡ true
next_is_among tx [] e = absurd (false≢true e)
next_is_among tx (other ∷ txs) e = ap (λ b. b || list_any (have_same_recall tx) txs) e

repeated_where_next : (txs : List RecallTx) → repeats_next txs ≡ true → repeats txs ≡ true
repeated_where_next [] e = absurd (false≢true e)
repeated_where_next (tx ∷ txs) e =
    elim (recalls_next tx txs) as (λ b. recalls_next tx txs ≡ b → (b || repeats_next txs) ≡ true → repeats (tx ∷ txs) ≡ true) [
      | true ↦ λ here _. ap (λ b. b || repeats txs) (next_is_among tx txs here)
      | false ↦ λ _ later. ap (λ b. list_any (have_same_recall tx) txs || b) (repeated_where_next txs later) ∙ or_right (list_any (have_same_recall tx) txs) true refl
    ] refl e

-- where no neighbours are one recall, to drop repeats drops nothing
none_dropped : (tx : RecallTx) (txs : List RecallTx) → repeats_next (tx ∷ txs) ≡ false → dedup_from have_same_recall tx txs ≡ tx ∷ txs
none_dropped tx [] e = refl
none_dropped tx (next ∷ txs) e =
    let parts = or_parts _ _ e in
    ap (λ b. cond b (dedup_from have_same_recall tx txs) (tx ∷ dedup_from have_same_recall next txs)) (sharing.symm next tx ∙ parts.0)
    ∙ ap (λ (others : List RecallTx). tx ∷ others) (none_dropped next txs parts.1)

all_kept : (txs : List RecallTx) → repeats_next txs ≡ false → dedup have_same_recall txs ≡ txs
all_kept [] e = refl
all_kept (tx ∷ txs) e = none_dropped tx txs e

apart_in_order : (txs : List RecallTx) → IsSorted by_recall txs → repeats_next txs ≡ false → IsDistinct have_same_recall txs
apart_in_order txs sorted e =
    subst (λ (kept : List RecallTx). IsDistinct have_same_recall kept) (all_kept txs e)
    (IsDistinct-from_sorted by_recall _ (IsStrictlySortedBy-dedup by_recall_total (λ s t. refl) txs sorted))

none_next : (txs : List RecallTx) → repeats txs ≡ false → repeats_next txs ≡ false
none_next txs none = false_from_ne_true _ (λ next. false≢true (sym none ∙ repeated_where_next txs next))

-- two tests that fail together are one test
fail_alike : (s t : Bool) → (s ≡ false → t ≡ false) → (t ≡ false → s ≡ false) → s ≡ t
fail_alike true true f g = refl
fail_alike true false f g = g refl
fail_alike false true f g = sym (f refl)
fail_alike false false f g = refl

moved_apart : (xs ys : List RecallTx) → IsPermutation xs ys → IsDistinct have_same_recall xs → IsDistinct have_same_recall ys
moved_apart xs ys = IsDistinct-IsPermutation have_same_recall sharing.symm xs ys

-- the list names a recall twice exactly where two neighbours of the list in order are one recall
pub repeats_sorted : (xs ys : List RecallTx) → IsPermutation xs ys → IsSorted by_recall ys → repeats_next ys ≡ repeats xs
repeats_sorted xs ys moved sorted =
    fail_alike (repeats_next ys) (repeats xs)
    (λ none. none_where_apart xs (moved_apart ys xs (IsPermutation-sym xs ys moved) (apart_in_order ys sorted none)))
    (λ none. none_next ys (none_where_apart ys (moved_apart xs ys moved (apart_where_none xs none))))
