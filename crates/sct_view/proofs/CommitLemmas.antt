-- Totals that are the sums of the shares of all transfers, and one case in the place of another. Proof plumbing.
use Rattle.std.proofs.Common.{◌≡◌, ◌∙◌, refl, sym, ap, subst, ℕ, ◌<◌, ◌^◌, Bool, true, false, cond, ◌&&◌, ◌||◌, List, ◌∷◌, length, filter, arith}
use Rattle.std.specs.FinSet as set
use Rattle.std.specs.List.{flat_map, list_any, sum_by}
use Rattle.std.specs.Map.{keys_of}
use Rattle.std.proofs.lemmas.Bool.{or_parts}
use Rattle.std.proofs.lemmas.List.{length-map}
use Rattle.std.proofs.lemmas.Map.Made.{is_some-lookup}
use Rattle.std.proofs.lemmas.Map.Views.{any-filter_same}
use Rattle.indexmap.specs.IndexMap.{IndexMap, get}
use Rattle.sct_message.specs.Ascending.{ascending}
use Rattle.sct_message.specs.Keys.{transfers_of}
use Rattle.sct_message.specs.Order.{same_transfer, transfer_order}
use Rattle.sct_message.specs.OrderLaws.{transfer_total, transfers_same}
use Rattle.sct_message.specs.Sets.{MessageSet}
use Rattle.sct_message.specs.declared.keys.TransferKey.{TransferKey}
use Rattle.sct_message.proofs.AscendingLemmas.{any_ascending, ascending_rises, ascending-filter, ascending-same}
use Rattle.sct_view.specs.Answers.{is_originator}
use Rattle.sct_view.specs.Kept.{Kept, case_at, case_of, kept_or_none, no_messages, same_key, share_in, AreSums, IsInRange, IsSmall, IsUpTo}
use Rattle.sct_view.specs.Totals.{nothing, plus, share, totals_of, totals_over}
use Rattle.sct_view.specs.declared.case.Case.{Case}
use Rattle.sct_view.specs.declared.totals.Totals.{Totals}
use Rattle.sct_view.proofs.ChangeLemmas.{nothing_kept}
use Rattle.sct_view.proofs.KeyLemmas.{key_itself, key_swap, keys_apart, same_key_is}
use Rattle.sct_message.proofs.SameValues.{transfer_is}
use Rattle.sct_view.proofs.SetKeys.{apart_from_rises, shorter}
use Rattle.sct_view.proofs.SumLemmas.{AreApart, sum_kept, sum_none}
use Rattle.sct_view.proofs.TableLemmas.{none_is}
use Rattle.sct_view.proofs.TotalsLemmas.{Cases, totals_alike, totals_by, totals_same, part_of_shares, shares_alike, shares_in_range, shares_replaced}

-- ---- transfers without a share

nothing_either : (b : Bool) → cond b nothing nothing ≡ nothing
nothing_either true = refl
nothing_either false = refl

-- a transfer of which nothing is kept has no share
pub no_share : (bank : List ℕ) (t : TransferKey) → share_in bank t no_messages ≡ nothing
unfolding share
no_share bank t = ap (λ (x : Totals). plus x (cond false nothing nothing)) (nothing_either (is_originator bank t))

-- totals do not change where transfers without a share are left out
pub totals_picked : (f : TransferKey → Totals) (p : TransferKey → Bool) → ((t : TransferKey) → p t ≡ false → f t ≡ nothing)
    → (ts : List TransferKey) → totals_over f (filter p ts) ≡ totals_over f ts
totals_picked f p none ts =
    let number = λ (n : Totals → ℕ) (zero_of : n nothing ≡ 0). sum_kept (λ t. n (f t)) p (λ t e. ap n (none t e) ∙ zero_of) ts in
    totals_same (totals_over f (filter p ts)) (totals_over f ts) (number (λ t. t.sent) refl) (number (λ t. t.sent_cents) refl)
    (number (λ t. t.returned_in) refl) (number (λ t. t.rejected) refl) (number (λ t. t.waiting) refl) (number (λ t. t.missing) refl)
    (number (λ t. t.contradicted) refl) (number (λ t. t.received) refl) (number (λ t. t.received_cents) refl)
    (number (λ t. t.returned_out) refl)

within : (a b : Bool) → (a && (b || a)) ≡ a
within true true = refl
within true false = refl
within false b = refl

-- one transfer more adds nothing, where the transfers outside of the list have no share
one_more : (E : TransferKey → TransferKey → Bool) → E ≡ same_transfer → (f : TransferKey → Totals) (t : TransferKey) (ts : List TransferKey)
    → ((k : TransferKey) → list_any (E k) ts ≡ false → f k ≡ nothing)
    → totals_over f (ascending transfer_order (t ∷ ts)) ≡ totals_over f (ascending transfer_order ts)
one_more E is f t ts none =
    let p = λ (k : TransferKey). list_any (same_transfer k) ts in
    sym (totals_picked f p (λ k e. none k (ap (λ (F : TransferKey → TransferKey → Bool). list_any (F k) ts) is ∙ e)) (ascending transfer_order (t ∷ ts)))
    ∙ ap (totals_over f)
    (sym (ascending-filter transfer_total transfers_same p (t ∷ ts))
    ∙ ascending-same transfer_total transfers_same (filter p (t ∷ ts)) ts (λ q.
    any-filter_same (same_transfer q) p (p q) (λ k e. ap p (sym (transfer_is q k e))) (t ∷ ts) ∙ within (p q) (same_transfer q t)))

-- ---- sums

-- what is true of the tables of a view
abbrev pub AreTables : Cases → (List ℕ → Totals) → Type 0
AreTables cases totals = record { summed : AreSums cases totals; small : (t : TransferKey) → IsSmall (cases t) }

-- it is true of tables that show the same
pub tables_alike : (cases later_cases : Cases) (totals later_totals : List ℕ → Totals) → AreSums cases totals → ((t : TransferKey) → IsSmall (cases t))
    → ((t : TransferKey) → later_cases t ≡ cases t) → ((p : List ℕ) → later_totals p ≡ totals p) → AreTables later_cases later_totals
tables_alike cases later_cases totals later_totals sums small same_cases same_totals = record {
  summed = λ transfers none p.
      same_totals p
      ∙ sums transfers (λ t e. sym (same_cases t) ∙ none t e) p
      ∙ sym (shares_alike cases later_cases same_cases (ascending transfer_order transfers) p);
  small = λ t. subst IsSmall (sym (same_cases t)) (small t);
}

-- and of tables that show nothing
pub empty_tables : (cases : Cases) (totals : List ℕ → Totals) → ((t : TransferKey) → cases t ≡ no_messages) → ((p : List ℕ) → totals p ≡ nothing)
    → AreTables cases totals
empty_tables cases totals none zero = record {
  summed = λ transfers _ p.
      let ts = ascending transfer_order transfers in
      let zero_sum : sum_by (λ (t : TransferKey). 0) ts ≡ 0 = sum_none (λ t. 0) (λ t. refl) ts in
      zero p
      ∙ sym (totals_alike (λ t. share_in p t (cases t)) (λ t. nothing) (λ t. ap (share_in p t) (none t) ∙ no_share p t) ts
      ∙ totals_same (totals_over (λ t. nothing) ts) nothing zero_sum zero_sum zero_sum zero_sum zero_sum zero_sum zero_sum zero_sum zero_sum zero_sum);
  small = λ t. subst IsSmall (sym (none t)) (record { instructed = omega arith; back = omega arith });
}

-- where the cases are those of a set of messages, the sums are its totals
pub sums_told : (s : MessageSet) (cases : Cases) (totals : List ℕ → Totals) → AreSums cases totals → ((t : TransferKey) → cases t ≡ case_of s t)
    → (p : List ℕ) → totals p ≡ totals_of s p
unfolding case_of totals_of
sums_told s cases totals sums same p =
    let keys = flat_map transfers_of (set.items s) in
    sums keys (λ t e. same t ∙ nothing_kept s t (any_ascending transfer_total transfers_same (same_key t) keys ∙ e)) p
    ∙ shares_alike (λ t. case_of s t) cases same (ascending transfer_order keys) p

-- ---- one case in the place of another

module _ (cases : Cases) (totals : List ℕ → Totals) (sums : AreSums cases totals) (t : TransferKey) (anew : Kept) where
  -- the cases, with another one at a transfer
  abbrev with_case : Cases
  with_case = λ k. cond (same_key t k) anew (cases k)

  elsewhere : (k : TransferKey) → same_key t k ≡ false → with_case k ≡ cases k
  elsewhere k e = ap (λ (b : Bool). cond b anew (cases k)) e

  pub small_with : ((k : TransferKey) → IsSmall (cases k)) → IsSmall anew → (k : TransferKey) → IsSmall (with_case k)
  small_with small h k = elim (same_key t k) as (λ b. IsSmall (cond b anew (cases k))) [ true ↦ h | false ↦ small k ]

  -- sums over the transfer and some others, outside of which nothing is kept
  module _ (others : List TransferKey) (none : (k : TransferKey) → list_any (same_key k) (t ∷ others) ≡ false → cases k ≡ no_messages) where
    abbrev all : List TransferKey
    all = ascending transfer_order (t ∷ others)

    among : list_any (same_key t) all ≡ true
    among = any_ascending transfer_total transfers_same (same_key t) (t ∷ others) ∙ ap (λ b. b || list_any (same_key t) others) (key_itself t)

    apart : AreApart same_key all
    apart =
        subst (λ (E : TransferKey → TransferKey → Bool). AreApart E all) (sym same_key_is)
        (apart_from_rises transfer_order all (ascending_rises transfer_total transfers_same (t ∷ others)))

    -- the old share can be subtracted
    within_totals : (p : List ℕ) → IsUpTo (share_in p t (cases t)) (totals p)
    within_totals p = subst (IsUpTo (share_in p t (cases t))) (sym (sums (t ∷ others) none p)) (part_of_shares same_key keys_apart cases t all among p)

    -- with the new one the totals are those of the new cases
    replaced : (rest : Totals) (p : List ℕ) → plus rest (share_in p t (cases t)) ≡ totals p → plus rest (share_in p t anew) ≡ totals_by with_case all p
    replaced rest p taken =
        ap (λ (b : Bool). plus rest (share_in p t (cond b anew (cases t)))) (sym (key_itself t))
        ∙ shares_replaced same_key keys_apart cases with_case t all apart among elsewhere p rest (taken ∙ sums (t ∷ others) none p)

  -- the sums are those of the new cases
  pub sums_with : (rest later : List ℕ → Totals) → ((p : List ℕ) → plus (rest p) (share_in p t (cases t)) ≡ totals p)
      → ((p : List ℕ) → later p ≡ plus (rest p) (share_in p t anew)) → AreSums with_case later
  sums_with rest later taken put others none p =
      put p
      ∙ replaced others (λ k e. let away = or_parts (same_key k t) (list_any (same_key k) others) e in sym (elsewhere k (key_swap t k ∙ away.0)) ∙ none k away.1)
      (rest p) p (taken p)
      ∙ one_more same_key same_key_is (λ k. share_in p k (with_case k)) t others (λ k e. ap (share_in p k) (none k e) ∙ no_share p k)

-- A table of few places.
module _ {S : Type 0} (table : IndexMap TransferKey Case S) (totals : List ℕ → Totals) (sums : AreSums (case_at table) totals) (t : TransferKey) where
  abbrev placed : List TransferKey
  placed = keys_of table.entries

  -- outside of its places nothing is kept
  none_elsewhere : (k : TransferKey) → list_any (same_key k) (t ∷ placed) ≡ false → case_at table k ≡ no_messages
  none_elsewhere k e =
      let away = or_parts (same_key k t) (list_any (same_key k) placed) e in
      ap kept_or_none (none_is (get same_key table k) (is_some-lookup (same_key k) table.entries ∙ away.1))

  -- what is kept of a transfer can be taken out
  pub taken_within : (p : List ℕ) → IsUpTo (share_in p t (case_at table t)) (totals p)
  taken_within = within_totals (case_at table) totals sums t no_messages placed none_elsewhere

  -- and a new case can be put in
  pub put_fits : (anew : Kept) (rest : List ℕ → Totals) → ((p : List ℕ) → plus (rest p) (share_in p t (case_at table t)) ≡ totals p)
      → ((k : TransferKey) → IsSmall (case_at table k)) → length table.entries < 2 ^ 63 → IsSmall anew
      → (p : List ℕ) → IsInRange (plus (rest p) (share_in p t anew))
  put_fits anew rest taken small few h p =
      let all = ascending transfer_order (t ∷ placed) in
      let most : length all < 2 ^ 64 =
      omega (arith, shorter transfer_total (t ∷ placed), length-map table.entries (λ (e : TransferKey × Case). e.0), few) in
      subst IsInRange (sym (replaced (case_at table) totals sums t anew placed none_elsewhere (rest p) p (taken p)))
      (shares_in_range (λ k. cond (same_key t k) anew (case_at table k)) all (small_with (case_at table) totals sums t anew small h) most p)
