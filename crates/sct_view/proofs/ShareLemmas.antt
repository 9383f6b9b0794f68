-- Totals that are summed part by part. Proof plumbing.
use Rattle.std.proofs.Common.{◌≡◌, ◌∙◌, refl, sym, ap, subst, ℕ, zero, suc, ◌+◌, ◌<◌, ◌≤◌, ◌^◌, Bool, true, false, cond, not, ◌&&◌, ◌||◌, List, [], ◌∷◌, ◌++◌, length, take, get_or, filter, Option, Some, arith, length-append}
use Rattle.std.specs.Global.{Global}
use Rattle.std.specs.List.{list_any, sum_by, IsDistinct}
use Rattle.std.specs.List.Sorted.{IsStrictlySortedBy}
use Rattle.std.specs.Map.{keys_of, lookup}
use Rattle.std.specs.Cmp.{eq_by_cmp_equiv}
use Rattle.std.specs.Cmp.Lexicographic.{nat_list_eq_equiv}
use Rattle.std.specs.declared.sync.Arc.{Arc}
use Rattle.std.proofs.lemmas.Bool.{false≢true}
use Rattle.std.proofs.lemmas.Grind.{take_at_read}
use Rattle.std.proofs.lemmas.List.Sums.{sum_by-append, sum_by-cons}
use Rattle.std.proofs.lemmas.Map.Made.{is_some-lookup}
use Rattle.std.proofs.lemmas.Map.Views.{any-filter_same}
use Rattle.indexmap.specs.IndexMap.{IndexMap, keys, IsUnique}
use Rattle.sct_element.specs.Text.{is_text}
use Rattle.sct_message.specs.Ascending.{ascending}
use Rattle.sct_message.specs.Keys.{transfers_of}
use Rattle.sct_message.specs.Order.{same_transfer, transfer_order}
use Rattle.sct_message.specs.OrderLaws.{transfer_total, transfers_same}
use Rattle.sct_message.specs.Sets.{MessageSet}
use Rattle.std.specs.FinSet as set
use Rattle.std.specs.List.{flat_map}
use Rattle.sct_message.specs.declared.draft.Draft.{Draft}
use Rattle.sct_message.specs.declared.keys.TransferKey.{TransferKey}
use Rattle.sct_message.proofs.AscendingLemmas.{any_ascending, ascending-filter, ascending-same, ascending-sorted, ascending_rises}
use Rattle.sct_message.proofs.SameValues.{text_is, transfer_is}
use Rattle.sct_message.proofs.Tests.{and_comm}
use Rattle.sct_view.specs.Filed.{IsFiled}
use Rattle.sct_view.specs.Kept.{Kept, case_of, same_key, share_in, totals_or_none, IsInRange, IsSmall, IsUpTo}
use Rattle.sct_view.specs.Sums.{most_of, AreSharesOf}
use Rattle.sct_view.specs.Answers.{is_beneficiary}
use Rattle.sct_view.specs.Totals.{beneficiary_in, cents_in, nothing, plus, share, share_of_beneficiary, share_of_originator, totals_of, totals_over}
use Rattle.sct_case.specs.Statuses.{Standing}
use Rattle.sct_view.specs.declared.totals.Totals.{Totals}
use Rattle.sct_view.proofs.ChangeLemmas.{nothing_kept}
use Rattle.sct_view.proofs.CommitLemmas.{no_share, totals_picked}
use Rattle.sct_view.proofs.EntryLemmas.{filed_keys}
use Rattle.sct_view.proofs.KeyLemmas.{same_key_is}
use Rattle.sct_view.proofs.SetKeys.{apart_from_distinct, apart_from_rises, none_passes}
use Rattle.sct_view.proofs.SumLemmas.{AreApart, sum_changed, sum_elsewhere, sum_kept}
use Rattle.sct_view.proofs.TableLemmas.{none_is}
use Rattle.sct_view.proofs.TotalsLemmas.{by_numbers, share_small}

-- ---- one share

-- nothing added to a share
pub plus_nothing : (t : Totals) → plus t nothing ≡ t
plus_nothing t = by_numbers (plus t nothing) t (λ n is. omega (arith, is.both t nothing, is.none))

-- three sums of totals
plus_assoc : (a b c : Totals) → plus (plus a b) c ≡ plus a (plus b c)
plus_assoc a b c = by_numbers _ _ (λ n is. omega (arith, is.both (plus a b) c, is.both a b, is.both a (plus b c), is.both b c))

-- a share that is added to those of one bank alone
added_where : (b : Bool) (t share : Totals) → cond b (plus t share) t ≡ plus t (cond b share nothing)
added_where true t share = refl
added_where false t share = sym (plus_nothing t)

-- the bank of an instruction
paid_bank : (instruction : Option Draft) (bank : List ℕ) → bank ∷ [] ≡ beneficiary_in instruction
    → (p : List ℕ) → is_text bank p ≡ is_beneficiary p instruction
paid_bank instruction bank is p = grind (arith, is)

-- the shares of both banks of a transfer, one after the other
pub both_added : (t : TransferKey) (stands : Standing) (instruction : Option Draft) (bank : List ℕ) → bank ∷ [] ≡ beneficiary_in instruction
    → (old mid new : List ℕ → Totals) (sent received : Totals)
    → sent ≡ share_of_originator stands (cents_in instruction) → received ≡ share_of_beneficiary stands (cents_in instruction)
    → ((p : List ℕ) → mid p ≡ cond (is_text t.debtor_agent p) (plus (old p) sent) (old p))
    → ((p : List ℕ) → new p ≡ cond (is_text bank p) (plus (mid p) received) (mid p))
    → (p : List ℕ) → new p ≡ plus (old p) (share p t stands instruction)
unfolding share
both_added t stands instruction bank is old mid new sent received first second one two p =
    two p
    ∙ added_where (is_text bank p) (mid p) received
    ∙ (λ i. plus ((one p ∙ added_where (is_text t.debtor_agent p) (old p) sent) i) (cond (paid_bank instruction bank is p i) (second i) nothing))
    ∙ plus_assoc (old p) (cond (is_text t.debtor_agent p) sent nothing) (cond (is_beneficiary p instruction) (share_of_beneficiary stands (cents_in instruction)) nothing)
    ∙ (λ i. plus (old p) (plus (cond (is_text t.debtor_agent p) (first i) nothing) (cond (is_beneficiary p instruction) (share_of_beneficiary stands (cents_in instruction)) nothing)))

-- ---- the totals of each bank added to others

-- entries, as a function of the bank
abbrev pub totals_among : List (List ℕ × Totals) → List ℕ → Totals
totals_among entries p = totals_or_none (lookup (is_text p) entries)

module _ (rest : List (List ℕ × Totals)) (bank : List ℕ) (share : Totals) where
  -- the first entry is the bank's
  pub first_among : totals_among ((bank, share) ∷ rest) bank ≡ share
  first_among = ap (λ b. totals_or_none (cond b (Some share) (lookup (is_text bank) rest))) (nat_list_eq_equiv.refl bank)

  -- its share is added, and the others are left
  pub first_added : IsDistinct is_text (keys_of ((bank, share) ∷ rest)) → (old new : List ℕ → Totals)
      → ((p : List ℕ) → new p ≡ cond (is_text bank p) (plus (old p) share) (old p)) → (p : List ℕ)
      → plus (new p) (totals_among rest p) ≡ plus (old p) (totals_among ((bank, share) ∷ rest) p)
  unfolding IsDistinct
  first_added apart old new added p =
      ap (λ (t : Totals). plus t (totals_among rest p)) (added p)
      ∙ elim (is_text bank p) as (λ b. is_text bank p ≡ b → plus (cond b (plus (old p) share) (old p)) (totals_among rest p) ≡ plus (old p) (totals_or_none (cond b (Some share) (lookup (is_text p) rest)))) [
        | true ↦ λ e.
            let away : list_any (is_text p) (keys_of rest) ≡ false = ap (λ k. list_any (is_text k) (keys_of rest)) (sym (text_is bank p e)) ∙ none_passes (is_text bank) (keys_of rest) apart.0 in
            ap (λ o. plus (plus (old p) share) (totals_or_none o)) (none_is _ (is_some-lookup (is_text p) rest ∙ away)) ∙ plus_nothing (plus (old p) share)
        | false ↦ λ _. refl
      ] refl
      ∙ ap (λ b. plus (old p) (totals_or_none (cond b (Some share) (lookup (is_text p) rest)))) (nat_list_eq_equiv.symm bank p)

-- the banks of the entries that are left
pub rest_apart : (e : List ℕ × Totals) (rest : List (List ℕ × Totals)) → IsDistinct is_text (keys_of (e ∷ rest)) → IsDistinct is_text (keys_of rest)
unfolding IsDistinct
rest_apart e rest apart = apart.1

-- ---- the shares of some transfers

-- totals over two lists, one after another
totals_over-append : (f : TransferKey → Totals) (xs ys : List TransferKey) → totals_over f (xs ++ ys) ≡ plus (totals_over f xs) (totals_over f ys)
totals_over-append f xs ys =
    by_numbers _ _ (λ n is. omega (arith, is.over f (xs ++ ys), is.both (totals_over f xs) (totals_over f ys), is.over f xs, is.over f ys, sum_by-append (λ t. n (f t)) xs ys))

both_up_to : (a b : Totals) (m n : ℕ) → IsUpTo a (most_of m) → IsUpTo b (most_of n) → IsUpTo (plus a b) (most_of (m + n))
both_up_to a b m n x y = record {
  sent = omega (arith, x.sent, y.sent);
  sent_cents = omega (arith, x.sent_cents, y.sent_cents);
  returned_in = omega (arith, x.returned_in, y.returned_in);
  rejected = omega (arith, x.rejected, y.rejected);
  waiting = omega (arith, x.waiting, y.waiting);
  missing = omega (arith, x.missing, y.missing);
  contradicted = omega (arith, x.contradicted, y.contradicted);
  received = omega (arith, x.received, y.received);
  received_cents = omega (arith, x.received_cents, y.received_cents);
  returned_out = omega (arith, x.returned_out, y.returned_out);
}

-- so many shares fit into their types
in_range : (a : Totals) (n : ℕ) → n < 2 ^ 64 → IsUpTo a (most_of n) → IsInRange a
in_range a n few x = record {
  sent = omega (arith, x.sent);
  sent_cents = omega (arith, x.sent_cents);
  returned_in = omega (arith, x.returned_in);
  rejected = omega (arith, x.rejected);
  waiting = omega (arith, x.waiting);
  missing = omega (arith, x.missing);
  contradicted = omega (arith, x.contradicted);
  received = omega (arith, x.received);
  received_cents = omega (arith, x.received_cents);
  returned_out = omega (arith, x.returned_out);
}

-- the share of one transfer is no more than one
one_up_to : (bank : List ℕ) (t : TransferKey) (case : Kept) → IsSmall case → IsUpTo (share_in bank t case) (most_of 1)
one_up_to bank t case small =
    let x = share_small bank t case small in
    record {
      sent = x.sent;
      sent_cents = omega (arith, x.sent_cents);
      returned_in = omega (arith, x.returned_in);
      rejected = x.rejected;
      waiting = x.waiting;
      missing = x.missing;
      contradicted = x.contradicted;
      received = x.received;
      received_cents = omega (arith, x.received_cents);
      returned_out = omega (arith, x.returned_out);
    }

-- the front of a list is no longer than the list
taken_len : (i : ℕ) (ts : List TransferKey) → length (take i ts) ≤ length ts
taken_len zero ts = grind arith
taken_len (suc i) [] = grind arith
taken_len (suc i) (t ∷ ts) = grind (arith, taken_len i ts)

module _ (s : MessageSet) where
  -- no transfer has no share
  pub shares_none : (totals : List ℕ → Totals) → ((p : List ℕ) → totals p ≡ nothing) → AreSharesOf s [] totals
  shares_none totals none = record {
    summed = λ p. none p;
    small = λ p. subst (λ (t : Totals). IsUpTo t (most_of 0)) (sym (none p)) (grind arith);
  }

  module _ (front back : List TransferKey) (a b : List ℕ → Totals) (x : AreSharesOf s front a) (y : AreSharesOf s back b) where
    -- the shares of two lists fit into their types together
    pub shares_fit : length (front ++ back) < 2 ^ 64 → (p : List ℕ) → IsInRange (plus (a p) (b p))
    shares_fit few p = in_range (plus (a p) (b p)) (length front + length back) (omega (arith, few, length-append front back)) (both_up_to (a p) (b p) (length front) (length back) (x.small p) (y.small p))

    -- and are those of both
    pub shares_joined : (both : List ℕ → Totals) → ((p : List ℕ) → both p ≡ plus (a p) (b p)) → AreSharesOf s (front ++ back) both
    shares_joined both made = record {
      summed = λ p. made p ∙ (λ i. plus (x.summed p i) (y.summed p i)) ∙ sym (totals_over-append (λ t. share_in p t (case_of s t)) front back);
      small = λ p.
          subst (λ (t : Totals). IsUpTo t (most_of (length (front ++ back)))) (sym (made p))
          (subst (λ n. IsUpTo (plus (a p) (b p)) (most_of n)) (sym (length-append front back)) (both_up_to (a p) (b p) (length front) (length back) (x.small p) (y.small p)));
    }

  -- the share of a transfer, by its case
  one_share : (t : TransferKey) (case : Kept) → case ≡ case_of s t → IsSmall case → AreSharesOf s (t ∷ []) (λ p. share_in p t case)
  one_share t case is small = record {
    summed = λ p. by_numbers _ _ (λ n number.
        omega (arith, ap (λ (k : Kept). n (share_in p t k)) is, number.over (λ k. share_in p k (case_of s k)) (t ∷ []), sum_by-cons (λ k. n (share_in p k (case_of s k))) t []));
    small = λ p. one_up_to p t case small;
  }

  -- one transfer more
  module _ (ts : List TransferKey) (i : ℕ) (t : TransferKey) (case : Kept) (totals : List ℕ → Totals) (below : i < length ts) (at : t ≡ get_or ts i t)
      (is : case ≡ case_of s t) (so_far : AreSharesOf s (take i ts) totals) where
    more : take (i + 1) ts ≡ take i ts ++ t ∷ []
    more = (take_at_read ts i t below).1 ∙ ap (λ (k : TransferKey). take i ts ++ k ∷ []) (sym at)

    pub share_fits : length ts < 2 ^ 64 → IsSmall case → (p : List ℕ) → IsInRange (plus (totals p) (share_in p t case))
    share_fits few small p =
        shares_fit (take i ts) (t ∷ []) totals (λ p. share_in p t case) so_far (one_share t case is small)
        (omega (arith, few, taken_len (i + 1) ts, ap length (sym more))) p

    pub share_added : IsSmall case → (later : List ℕ → Totals) → ((p : List ℕ) → later p ≡ plus (totals p) (share_in p t case))
        → AreSharesOf s (take (i + 1) ts) later
    share_added small later made =
        subst (λ ks. AreSharesOf s ks later) (sym more)
        (shares_joined (take i ts) (t ∷ []) totals (λ p. share_in p t case) so_far (one_share t case is small) later made)

-- ---- all transfers under which messages are filed

same_swap : (x y : TransferKey) → same_transfer x y ≡ same_transfer y x
same_swap x y = (eq_by_cmp_equiv transfer_total).symm x y

-- a sum over keys of which none is there twice is the sum over them in order
sum_ascending : (f : TransferKey → ℕ) (ts : List TransferKey) → AreApart same_transfer ts → sum_by f (ascending transfer_order ts) ≡ sum_by f ts
unfolding IsStrictlySortedBy
sum_ascending f [] apart = ap (sum_by f) (ascending-sorted transfer_total transfers_same [] tt)
sum_ascending f (t ∷ ts) apart =
    let all = ascending transfer_order (t ∷ ts) in
    let p = λ (k : TransferKey). not (same_transfer t k) in
    let g = λ (k : TransferKey). cond (same_transfer t k) 0 (f k) in
    let itself : same_transfer t t ≡ true = (eq_by_cmp_equiv transfer_total).refl t in
    let among : list_any (same_transfer t) all ≡ true =
    any_ascending transfer_total transfers_same (same_transfer t) (t ∷ ts) ∙ ap (λ b. b || list_any (same_transfer t) ts) itself in
    let changed : sum_by g all + f t ≡ sum_by f all + g t =
    sum_changed same_transfer transfer_is f g t all (apart_from_rises transfer_order all (ascending_rises transfer_total transfers_same (t ∷ ts))) among
    (λ k e. ap (λ b. cond b 0 (f k)) e) in
    let kept : sum_by g (filter p all) ≡ sum_by g all = sum_kept g p (λ k. left_out (same_transfer t k) (f k)) all in
    let others : filter p all ≡ ascending transfer_order ts =
    sym (ascending-filter transfer_total transfers_same p (t ∷ ts))
    ∙ ascending-same transfer_total transfers_same (filter p (t ∷ ts)) ts (λ q.
    any-filter_same (same_transfer q) p (p q) (λ k e. ap p (sym (transfer_is q k e))) (t ∷ ts)
    ∙ elim (same_transfer t q) as (λ b. same_transfer t q ≡ b → (not b && (same_transfer q t || list_any (same_transfer q) ts)) ≡ list_any (same_transfer q) ts) [
      | true ↦ λ e. sym (ap (λ (k : TransferKey). list_any (same_transfer k) ts) (sym (transfer_is t q e)) ∙ apart.0)
      | false ↦ λ e. ap (λ b. b || list_any (same_transfer q) ts) (same_swap q t ∙ e)
    ] refl) in
    let elsewhere : sum_by g (ascending transfer_order ts) ≡ sum_by f (ascending transfer_order ts) =
    sum_elsewhere (same_transfer t) f g (λ k e. ap (λ b. cond b 0 (f k)) e) (ascending transfer_order ts)
    (any_ascending transfer_total transfers_same (same_transfer t) ts ∙ apart.0) in
    let here : g t ≡ 0 = ap (λ b. cond b 0 (f t)) itself in
    omega (arith, changed, kept, ap (sum_by g) others, elsewhere, here, sum_ascending f ts apart.1, sum_by-cons f t ts)
  where
    left_out : (b : Bool) (n : ℕ) → not b ≡ false → cond b 0 n ≡ 0
    left_out true n e = refl
    left_out false n e = absurd (false≢true (sym e))

totals_ascending : (f : TransferKey → Totals) (ts : List TransferKey) → AreApart same_transfer ts → totals_over f (ascending transfer_order ts) ≡ totals_over f ts
totals_ascending f ts apart =
    by_numbers _ _ (λ n is. is.over f (ascending transfer_order ts) ∙ sum_ascending (λ t. n (f t)) ts apart ∙ sym (is.over f ts))

-- totals over lists that both have all transfers with a share are the same
same_over : (f : TransferKey → Totals) (ts us : List TransferKey) → ((k : TransferKey) → list_any (same_transfer k) ts ≡ false → f k ≡ nothing)
    → ((k : TransferKey) → list_any (same_transfer k) us ≡ false → f k ≡ nothing)
    → totals_over f (ascending transfer_order ts) ≡ totals_over f (ascending transfer_order us)
same_over f ts us none_t none_u =
    let p = λ (k : TransferKey). list_any (same_transfer k) us in
    let q = λ (k : TransferKey). list_any (same_transfer k) ts in
    sym (totals_picked f p none_u (ascending transfer_order ts))
    ∙ ap (totals_over f)
    (sym (ascending-filter transfer_total transfers_same p ts)
    ∙ ascending-same transfer_total transfers_same (filter p ts) (filter q us) (λ k.
    any-filter_same (same_transfer k) p (p k) (λ j e. ap p (sym (transfer_is k j e))) ts
    ∙ and_comm (p k) (q k)
    ∙ sym (any-filter_same (same_transfer k) q (q k) (λ j e. ap q (sym (transfer_is k j e))) us))
    ∙ ascending-filter transfer_total transfers_same q us)
    ∙ totals_picked f q none_t (ascending transfer_order us)

-- the shares of the transfers of an index are the totals of the set that it files
pub shares_filed : {S : Type 0} (s : MessageSet) (index : IndexMap TransferKey (List (Arc Draft Global)) S) → IsUnique same_key index → IsFiled s index
    → (totals : List ℕ → Totals) → AreSharesOf s (keys index) totals → (p : List ℕ) → totals p ≡ totals_of s p
unfolding case_of totals_of
shares_filed s index unique filed totals are p =
    let f = λ (t : TransferKey). share_in p t (case_of s t) in
    let apart : AreApart same_transfer (keys index) = apart_from_distinct same_transfer (keys index) (subst (λ E. IsUnique E index) same_key_is unique) in
    let all = flat_map transfers_of (set.items s) in
    are.summed p
    ∙ sym (totals_ascending f (keys index) apart)
    ∙ same_over f (keys index) all
    (λ k e. ap (share_in p k) (filed_keys s index filed k (ap (λ E. list_any (E k) (keys index)) same_key_is ∙ e)) ∙ no_share p k)
    (λ k e. ap (share_in p k) (nothing_kept s k (ap (λ E. list_any (E k) (ascending transfer_order all)) same_key_is ∙ any_ascending transfer_total transfers_same (same_transfer k) all ∙ e)) ∙ no_share p k)
