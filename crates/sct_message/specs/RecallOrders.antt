-- Proof plumbing: the order of recall messages is total, and only equal messages compare Equal.
use Rattle.std.proofs.Common.{◌≡◌, ◌∙◌, refl, ap, sym, true, drop}
use Rattle.std.specs.Ordering.{ordering_then, is_eq, eq_by_cmp}
use Rattle.std.specs.declared.cmp.Ordering.{Ordering}
use Rattle.std.specs.declared.cmp.Ordering.TheVariants.{Less, Equal, Greater}
use Rattle.std.specs.Cmp.{IsTotalOrder, on_total, then_total}
use Rattle.std.specs.Cmp.Lexicographic.{nat_list_cmp_total, options_total, lists_total}
use Rattle.std.specs.FinSet.{IsAntisymmetric, slice_cmp-IsAntisymmetric}
use Rattle.sct_reason.specs.Reasons.{reason_of}
use Rattle.sct_message.specs.declared.draft.RecallTx.{RecallTx}
use Rattle.sct_message.specs.Cells.{elements_order, head_elements}
use Rattle.sct_message.specs.Recalls.{Recalls, tx_elements, tx_order, txs_order, recalls_order}
use Rattle.sct_message.specs.CellsBack.{Cells, may_cell, cell, cents, the_reason, reason_back, head_from, original_from, elements_same}

-- a transaction is recovered from its elements
abbrev tx_from : Cells → RecallTx
tx_from es = record {
  cancellation_id = cell 0 es;
  original = original_from (drop 1 es);
  original_amount = cents (cell 5 es);
  currency = cell 6 es;
  original_settlement_date = may_cell 7 es;
  reason = the_reason (reason_of (cell 8 es));
  debtor_agent = cell 9 es;
}

tx_back : (tx : RecallTx) → tx_from (tx_elements tx) ≡ tx
tx_back tx = λ n. record {
  cancellation_id = tx.cancellation_id;
  original = tx.original;
  original_amount = tx.original_amount;
  currency = tx.currency;
  original_settlement_date = tx.original_settlement_date;
  reason = reason_back tx.reason n;
  debtor_agent = tx.debtor_agent;
}

tx_same : IsAntisymmetric tx_order
tx_same s t e = sym (tx_back s) ∙ ap tx_from (elements_same (tx_elements s) (tx_elements t) e) ∙ tx_back t

pub txs_same : IsAntisymmetric txs_order
txs_same = slice_cmp-IsAntisymmetric tx_same

pub elements_total : IsTotalOrder elements_order
elements_total = lists_total (options_total nat_list_cmp_total)

pub txs_total : IsTotalOrder txs_order
txs_total = lists_total (on_total tx_elements elements_total)

-- if a comparison by two parts in turn is Equal, both parts compare Equal
pub both_tie : (r s : Ordering) → ordering_then r s ≡ Equal → (r ≡ Equal) × (s ≡ Equal)
both_tie Less s e = cc
both_tie Equal s e = (refl, e)
both_tie Greater s e = cc

pub recalls_total : IsTotalOrder recalls_order
recalls_total = then_total (on_total (λ (r : Recalls). head_elements r.head) elements_total)
    (on_total (λ (r : Recalls). r.txs) txs_total)

recalls_same : IsAntisymmetric recalls_order
recalls_same a b e =
    let parts = both_tie _ _ e in
    let head = ap head_from (elements_same (head_elements a.head) (head_elements b.head) parts.0) in
    let txs = txs_same a.txs b.txs parts.1 in
    λ n. record { head = head n; txs = txs n }

pub is_eq_Equal : (r : Ordering) → is_eq r ≡ true → r ≡ Equal
is_eq_Equal Less e = cc
is_eq_Equal Equal e = refl
is_eq_Equal Greater e = cc

-- a function of recall messages has equal values for two that compare Equal
pub same_recalls_input : {X : Type 0} (told : Recalls → X) (a b : Recalls)
    → eq_by_cmp recalls_order a b ≡ true
    → told a ≡ told b
same_recalls_input told a b e = ap told (recalls_same a b (is_eq_Equal (recalls_order a b) e))
