-- The declared orders of heads and of transactions are those by their elements.
use Rattle.std.proofs.Common.{◌≡◌, ◌∙◌, ap, refl, false, Ordering}
use Rattle.std.specs.Prelude.{◌==◌, not}
use Rattle.std.specs.Ordering.{ordering_then, ordering_index}
use Rattle.std.specs.declared.cmp.Ordering.TheVariants.{Less, Equal, Greater}
use Rattle.std.specs.Cmp.Lexicographic.{slice_cmp}
use Rattle.sct_message.specs.declared.draft.Head.{Head}
use Rattle.sct_message.specs.declared.draft.RecallTx.{RecallTx}
use Rattle.sct_message.specs.contracts.draft.HeadOrd.TheImpl as head
use Rattle.sct_message.specs.contracts.draft.RecallTxOrd.TheImpl as tx
use Rattle.sct_message.specs.Cells.{elements_order, head_elements}
use Rattle.sct_message.specs.Recalls.{Recalls, tx_order, txs_order, recalls_order}
use Rattle.sct_message.specs.OrderLaws.{then_assoc, then_equal}

heads_by_elements : (h k : Head) → head.ghosts.cmp h k ≡ elements_order (head_elements h) (head_elements k)
heads_by_elements h k = simp then_equal refl

txs_by_elements : (s t : RecallTx) → tx.ghosts.cmp s t ≡ tx_order s t
txs_by_elements s t = simp then_equal (simp then_assoc refl)

then_rest : (o r : Ordering) → false ≡ not (ordering_index o == 1) → r ≡ ordering_then o r
then_rest Less r e = cc
then_rest Equal r e = refl
then_rest Greater r e = cc

-- where the heads tie, the transactions decide
pub after_head : (o : Ordering) (a b : Recalls) → false ≡ not (ordering_index o == 1) → o ≡ head.ghosts.cmp a.head b.head
    → slice_cmp tx.ghosts.cmp a.txs b.txs ≡ recalls_order a b
after_head o a b tied is =
    (λ n. slice_cmp (λ s t. txs_by_elements s t n) a.txs b.txs)
    ∙ then_rest o (txs_order a.txs b.txs) tied
    ∙ ap (λ (q : Ordering). ordering_then q (txs_order a.txs b.txs)) (is ∙ heads_by_elements a.head b.head)
