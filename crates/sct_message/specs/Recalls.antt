-- Read by an auditor: a recall message as contracts see it, its head and a list of
-- transactions, with its keys and its order.
use Rattle.std.specs.Prelude.{ℕ, Bool, List, [], ◌∷◌, ◌++◌, Option, Some}
use Rattle.std.specs.Cmp.Lexicographic.{slice_cmp}
use Rattle.std.specs.Ordering.{ordering_then}
use Rattle.std.specs.declared.cmp.Ordering.{Ordering}
use Rattle.sct_reason.specs.Codes.{reason_text}
use Rattle.sct_message.specs.declared.draft.Head.{Head}
use Rattle.sct_message.specs.declared.draft.RecallTx.{RecallTx}
use Rattle.sct_message.specs.declared.keys.TransferKey.{TransferKey}
use Rattle.sct_message.specs.declared.keys.RecallKey.{RecallKey}
use Rattle.sct_message.specs.Cells.{elements_order, head_elements, original_elements}
use Rattle.sct_message.specs.KeyOrders.{transfer_key, recall_key, same_recall}

-- a recall message: its head, and the transactions that it recalls
pub record Recalls : Type 0 where
  pub head : Head
  pub txs : List RecallTx

-- ---- the keys of one transaction

-- the transfer that it recalls
abbrev pub transfer_in : RecallTx → TransferKey
transfer_in tx = transfer_key tx.debtor_agent tx.original.transaction_id

-- the recall that it makes
abbrev pub recall_in : RecallTx → RecallKey
recall_in tx = recall_key (transfer_in tx) tx.cancellation_id

-- two transactions make the same recall of the same transfer
abbrev pub have_same_recall : RecallTx → RecallTx → Bool
have_same_recall s t = same_recall (recall_in s) (recall_in t)

-- ---- the order

-- the elements of a transaction, in the order of the key table
abbrev pub tx_elements : RecallTx → List (Option (List ℕ))
tx_elements tx =
    Some tx.cancellation_id
    ∷ original_elements tx.original
    ++ Some (tx.original_amount ∷ [])
    ∷ Some tx.currency
    ∷ tx.original_settlement_date
    ∷ Some (reason_text tx.reason)
    ∷ Some tx.debtor_agent
    ∷ []

-- transactions are ordered by their elements
abbrev pub tx_order : RecallTx → RecallTx → Ordering
tx_order s t = elements_order (tx_elements s) (tx_elements t)

-- lists of transactions are ordered transaction by transaction; a list that begins another comes before it
abbrev pub txs_order : List RecallTx → List RecallTx → Ordering
txs_order = slice_cmp tx_order

-- recall messages are ordered by their heads, and then by their lists of transactions
abbrev pub recalls_order : Recalls → Recalls → Ordering
recalls_order a b =
    ordering_then (elements_order (head_elements a.head) (head_elements b.head)) (txs_order a.txs b.txs)
