-- Read by an auditor: the orders of messages, by identity and then by all elements, and of the keys.
use Rattle.std.specs.Prelude.{ℕ, Bool, List, [], ◌∷◌, ◌++◌, Option, Some, option_map}
use Rattle.std.specs.Ordering.{ordering_then, eq_by_cmp}
use Rattle.std.specs.declared.cmp.Ordering.{Ordering}
use Rattle.sct_reason.specs.Codes.{reason_text}
use Rattle.sct_message.specs.declared.draft.Draft.{Draft}
use Rattle.sct_message.specs.declared.draft.Draft.TheVariants.{CreditTransfer, StatusReport, StatusRequest, CancellationRequest, PaymentReturn, Resolution}
use Rattle.sct_message.specs.declared.draft.RecallTx.{RecallTx}
use Rattle.sct_message.specs.Keys.{identity_of}
use Rattle.sct_message.specs.Recalls.{txs_order}
pub use Rattle.sct_message.specs.Cells.{text_order, elements_order, head_elements, original_elements}
pub use Rattle.sct_message.specs.KeyOrders.{kind_order, identity_order, transfer_order, recall_order, same_identity, same_transfer, same_recall}

-- ---- the elements of each kind in the order of its key table, but for the transactions of a recall message

abbrev pub elements_of : Draft → List (Option (List ℕ))
elements_of (CreditTransfer d) =
    head_elements d.head
    ++ Some d.settlement_date
    ∷ Some d.service_level
    ∷ Some d.local_instrument
    ∷ d.instruction_id
    ∷ Some d.end_to_end_id
    ∷ Some d.transaction_id
    ∷ Some (d.settlement_amount ∷ [])
    ∷ Some d.currency
    ∷ Some d.charge_bearer
    ∷ d.acceptance_time
    ∷ Some d.debtor
    ∷ Some d.debtor_account
    ∷ Some d.debtor_agent
    ∷ Some d.creditor_agent
    ∷ Some d.creditor
    ∷ Some d.creditor_account
    ∷ d.remittance
    ∷ []
elements_of (StatusReport d) =
    head_elements d.head
    ++ original_elements d.original
    ++ Some d.status
    ∷ option_map reason_text d.reason
    ∷ Some d.debtor_agent
    ∷ []
elements_of (StatusRequest d) =
    head_elements d.head
    ++ original_elements d.original
    ++ d.cancellation_id
    ∷ Some d.debtor_agent
    ∷ []
elements_of (CancellationRequest d) = head_elements d.head
elements_of (PaymentReturn d) =
    head_elements d.head
    ++ Some d.return_id
    ∷ Some d.cancellation_id
    ∷ original_elements d.original
    ++ Some (d.original_amount ∷ [])
    ∷ Some (d.returned_amount ∷ [])
    ∷ Some d.currency
    ∷ Some d.settlement_date
    ∷ Some (reason_text d.reason)
    ∷ Some d.debtor_agent
    ∷ []
elements_of (Resolution d) =
    head_elements d.head
    ++ Some d.resolution_id
    ∷ Some d.cancellation_id
    ∷ original_elements d.original
    ++ Some d.confirmation
    ∷ Some (reason_text d.reason)
    ∷ Some d.debtor_agent
    ∷ []

-- the transactions of a recall message; the other kinds have none
abbrev pub transactions_of : Draft → List RecallTx
transactions_of (CancellationRequest d) = d.txs
transactions_of other = []

-- ---- the order of messages

-- messages are ordered by their elements, and then by their lists of transactions
abbrev pub by_elements : Draft → Draft → Ordering
by_elements a b =
    ordering_then (elements_order (elements_of a) (elements_of b))
    (txs_order (transactions_of a) (transactions_of b))

-- messages are ordered by identity and then by the elements; two compare Equal exactly if all their elements are equal
unfoldable pub message_order : Draft → Draft → Ordering
message_order a b = ordering_then (identity_order (identity_of a) (identity_of b)) (by_elements a b)

-- equality in every element, as a test
abbrev pub same_message : Draft → Draft → Bool
same_message = eq_by_cmp message_order
