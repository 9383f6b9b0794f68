-- Read by an auditor: the keys by which messages are filed.
use Rattle.std.specs.Prelude.{ℕ, List, [], ◌∷◌, map, Option, Some, None}
use Rattle.sct_message.specs.declared.draft.Draft.{Draft}
use Rattle.sct_message.specs.declared.draft.Draft.TheVariants as draft
use Rattle.sct_message.specs.declared.keys.Identity.{Identity}
use Rattle.sct_message.specs.declared.keys.TransferKey.{TransferKey}
use Rattle.sct_message.specs.declared.keys.RecallKey.{RecallKey}
use Rattle.sct_message.specs.Drafts.{kind_of, head_of}
use Rattle.sct_message.specs.Recalls.{transfer_in, recall_in}
pub use Rattle.sct_message.specs.KeyOrders.{transfer_key, recall_key}

-- a message's sender, kind and identification
abbrev pub identity_of : Draft → Identity
identity_of d = record {
  sender = (head_of d).instructing_agent;
  kind = kind_of d;
  msg_id = (head_of d).message_id;
}

-- the transfers that a message is about: one for each transaction of a recall message, and one in the other kinds
abbrev pub transfers_of : Draft → List TransferKey
transfers_of (draft.CreditTransfer d) = transfer_key d.debtor_agent d.transaction_id ∷ []
transfers_of (draft.StatusReport d) = transfer_key d.debtor_agent d.original.transaction_id ∷ []
transfers_of (draft.StatusRequest d) = transfer_key d.debtor_agent d.original.transaction_id ∷ []
transfers_of (draft.CancellationRequest d) = map transfer_in d.txs
transfers_of (draft.PaymentReturn d) = transfer_key d.debtor_agent d.original.transaction_id ∷ []
transfers_of (draft.Resolution d) = transfer_key d.debtor_agent d.original.transaction_id ∷ []

-- the recall that a message of one transfer names, if any
abbrev pub recalls_named : TransferKey → Option (List ℕ) → List RecallKey
recalls_named transfer None = []
recalls_named transfer (Some cxl) = recall_key transfer cxl ∷ []

-- the recalls that a message makes or is about: one for each transaction of a recall
-- message, and at most one in the other kinds
abbrev pub recalls_of : Draft → List RecallKey
recalls_of (draft.CreditTransfer d) = []
recalls_of (draft.StatusReport d) = []
recalls_of (draft.StatusRequest d) =
    recalls_named (transfer_key d.debtor_agent d.original.transaction_id) d.cancellation_id
recalls_of (draft.CancellationRequest d) = map recall_in d.txs
recalls_of (draft.PaymentReturn d) =
    recalls_named (transfer_key d.debtor_agent d.original.transaction_id) (Some d.cancellation_id)
recalls_of (draft.Resolution d) =
    recalls_named (transfer_key d.debtor_agent d.original.transaction_id) (Some d.cancellation_id)
