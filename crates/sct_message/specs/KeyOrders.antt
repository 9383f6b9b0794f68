-- Read by an auditor: the keys by which messages are filed, made of their parts, and their orders.
use Rattle.std.specs.Prelude.{ℕ, Bool, List}
use Rattle.std.specs.Ordering.{ordering_then, eq_by_cmp}
use Rattle.std.specs.declared.cmp.Ordering.{Ordering}
use Rattle.sct_message.specs.declared.keys.Identity.{Identity}
use Rattle.sct_message.specs.declared.keys.TransferKey.{TransferKey}
use Rattle.sct_message.specs.declared.keys.RecallKey.{RecallKey}
use Rattle.sct_message.specs.declared.kinds.Kind.{Kind}
use Rattle.sct_message.specs.Kinds.{kind_text}
use Rattle.sct_message.specs.Cells.{text_order}

-- a transfer by its originator bank and its identification
abbrev pub transfer_key : List ℕ → List ℕ → TransferKey
transfer_key debtor_agent tx = record { debtor_agent = debtor_agent; tx = tx }

-- a recall by its transfer and its identification
abbrev pub recall_key : TransferKey → List ℕ → RecallKey
recall_key transfer cxl = record { transfer = transfer; cxl = cxl }

-- ---- the orders of keys, each by its parts in turn

-- kinds are ordered by their texts
abbrev pub kind_order : Kind → Kind → Ordering
kind_order j k = text_order (kind_text j) (kind_text k)

-- identities are ordered by sender, kind and message identification
abbrev pub identity_order : Identity → Identity → Ordering
identity_order i j =
    ordering_then (text_order i.sender j.sender)
    (ordering_then (kind_order i.kind j.kind) (text_order i.msg_id j.msg_id))

-- transfer keys are ordered by originator bank and transaction identification
abbrev pub transfer_order : TransferKey → TransferKey → Ordering
transfer_order s t = ordering_then (text_order s.debtor_agent t.debtor_agent) (text_order s.tx t.tx)

-- recall keys are ordered by transfer and identification of the recall
abbrev pub recall_order : RecallKey → RecallKey → Ordering
recall_order q r = ordering_then (transfer_order q.transfer r.transfer) (text_order q.cxl r.cxl)

-- ---- equality in every part, as a test

abbrev pub same_identity : Identity → Identity → Bool
same_identity = eq_by_cmp identity_order

abbrev pub same_transfer : TransferKey → TransferKey → Bool
same_transfer = eq_by_cmp transfer_order

abbrev pub same_recall : RecallKey → RecallKey → Bool
same_recall = eq_by_cmp recall_order
