-- The statements of one message about a transfer, for auditors. Findings and statuses
-- read a message by these words alone.
use Rattle.std.specs.Prelude.{ℕ, Bool, false, List, [], ◌∷◌, Option, Some, None, is_none, if◌then◌else◌, codes, Contains}
use Rattle.std.specs.List.{flat_map}
use Rattle.sct_reason.specs.declared.reasons.Reason.{Reason}
use Rattle.sct_element.specs.Text.{is_text}
use Rattle.sct_message.specs.Keys.{transfer_key, recalls_of}
use Rattle.sct_message.specs.Order.{same_transfer}
use Rattle.sct_message.specs.Recalls.{transfer_in}
use Rattle.sct_message.specs.declared.draft.RecallTx.{RecallTx}
use Rattle.sct_message.specs.declared.draft.Draft.{Draft}
use Rattle.sct_message.specs.declared.draft.Draft.TheVariants.{CreditTransfer, StatusReport, StatusRequest, CancellationRequest, PaymentReturn, Resolution}
use Rattle.sct_message.specs.declared.keys.TransferKey.{TransferKey}
use Rattle.sct_message.specs.declared.keys.RecallKey.{RecallKey}
use Rattle.sct_case.specs.declared.said.InstructedAmount.{InstructedAmount}
use Rattle.sct_case.specs.declared.said.RejectionReason.{RejectionReason}
use Rattle.sct_case.specs.declared.said.RecallMade.{RecallMade}
use Rattle.sct_case.specs.declared.said.OriginalAmount.{OriginalAmount}
use Rattle.sct_case.specs.declared.said.ReturnMade.{ReturnMade}
use Rattle.sct_case.specs.declared.said.RefusalMade.{RefusalMade}
use Rattle.sct_case.specs.declared.said.RecallAsked.{RecallAsked}

-- One of the messages makes the statement, as a statement of the named sort.
pub record IsSaid {X : Type 0} (by : Draft → List X) (clean : List Draft) (said : X) : Type 0 where
  pub message : Draft
  pub held : Contains clean message
  pub says : Contains (by message) said

-- ---- about the transfer itself: its instruction, its confirmations and the requests for its status

-- an instruction (pacs.008), by its amount
abbrev pub instructions_by : Draft → List InstructedAmount
instructions_by (CreditTransfer d) = record { amount = d.settlement_amount } ∷ []
instructions_by other = []

-- a positive confirmation (pacs.002, ACCP)
abbrev pub is_acceptance : Draft → Bool
is_acceptance (StatusReport d) = is_text d.status (codes "ACCP")
is_acceptance other = false

abbrev pub reasons_in : Option Reason → List RejectionReason
reasons_in None = []
reasons_in (Some reason) = record { reason = reason } ∷ []

-- a rejection (pacs.002, RJCT), by its reason, which the rules of the kind require
abbrev pub rejections_by : Draft → List RejectionReason
rejections_by (StatusReport d) = if is_text d.status (codes "RJCT") then reasons_in d.reason else []
rejections_by other = []

-- a request for the status of the transfer (pacs.028 that names no recall)
abbrev pub is_investigation : Draft → Bool
is_investigation (StatusRequest d) = is_none d.cancellation_id
is_investigation other = false

-- ---- about its recalls: a statement under the key of another transfer is not about them

abbrev pub where_of : {X : Type 0} → TransferKey → TransferKey → List X → List X
where_of transfer key said = if same_transfer key transfer then said else []

-- the recalls that it makes (camt.056), one for each of its transactions on the transfer: the identification, the
-- original amount that it names, and the reason
abbrev pub made_in : TransferKey → RecallTx → List RecallMade
made_in transfer tx =
    where_of transfer (transfer_in tx)
    (record { cxl = tx.cancellation_id; amount = tx.original_amount; reason = tx.reason } ∷ [])

abbrev pub recalls_made_by : TransferKey → Draft → List RecallMade
recalls_made_by transfer (CancellationRequest d) = flat_map (made_in transfer) d.txs
recalls_made_by transfer other = []

-- the original amounts that its recalls and returns name
abbrev pub original_amount_in : TransferKey → RecallTx → List OriginalAmount
original_amount_in transfer tx = where_of transfer (transfer_in tx) (record { amount = tx.original_amount } ∷ [])

abbrev pub amounts_by : TransferKey → Draft → List OriginalAmount
amounts_by transfer (CancellationRequest d) = flat_map (original_amount_in transfer) d.txs
amounts_by transfer (PaymentReturn d) =
    where_of transfer (transfer_key d.debtor_agent d.original.transaction_id)
    (record { amount = d.original_amount } ∷ [])
amounts_by transfer other = []

-- the returns that it makes (pacs.004), each by its identification, its recall, and the returned amount
abbrev pub returns_by : TransferKey → Draft → List ReturnMade
returns_by transfer (PaymentReturn d) =
    where_of transfer (transfer_key d.debtor_agent d.original.transaction_id)
    (record { return_id = d.return_id; cxl = d.cancellation_id; amount = d.returned_amount } ∷ [])
returns_by transfer other = []

-- the refusals that it makes (camt.029), each by its recall and its reason
abbrev pub refusals_by : TransferKey → Draft → List RefusalMade
refusals_by transfer (Resolution d) =
    where_of transfer (transfer_key d.debtor_agent d.original.transaction_id)
    (record { cxl = d.cancellation_id; reason = d.reason } ∷ [])
refusals_by transfer other = []

-- the recalls whose status it asks for (a pacs.028 that names one)
abbrev pub cancellations_in : Option (List ℕ) → List RecallAsked
cancellations_in None = []
cancellations_in (Some cxl) = record { cxl = cxl } ∷ []

abbrev pub requests_by : TransferKey → Draft → List RecallAsked
requests_by transfer (StatusRequest d) =
    where_of transfer (transfer_key d.debtor_agent d.original.transaction_id) (cancellations_in d.cancellation_id)
requests_by transfer other = []

-- a recall that a message names, by its identification
pub record RecallNamed : Type 0 where
  pub cxl : List ℕ

-- the recalls of the transfer that it names, in whatever way
abbrev pub named_in : TransferKey → RecallKey → List RecallNamed
named_in transfer recall = where_of transfer recall.transfer (record { cxl = recall.cxl } ∷ [])

abbrev pub recalls_named_by : TransferKey → Draft → List RecallNamed
recalls_named_by transfer m = flat_map (named_in transfer) (recalls_of m)
