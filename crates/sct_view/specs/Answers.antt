-- The answers of a set of messages about its transfers, their recalls and their banks, for auditors.
use Rattle.std.specs.Prelude.{ℕ, Bool, false, ◌||◌, List, map, filter, flat_map, Option, Some}
use Rattle.sct_element.specs.Text.{is_text}
use Rattle.sct_message.specs.Ascending.{ascending}
use Rattle.sct_message.specs.Order.{text_order}
use Rattle.sct_message.specs.Sets.{MessageSet, in_order}
use Rattle.sct_message.specs.Transfers.{is_on, messages_on, asides_of, keys_of, instruction_of}
use Rattle.sct_message.specs.declared.draft.Draft.{Draft}
use Rattle.sct_message.specs.declared.draft.Draft.TheVariants.{CreditTransfer}
use Rattle.sct_message.specs.declared.keys.RecallKey.{RecallKey}
use Rattle.sct_message.specs.declared.keys.TransferKey.{TransferKey}
use Rattle.sct_case.specs.declared.finding.Finding.{Finding}
use Rattle.sct_case.specs.declared.status.RecallStatus.{RecallStatus}
use Rattle.sct_case.specs.Said.{recalls_named_by}
use Rattle.sct_case.specs.Statuses.{Standing, transfer_status_of, recall_status_of}
use Rattle.sct_case.specs.Told.{findings_of}
use Rattle.sct_set.specs.Contents.{contents_of}

-- ---- a transfer and its recalls

-- the messages of the set that are on a transfer, clean or contradicted
abbrev pub those_on : MessageSet → TransferKey → MessageSet
those_on held transfer = contents_of (filter (is_on transfer) (in_order held))

-- the status of a transfer
unfoldable pub status_of : MessageSet → TransferKey → Standing
status_of held transfer = transfer_status_of transfer (messages_on held transfer) (asides_of held transfer)

-- the findings of a transfer
unfoldable pub found_on : MessageSet → TransferKey → List Finding
found_on held transfer = findings_of transfer (messages_on held transfer) (asides_of held transfer)

-- the status of a recall
unfoldable pub recall_of : MessageSet → RecallKey → RecallStatus
recall_of held recall =
    recall_status_of recall.transfer (messages_on held recall.transfer) (asides_of held recall.transfer) recall.cxl

-- the recalls of a transfer that a message names, by their identification
abbrev pub cxls_named_by : TransferKey → Draft → List (List ℕ)
cxls_named_by transfer m = map (λ named. named.cxl) (recalls_named_by transfer m)

-- the recalls of a transfer that messages of the set name, contradicted messages included, each once, ascending
unfoldable pub recalls_on : MessageSet → TransferKey → List (List ℕ)
recalls_on held transfer = ascending text_order (flat_map (cxls_named_by transfer) (in_order held))

-- every finding with its transfer, sorted by transfer and then in the order in which findings are reported
unfoldable pub all_findings_of : MessageSet → List (TransferKey × Finding)
all_findings_of held = flat_map (λ transfer. map (λ found. (transfer, found)) (found_on held transfer)) (keys_of held)

-- ---- a transfer and its banks

-- the bank is the originator bank of the transfer
abbrev pub is_originator : List ℕ → TransferKey → Bool
is_originator bank transfer = is_text transfer.debtor_agent bank

-- the bank is the beneficiary bank of the instruction
abbrev pub is_beneficiary : List ℕ → Option Draft → Bool
is_beneficiary bank (Some (CreditTransfer d)) = is_text d.creditor_agent bank
is_beneficiary bank other = false

-- the transfers of a bank, ascending: those that have it as the originator bank, or as
-- the beneficiary bank of the instruction
unfoldable pub transfers_of_bank : MessageSet → List ℕ → List TransferKey
transfers_of_bank held bank =
    filter (λ transfer. is_originator bank transfer || is_beneficiary bank (instruction_of held transfer)) (keys_of held)
