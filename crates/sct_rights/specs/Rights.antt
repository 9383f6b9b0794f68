-- Who may send a message in the name of banks, and which transfers are theirs. Read by an auditor.
-- `banks` are the banks for which a client stands, and `held` is the set of messages that the site holds.
use Rattle.std.specs.FinSet as set
use Rattle.std.specs.Prelude.{ℕ, ◌&&◌, ◌||◌, ◌+◌, Bool, false, not, List, Option, None, Some, position, if◌then◌else◌}
use Rattle.std.specs.List.{list_any}
use Rattle.sct_element.specs.Text.{is_text}
use Rattle.sct_message.specs.Drafts.{head_of}
use Rattle.sct_message.specs.Keys.{transfer_key, transfers_of}
use Rattle.sct_message.specs.Sets.{MessageSet}
use Rattle.sct_message.specs.Transfers.{is_instruction, is_on}
use Rattle.sct_message.specs.declared.draft.Draft.{Draft}
use Rattle.sct_message.specs.declared.draft.Draft.TheVariants as draft
use Rattle.sct_message.specs.declared.keys.TransferKey.{TransferKey}
use Rattle.sct_rights.specs.declared.permission.Permission.{Permission}
use Rattle.sct_rights.specs.declared.permission.Permission.TheVariants as permission

-- ---- banks

-- the bank is one of the banks
abbrev pub is_one_of : List (List ℕ) → List ℕ → Bool
is_one_of banks bank = list_any (is_text bank) banks

-- the same of a bank that a message may leave out
abbrev pub is_some_of : List (List ℕ) → Option (List ℕ) → Bool
is_some_of banks None = false
is_some_of banks (Some bank) = is_one_of banks bank

-- ---- the banks of a message

-- the sender (InstgAgt)
abbrev pub sender_of : Draft → List ℕ
sender_of m = (head_of m).instructing_agent

-- one of the banks sent the message, or it was sent to one of them (InstgAgt, InstdAgt)
abbrev pub is_between : List (List ℕ) → Draft → Bool
is_between banks m = is_one_of banks (sender_of m) || is_some_of banks (head_of m).instructed_agent

-- the message instructs a transfer to one of the banks (CdtrAgt)
abbrev pub is_credit_to : List (List ℕ) → Draft → Bool
is_credit_to banks (draft.CreditTransfer d) = is_one_of banks d.creditor_agent
is_credit_to banks other = false

-- ---- the messages on a transfer, contradicted or not

-- a message on the transfer passes the test
abbrev pub has_on : MessageSet → TransferKey → (Draft → Bool) → Bool
has_on held transfer test = list_any (λ m. is_on transfer m && test m) (set.items held)

-- there is an instruction on the transfer (a pacs.008)
abbrev pub has_instruction : MessageSet → TransferKey → Bool
has_instruction held transfer = has_on held transfer is_instruction

-- there is an instruction on the transfer to one of the banks
abbrev pub has_credit_to : List (List ℕ) → MessageSet → TransferKey → Bool
has_credit_to banks held transfer = has_on held transfer (is_credit_to banks)

-- ---- the transfers that are theirs

-- The transfer is theirs: one of them is its originator bank (DbtrAgt), or the beneficiary bank of an instruction on it. Or
-- there is no instruction on it, and one of them sent or was sent a message on it.
unfoldable pub is_theirs : List (List ℕ) → MessageSet → TransferKey → Bool
is_theirs banks held transfer =
    is_one_of banks transfer.debtor_agent
    || has_credit_to banks held transfer
    || (not (has_instruction held transfer) && has_on held transfer (is_between banks))

-- ---- what may be sent

-- the originator bank of the transfer is none of the banks
abbrev pub is_foreign : List (List ℕ) → TransferKey → Bool
is_foreign banks transfer = not (is_one_of banks transfer.debtor_agent)

-- a message of the originator bank: allowed, unless a transaction has another originator bank; the first such one is named,
-- from 1
abbrev pub for_originators : Option ℕ → Permission
for_originators None = permission.Allowed
for_originators (Some place) = permission.NotOriginator (place + 1)

abbrev pub as_originators : List (List ℕ) → List TransferKey → Permission
as_originators banks transfers = for_originators (position (is_foreign banks) transfers)

-- a message of the beneficiary bank: it waits for an instruction on its transfer
abbrev pub as_beneficiary : List (List ℕ) → MessageSet → TransferKey → Permission
as_beneficiary banks held transfer =
    if not (has_instruction held transfer) then permission.Waits transfer
    else if has_credit_to banks held transfer then permission.Allowed
    else permission.NotBeneficiary

-- a message by its kind: instructions, recalls and requests are the originator bank's, and what answers them is the
-- beneficiary bank's
abbrev pub by_kind : List (List ℕ) → MessageSet → Draft → Permission
by_kind banks held (draft.CreditTransfer d) = as_originators banks (transfers_of (draft.CreditTransfer d))
by_kind banks held (draft.CancellationRequest d) = as_originators banks (transfers_of (draft.CancellationRequest d))
by_kind banks held (draft.StatusRequest d) = as_originators banks (transfers_of (draft.StatusRequest d))
by_kind banks held (draft.StatusReport d) = as_beneficiary banks held (transfer_key d.debtor_agent d.original.transaction_id)
by_kind banks held (draft.PaymentReturn d) = as_beneficiary banks held (transfer_key d.debtor_agent d.original.transaction_id)
by_kind banks held (draft.Resolution d) = as_beneficiary banks held (transfer_key d.debtor_agent d.original.transaction_id)

-- whether the message may be sent in the name of the banks, to a site that holds the set
unfoldable pub verdict : List (List ℕ) → MessageSet → Draft → Permission
verdict banks held m = if not (is_one_of banks (sender_of m)) then permission.NotSender else by_kind banks held m
