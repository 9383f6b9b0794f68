-- What is shown of a set of messages to banks. Read by an auditor.
use Rattle.std.specs.FinSet as set
use Rattle.std.specs.Prelude.{ℕ, ◌&&◌, Bool, List, map, filter, if◌then◌else◌}
use Rattle.std.specs.List.{list_any}
use Rattle.sct_message.specs.Keys.{identity_of, transfers_of}
use Rattle.sct_message.specs.Order.{same_identity}
use Rattle.sct_message.specs.Recalls.{Recalls, transfer_in}
use Rattle.sct_message.specs.declared.draft.RecallTx.{RecallTx}
use Rattle.sct_message.specs.Sets.{MessageSet, in_order}
use Rattle.sct_message.specs.Transfers.{is_on}
use Rattle.sct_message.specs.declared.draft.Draft.{Draft}
use Rattle.sct_message.specs.declared.draft.Draft.TheVariants as draft
use Rattle.sct_message.specs.declared.keys.TransferKey.{TransferKey}
use Rattle.sct_set.specs.Archive.{archive_text_of}
use Rattle.sct_set.specs.Contents.{contents_of}
use Rattle.sct_view.specs.StatusText.{lines_on}
use Rattle.sct_view.specs.Totals.{totals_of}
use Rattle.sct_view.specs.TotalsText.{totals_line}
use Rattle.sct_rights.specs.Rights.{is_one_of, is_theirs}

-- ---- the messages that are visible

-- the message is on a transfer that is theirs
abbrev pub is_on_theirs : List (List ℕ) → MessageSet → Draft → Bool
is_on_theirs banks held m = list_any (is_theirs banks held) (transfers_of m)

-- a message of the set that is on a transfer of theirs has the identity of the message
abbrev pub is_visible : List (List ℕ) → MessageSet → Draft → Bool
is_visible banks held m =
    list_any (λ other. same_identity (identity_of other) (identity_of m) && is_on_theirs banks held other) (set.items held)

-- the messages on transfers that are theirs, and with each of them all messages of its identity: without these a
-- contradicted message would look clean
unfoldable pub visible : List (List ℕ) → MessageSet → MessageSet
visible banks held = contents_of (filter (is_visible banks held) (in_order held))

-- what is there to see on one transfer: what is visible if the transfer is theirs, and nothing if not
abbrev pub seen_on : List (List ℕ) → MessageSet → TransferKey → MessageSet
seen_on banks held transfer = if is_theirs banks held transfer then visible banks held else set.empty

-- ---- a message as it is shown

-- the transactions of a recall message: all, if one of the banks sent it, else those on transfers that are theirs
abbrev pub shown_txs : List (List ℕ) → MessageSet → Recalls → List RecallTx
shown_txs banks held d =
    if is_one_of banks d.head.instructing_agent then d.txs else filter (λ tx. is_theirs banks held (transfer_in tx)) d.txs

-- a recall message is shown with those transactions, every other message as it is
abbrev pub shown_to : List (List ℕ) → MessageSet → Draft → Draft
shown_to banks held (draft.CancellationRequest d) = draft.CancellationRequest (record { head = d.head; txs = shown_txs banks held d })
shown_to banks held other = other

-- ---- the answers

-- the lines of a transfer
unfoldable pub lines_for : List (List ℕ) → MessageSet → TransferKey → List ℕ
lines_for banks held transfer = lines_on (seen_on banks held transfer) transfer

-- the messages on a transfer, each as it is shown
abbrev pub those_for : List (List ℕ) → MessageSet → TransferKey → MessageSet
those_for banks held transfer =
    contents_of (map (shown_to banks held) (filter (is_on transfer) (in_order (seen_on banks held transfer))))

unfoldable pub messages_for : List (List ℕ) → MessageSet → TransferKey → List ℕ
messages_for banks held transfer = archive_text_of (those_for banks held transfer)

-- the line of a bank of theirs in the totals
unfoldable pub bank_line_for : List (List ℕ) → MessageSet → List ℕ → List ℕ
bank_line_for banks held bank = totals_line bank (totals_of (visible banks held) bank)
