-- The transfers that a batch touches, for auditors: those of its fresh messages, and those of the messages held before
-- whose identity the fresh ones contradict. A law says that all other transfers stay as they were.
use Rattle.std.specs.FinSet as set
use Rattle.std.specs.Prelude.{◌≡◌, ◌≤◌, ◌*◌, ◌&&◌, ◌++◌, not, true, Bool, ℕ, List, length, filter, flat_map, Contains}
use Rattle.sct_message.specs.Ascending.{ascending}
use Rattle.sct_message.specs.Keys.{transfers_of}
use Rattle.sct_message.specs.Order.{transfer_order}
use Rattle.sct_message.specs.Sets.{MessageSet, is_contradicted}
use Rattle.sct_message.specs.Transfers.{asides_of, instruction_of, messages_on}
use Rattle.sct_message.specs.declared.draft.Draft.{Draft}
use Rattle.sct_message.specs.declared.keys.TransferKey.{TransferKey}
use Rattle.sct_view.specs.Answers.{found_on, recall_of, recalls_on, status_of}
use Rattle.sct_view.specs.Totals.{share_of}

-- the identity of the message is contradicted with the fresh messages, and was not before
abbrev pub is_newly_contradicted : MessageSet → MessageSet → Draft → Bool
is_newly_contradicted held fresh m = is_contradicted (set.union held fresh) m && not (is_contradicted held m)

-- the transfers touched, each once, ascending
unfoldable pub touched_by : MessageSet → MessageSet → List TransferKey
touched_by held fresh =
    ascending transfer_order
    (flat_map transfers_of (set.items fresh)
    ++ flat_map transfers_of (filter (is_newly_contradicted held fresh) (set.items held)))

-- the messages of a batch that are not held
abbrev pub fresh_of : MessageSet → MessageSet → MessageSet
fresh_of held batch = set.difference batch held

-- the transfers that a batch touches
abbrev pub touched_in : MessageSet → MessageSet → List TransferKey
touched_in held batch = touched_by held (fresh_of held batch)

-- The answers about a transfer are equal in two sets.
pub record IsToldAlike (held later : MessageSet) (transfer : TransferKey) : Type 0 where
  pub messages : messages_on later transfer ≡ messages_on held transfer
  pub asides : asides_of later transfer ≡ asides_of held transfer
  pub instruction : instruction_of later transfer ≡ instruction_of held transfer
  pub status : status_of later transfer ≡ status_of held transfer
  pub findings : found_on later transfer ≡ found_on held transfer
  pub recalls : recalls_on later transfer ≡ recalls_on held transfer
  pub recall : (cxl : List ℕ) → recall_of later (record { transfer = transfer; cxl = cxl })
      ≡ recall_of held (record { transfer = transfer; cxl = cxl })
  pub shares : (bank : List ℕ) → share_of later bank transfer ≡ share_of held bank transfer

-- a transfer that a batch does not touch has the same messages, status, findings, recalls and shares as before
abbrev pub UntouchedTransfersStay : Type 0
UntouchedTransfersStay = (held batch : MessageSet) (transfer : TransferKey)
    → (Contains (touched_by held (fresh_of held batch)) transfer → ⊥)
    → IsToldAlike held (set.union held batch) transfer

-- the transfers that a message is on, each once, ascending
abbrev pub keys_in : Draft → List TransferKey
keys_in m = ascending transfer_order (transfers_of m)

-- each message of the set is on at most this many transfers
abbrev pub AreOnAtMost : ℕ → MessageSet → Type 0
AreOnAtMost most held = (m : Draft) → set.contains held m ≡ true → length (keys_in m) ≤ most

-- if each message that is held or in the batch is on at most n transfers, the batch touches at most 2n
-- transfers for each of its fresh messages
abbrev pub BatchesTouchFew : Type 0
BatchesTouchFew = (most : ℕ) (held batch : MessageSet) → AreOnAtMost most held → AreOnAtMost most batch
    → length (touched_by held (fresh_of held batch)) ≤ 2 * most * set.len (fresh_of held batch)

-- two batches in turn touch the transfers that they touch together
abbrev pub TouchesAddUp : Type 0
TouchesAddUp = (held one other : MessageSet)
    → touched_in held (set.union one other)
    ≡ ascending transfer_order (touched_in held one ++ touched_in (set.union held one) other)
