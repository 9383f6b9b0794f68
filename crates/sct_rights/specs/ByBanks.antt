-- Transfers filed by bank, and the transfers of a report by them, for those who prove it.
use Rattle.std.specs.Prelude.{◌≡◌, ◌&&◌, ◌||◌, ℕ, Bool, List, Some}
use Rattle.std.specs.List.{list_any}
use Rattle.indexmap.specs.IndexMap.{IndexMap}
use Rattle.sct_element.specs.Text.{is_text}
use Rattle.sct_message.specs.Order.{same_transfer}
use Rattle.sct_message.specs.Sets.{MessageSet}
use Rattle.sct_message.specs.Transfers.{instruction_of, is_on}
use Rattle.sct_message.specs.declared.draft.Draft.{Draft}
use Rattle.sct_message.specs.declared.keys.TransferKey.{TransferKey}
use Rattle.sct_set.specs.Buckets.{bucket}
use Rattle.sct_set.specs.Contents.{contents_of}
use Rattle.sct_view.specs.Answers.{is_beneficiary, is_originator}
use Rattle.sct_reconcile.specs.Reports.{is_of_day}

-- the bank is the originator bank of the transfer, or the beneficiary bank of the message on it
abbrev pub names_bank : List ℕ → TransferKey → Draft → Bool
names_bank bank transfer m = is_originator bank transfer || is_beneficiary bank (Some m)

-- under each bank are the transfers of which a message of the list names it
abbrev pub IsFiledByBanks : {S : Type 0} → IndexMap (List ℕ) (List TransferKey) S → List Draft → Type 0
IsFiledByBanks index ms = (bank : List ℕ) (t : TransferKey)
    → list_any (same_transfer t) (bucket is_text index bank) ≡ list_any (λ m. is_on t m && names_bank bank t m) ms

-- the same of a set of messages
abbrev pub IsFiledForBanks : {S : Type 0} → MessageSet → IndexMap (List ℕ) (List TransferKey) S → Type 0
IsFiledForBanks held index = (ms : List Draft) × (contents_of ms ≡ held) × IsFiledByBanks index ms

-- the transfer is one of the bank, by its sole clean instruction, and that has no other settlement day
abbrev pub is_reported : MessageSet → List ℕ → List ℕ → TransferKey → Bool
is_reported held bank day transfer =
    (is_originator bank transfer || is_beneficiary bank (instruction_of held transfer)) && is_of_day day (instruction_of held transfer)
