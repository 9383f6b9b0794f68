-- Laws of the answers, for all messages, for auditors. Each law is the contract of a function.
use Rattle.std.specs.FinSet as set
use Rattle.std.specs.Prelude.{◌≡◌, ◌≢◌, ◌↔◌, ◌+◌, ℕ, List, length, filter, Contains}
use Rattle.std.specs.List.{sum_by}
use Rattle.sct_message.specs.Sets.{MessageSet}
use Rattle.sct_message.specs.Transfers.{keys_of}
use Rattle.sct_message.specs.declared.keys.TransferKey.{TransferKey}
use Rattle.sct_set.specs.Contents.{HaveSameMessages}
use Rattle.sct_view.specs.Answers.{is_originator}
use Rattle.sct_view.specs.StatusText.{status_text_of}
use Rattle.sct_view.specs.Totals.{nothing, share_of, totals_of, banks_of}
use Rattle.sct_view.specs.TotalsText.{totals_text_of}
use Rattle.sct_view.specs.declared.totals.Totals.{Totals}

-- sets that hold the same messages have one status text, and one totals text
pub record EqualSetsHaveEqualTexts : Type 0 where
  pub status : (a b : MessageSet) → HaveSameMessages a b → status_text_of a ≡ status_text_of b
  pub totals : (a b : MessageSet) → HaveSameMessages a b → totals_text_of a ≡ totals_text_of b

-- a number of the totals, summed over all banks
abbrev pub over_all_banks : (Totals → ℕ) → MessageSet → ℕ
over_all_banks number held = sum_by (λ bank. number (totals_of held bank)) (banks_of held)

-- Money is conserved. Over all banks, as many transfers and cents are sent as are received. As many cents are returned
-- to originator banks as beneficiary banks return.
pub record MoneyIsConserved : Type 0 where
  pub count : (held : MessageSet)
      → over_all_banks (λ t. t.sent) held ≡ over_all_banks (λ t. t.received) held
  pub cents : (held : MessageSet)
      → over_all_banks (λ t. t.sent_cents) held ≡ over_all_banks (λ t. t.received_cents) held
  pub returned : (held : MessageSet)
      → over_all_banks (λ t. t.returned_in) held ≡ over_all_banks (λ t. t.returned_out) held

-- the transfers that an originator bank's totals count: sent, rejected, waiting, missing or contradicted
abbrev pub counted_in : Totals → ℕ
counted_in t = t.sent + t.rejected + t.waiting + t.missing + t.contradicted

-- Each transfer of an originator bank is counted in exactly one of the five counts: they add up to its transfers,
-- and each transfer adds 1 to one of them.
pub record EachTransferIsCountedOnce : Type 0 where
  pub all : (held : MessageSet) (bank : List ℕ)
      → counted_in (totals_of held bank) ≡ length (filter (is_originator bank) (keys_of held))
  pub each : (held : MessageSet) (transfer : TransferKey) → Contains (keys_of held) transfer
      → counted_in (share_of held transfer.debtor_agent transfer) ≡ 1

-- the banks that are listed are those whose totals are not all zero
abbrev pub BanksHaveTotals : Type 0
BanksHaveTotals = (held : MessageSet) (bank : List ℕ)
    → Contains (banks_of held) bank ↔ (totals_of held bank ≢ nothing)

-- Batches may be applied in any order. This is a fact of finite sets, which holds whatever the code does. It says something
-- of views only beside the clause of `View::apply`, that the messages after it are the union of those held and the batch.
abbrev pub OrderOfBatchesDoesNotMatter : Type 0
OrderOfBatchesDoesNotMatter = (held one other : MessageSet)
    → set.union (set.union held one) other ≡ set.union (set.union held other) one
