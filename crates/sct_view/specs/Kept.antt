-- How the tables of a view are read, for those who prove it: as functions from transfers to cases and from banks to
-- totals. A key that is absent reads as no messages and as zero totals.
use Rattle.std.specs.Prelude.{◌≡◌, ◌≤◌, ◌<◌, ◌^◌, ◌&&◌, ℕ, Bool, false, List, [], filter, Option, None, Some, is_some}
use Rattle.std.specs.List.{list_all, list_any}
use Rattle.indexmap.specs.IndexMap.{IndexMap, get}
use Rattle.sct_message.specs.Ascending.{ascending}
use Rattle.sct_message.specs.Order.{transfer_order}
use Rattle.sct_message.specs.Sets.{MessageSet, messages_in, contradicted_messages}
use Rattle.sct_message.specs.contracts.keys.TransferKeyPartialEq.TheImpl as keys
use Rattle.sct_element.specs.Text.{is_text}
use Rattle.sct_message.specs.Transfers.{is_on, is_instruction, messages_on, sole}
use Rattle.sct_message.specs.declared.draft.Draft.{Draft}
use Rattle.sct_message.specs.declared.keys.TransferKey.{TransferKey}
use Rattle.sct_case.specs.Statuses.{Standing, Returned, Unknown, as_standing}
use Rattle.sct_view.specs.Answers.{status_of}
use Rattle.sct_view.specs.Totals.{nothing, share, totals_over, cents_in, beneficiary_in}
use Rattle.sct_view.specs.declared.case.Case.{Case}
use Rattle.sct_view.specs.declared.totals.Totals.{Totals}

-- The data of a case: the clean messages on the transfer and the contradicted ones, both in order, and its status.
pub record Kept : Type 0 where
  pub clean : List Draft
  pub contradicted : List Draft
  pub stands : Standing

abbrev pub no_messages : Kept
no_messages = record { clean = []; contradicted = []; stands = Unknown }

-- the contradicted messages of the set that are on a transfer
abbrev pub contradicted_on : MessageSet → TransferKey → List Draft
contradicted_on held transfer = filter (is_on transfer) (contradicted_messages held)

-- the case of a transfer of the set
unfoldable pub case_of : MessageSet → TransferKey → Kept
case_of held transfer = record {
  clean = messages_on held transfer;
  contradicted = contradicted_on held transfer;
  stands = status_of held transfer;
}

-- the data of a case
abbrev pub kept_in : Case → Kept
kept_in case = record {
  clean = messages_in case.clean.items;
  contradicted = messages_in case.contradicted.items;
  stands = as_standing case.status;
}

abbrev pub kept_or_none : Option Case → Kept
kept_or_none None = no_messages
kept_or_none (Some case) = kept_in case

-- the same originator bank and the same identification: the test by which a table finds a transfer
abbrev pub same_key : TransferKey → TransferKey → Bool
same_key = keys.ghosts.eq

-- the table of cases, as a function of the transfer
abbrev pub case_at : {S : Type 0} → IndexMap TransferKey Case S → TransferKey → Kept
case_at cases transfer = kept_or_none (get same_key cases transfer)

abbrev pub totals_or_none : Option Totals → Totals
totals_or_none None = nothing
totals_or_none (Some totals) = totals

-- the table of totals, as a function of the bank
abbrev pub totals_at : {S : Type 0} → IndexMap (List ℕ) Totals S → List ℕ → Totals
totals_at totals bank = totals_or_none (get is_text totals bank)

-- the instruction of a case
abbrev pub instruction_in : Kept → Option Draft
instruction_in case = sole (filter is_instruction case.clean)

-- the share of a transfer in the totals of a bank, by its case
abbrev pub share_in : List ℕ → TransferKey → Kept → Totals
share_in bank transfer case = share bank transfer case.stands (instruction_in case)

-- ---- places

-- the table has a place for the transfer or the bank
abbrev pub has_case : {S : Type 0} → IndexMap TransferKey Case S → TransferKey → Bool
has_case cases transfer = is_some (get same_key cases transfer)

abbrev pub has_totals : {S : Type 0} → IndexMap (List ℕ) Totals S → List ℕ → Bool
has_totals totals bank = is_some (get is_text totals bank)

-- the tables have a place for the new case of the transfer, and for the totals of each of its banks
abbrev pub is_ready : {Y Z : Type 0} → IndexMap TransferKey Case Y → IndexMap (List ℕ) Totals Z → TransferKey → Kept → Bool
is_ready cases totals transfer case =
    has_case cases transfer
    && (has_totals totals transfer.debtor_agent && list_all (has_totals totals) (beneficiary_in (instruction_in case)))

-- ---- bounds

-- each number fits into its type
pub record IsInRange (t : Totals) : Type 0 where
  pub sent : t.sent < 2 ^ 64
  pub sent_cents : t.sent_cents < 2 ^ 128
  pub returned_in : t.returned_in < 2 ^ 128
  pub rejected : t.rejected < 2 ^ 64
  pub waiting : t.waiting < 2 ^ 64
  pub missing : t.missing < 2 ^ 64
  pub contradicted : t.contradicted < 2 ^ 64
  pub received : t.received < 2 ^ 64
  pub received_cents : t.received_cents < 2 ^ 128
  pub returned_out : t.returned_out < 2 ^ 128

-- each number of the first is at most the same number of the second
pub record IsUpTo (part t : Totals) : Type 0 where
  pub sent : part.sent ≤ t.sent
  pub sent_cents : part.sent_cents ≤ t.sent_cents
  pub returned_in : part.returned_in ≤ t.returned_in
  pub rejected : part.rejected ≤ t.rejected
  pub waiting : part.waiting ≤ t.waiting
  pub missing : part.missing ≤ t.missing
  pub contradicted : part.contradicted ≤ t.contradicted
  pub received : part.received ≤ t.received
  pub received_cents : part.received_cents ≤ t.received_cents
  pub returned_out : part.returned_out ≤ t.returned_out

-- the cents that are returned for a transfer
abbrev pub cents_back : Standing → ℕ
cents_back (Returned amount) = amount
cents_back other = 0

-- the amounts of a case are numbers of 64 bits
pub record IsSmall (case : Kept) : Type 0 where
  pub instructed : cents_in (instruction_in case) < 2 ^ 64
  pub back : cents_back case.stands < 2 ^ 64

-- ---- the tables

-- no transfer outside of the list has messages
abbrev pub ListsAll : List TransferKey → (TransferKey → Kept) → Type 0
ListsAll transfers cases = (t : TransferKey) → list_any (same_key t) transfers ≡ false → cases t ≡ no_messages

-- the shares of a bank, summed over the transfers of the list, each transfer counted once
abbrev pub sums_of : (TransferKey → Kept) → List TransferKey → List ℕ → Totals
sums_of cases transfers bank = totals_over (λ t. share_in bank t (cases t)) (ascending transfer_order transfers)

-- The totals of each bank are the sums of its shares, over any list that has all transfers with messages.
abbrev pub AreSums : (TransferKey → Kept) → (List ℕ → Totals) → Type 0
AreSums cases totals = (transfers : List TransferKey) → ListsAll transfers cases → (bank : List ℕ)
    → totals bank ≡ sums_of cases transfers bank

-- The table has the case of each transfer of a set of messages.
abbrev pub AreCasesOf : {S : Type 0} → MessageSet → IndexMap TransferKey Case S → Type 0
AreCasesOf held cases = (transfer : TransferKey) → case_at cases transfer ≡ case_of held transfer
