-- The totals of a bank, for auditors: sums over the transfers of a set. Counts and cents are numbers without bound.
use Rattle.std.specs.Prelude.{ℕ, ◌+◌, ◌==◌, ◌&&◌, Bool, not, List, filter, flat_map, [], ◌∷◌, Option, Some, if◌then◌else◌}
use Rattle.std.specs.List.{sum_by}
use Rattle.sct_message.specs.Ascending.{ascending}
use Rattle.sct_message.specs.Order.{text_order}
use Rattle.sct_message.specs.Sets.{MessageSet}
use Rattle.sct_message.specs.Transfers.{keys_of, instruction_of}
use Rattle.sct_message.specs.declared.draft.Draft.{Draft}
use Rattle.sct_message.specs.declared.draft.Draft.TheVariants.{CreditTransfer}
use Rattle.sct_message.specs.declared.keys.TransferKey.{TransferKey}
use Rattle.sct_case.specs.Statuses.{Standing, Contradicted, Unknown, Missing, Rejected, Returned, Accepted, Investigated, Pending}
use Rattle.sct_view.specs.Answers.{status_of, is_originator, is_beneficiary}
use Rattle.sct_view.specs.declared.totals.Totals.{Totals}

-- ---- totals

abbrev pub nothing : Totals
nothing = record {
  sent = 0;
  sent_cents = 0;
  returned_in = 0;
  rejected = 0;
  waiting = 0;
  missing = 0;
  contradicted = 0;
  received = 0;
  received_cents = 0;
  returned_out = 0;
}

-- the sum of two totals, number by number
abbrev pub plus : Totals → Totals → Totals
plus a b = record {
  sent = a.sent + b.sent;
  sent_cents = a.sent_cents + b.sent_cents;
  returned_in = a.returned_in + b.returned_in;
  rejected = a.rejected + b.rejected;
  waiting = a.waiting + b.waiting;
  missing = a.missing + b.missing;
  contradicted = a.contradicted + b.contradicted;
  received = a.received + b.received;
  received_cents = a.received_cents + b.received_cents;
  returned_out = a.returned_out + b.returned_out;
}

-- all numbers are 0
abbrev pub is_nothing : Totals → Bool
is_nothing t =
    t.sent == 0 && t.sent_cents == 0 && t.returned_in == 0 && t.rejected == 0 && t.waiting == 0 && t.missing == 0
    && t.contradicted == 0 && t.received == 0 && t.received_cents == 0 && t.returned_out == 0

-- ---- the share of one transfer

-- the share of the originator bank, by the transfer's status and the cents of its instruction: the numbers that are not 0
abbrev pub share_of_originator : Standing → ℕ → Totals
share_of_originator (Contradicted found) cents = record nothing { contradicted = 1 }
share_of_originator Unknown cents = nothing
share_of_originator Missing cents = record nothing { missing = 1 }
share_of_originator (Rejected reason) cents = record nothing { rejected = 1 }
share_of_originator (Returned amount) cents = record nothing { sent = 1; sent_cents = cents; returned_in = amount }
share_of_originator Accepted cents = record nothing { sent = 1; sent_cents = cents }
share_of_originator Investigated cents = record nothing { waiting = 1 }
share_of_originator Pending cents = record nothing { waiting = 1 }

-- the share of the beneficiary bank of the instruction, in the same way
abbrev pub share_of_beneficiary : Standing → ℕ → Totals
share_of_beneficiary (Returned amount) cents = record nothing { received = 1; received_cents = cents; returned_out = amount }
share_of_beneficiary Accepted cents = record nothing { received = 1; received_cents = cents }
share_of_beneficiary other cents = nothing

-- the cents that an instruction names
abbrev pub cents_in : Option Draft → ℕ
cents_in (Some (CreditTransfer d)) = d.settlement_amount
cents_in other = 0

-- the share of a bank; a bank that pays itself is on both sides
unfoldable pub share : List ℕ → TransferKey → Standing → Option Draft → Totals
share bank transfer stands instruction =
    plus (if is_originator bank transfer then share_of_originator stands (cents_in instruction) else nothing)
    (if is_beneficiary bank instruction then share_of_beneficiary stands (cents_in instruction) else nothing)

-- the share of a transfer of the set in the totals of a bank
abbrev pub share_of : MessageSet → List ℕ → TransferKey → Totals
share_of held bank transfer = share bank transfer (status_of held transfer) (instruction_of held transfer)

-- ---- the sums

-- each number summed over some transfers
abbrev pub totals_over : (TransferKey → Totals) → List TransferKey → Totals
totals_over f transfers = record {
  sent = sum_by (λ t. (f t).sent) transfers;
  sent_cents = sum_by (λ t. (f t).sent_cents) transfers;
  returned_in = sum_by (λ t. (f t).returned_in) transfers;
  rejected = sum_by (λ t. (f t).rejected) transfers;
  waiting = sum_by (λ t. (f t).waiting) transfers;
  missing = sum_by (λ t. (f t).missing) transfers;
  contradicted = sum_by (λ t. (f t).contradicted) transfers;
  received = sum_by (λ t. (f t).received) transfers;
  received_cents = sum_by (λ t. (f t).received_cents) transfers;
  returned_out = sum_by (λ t. (f t).returned_out) transfers;
}

-- the totals of a bank in a set of messages
unfoldable pub totals_of : MessageSet → List ℕ → Totals
totals_of held bank = totals_over (share_of held bank) (keys_of held)

-- ---- the banks

-- the beneficiary bank of an instruction
abbrev pub beneficiary_in : Option Draft → List (List ℕ)
beneficiary_in (Some (CreditTransfer d)) = d.creditor_agent ∷ []
beneficiary_in other = []

-- the banks of a transfer: its originator bank, and the beneficiary bank of its instruction
abbrev pub banks_on : MessageSet → TransferKey → List (List ℕ)
banks_on held transfer = transfer.debtor_agent ∷ beneficiary_in (instruction_of held transfer)

-- the banks whose totals are not all zero, ascending. Only the banks of transfers are looked at. A law says that the
-- list has each bank whose totals are not all zero.
unfoldable pub banks_of : MessageSet → List (List ℕ)
banks_of held =
    filter (λ bank. not (is_nothing (totals_of held bank))) (ascending text_order (flat_map (banks_on held) (keys_of held)))
