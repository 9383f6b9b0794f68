-- Proof plumbing: a message can be recovered from its kind, its elements and its transactions, so equal elements mean
-- one message.
use Rattle.std.proofs.Common.{◌≡◌, ap, refl, drop, List}
use Rattle.std.specs.Prelude.{option_and_then}
use Rattle.sct_reason.specs.Reasons.{reason_of}
use Rattle.sct_message.specs.declared.draft.CreditTransfer.{CreditTransfer}
use Rattle.sct_message.specs.declared.draft.StatusReport.{StatusReport}
use Rattle.sct_message.specs.declared.draft.StatusRequest.{StatusRequest}
use Rattle.sct_message.specs.declared.draft.PaymentReturn.{PaymentReturn}
use Rattle.sct_message.specs.declared.draft.Resolution.{Resolution}
use Rattle.sct_message.specs.declared.draft.RecallTx.{RecallTx}
use Rattle.sct_message.specs.declared.draft.Draft.{Draft}
use Rattle.sct_message.specs.declared.draft.Draft.TheVariants as draft
use Rattle.sct_message.specs.declared.kinds.Kind.{Kind}
use Rattle.sct_message.specs.declared.kinds.Kind.TheVariants.{Camt029, Camt056, Pacs002, Pacs004, Pacs008, Pacs028}
use Rattle.sct_message.specs.Drafts.{kind_of}
use Rattle.sct_message.specs.Order.{elements_of, transactions_of}
use Rattle.sct_message.specs.CellsBack.{Cells, may_cell, cell, cents, the_reason, reason_back, may_reason_back, head_from, original_from}

-- ---- the records

abbrev credit_transfer_from : Cells → CreditTransfer
credit_transfer_from es = record {
  head = head_from es;
  settlement_date = cell 5 es;
  service_level = cell 6 es;
  local_instrument = cell 7 es;
  instruction_id = may_cell 8 es;
  end_to_end_id = cell 9 es;
  transaction_id = cell 10 es;
  settlement_amount = cents (cell 11 es);
  currency = cell 12 es;
  charge_bearer = cell 13 es;
  acceptance_time = may_cell 14 es;
  debtor = cell 15 es;
  debtor_account = cell 16 es;
  debtor_agent = cell 17 es;
  creditor_agent = cell 18 es;
  creditor = cell 19 es;
  creditor_account = cell 20 es;
  remittance = may_cell 21 es;
}

credit_transfer_back : (d : CreditTransfer) → credit_transfer_from (elements_of (draft.CreditTransfer d)) ≡ d
credit_transfer_back d = refl

abbrev status_report_from : Cells → StatusReport
status_report_from es = record {
  head = head_from es;
  original = original_from (drop 5 es);
  status = cell 9 es;
  reason = option_and_then reason_of (may_cell 10 es);
  debtor_agent = cell 11 es;
}

status_report_back : (d : StatusReport) → status_report_from (elements_of (draft.StatusReport d)) ≡ d
status_report_back d = λ i. record {
  head = d.head;
  original = d.original;
  status = d.status;
  reason = may_reason_back d.reason i;
  debtor_agent = d.debtor_agent;
}

abbrev status_request_from : Cells → StatusRequest
status_request_from es = record {
  head = head_from es;
  original = original_from (drop 5 es);
  cancellation_id = may_cell 9 es;
  debtor_agent = cell 10 es;
}

status_request_back : (d : StatusRequest) → status_request_from (elements_of (draft.StatusRequest d)) ≡ d
status_request_back d = refl

abbrev payment_return_from : Cells → PaymentReturn
payment_return_from es = record {
  head = head_from es;
  return_id = cell 5 es;
  cancellation_id = cell 6 es;
  original = original_from (drop 7 es);
  original_amount = cents (cell 11 es);
  returned_amount = cents (cell 12 es);
  currency = cell 13 es;
  settlement_date = cell 14 es;
  reason = the_reason (reason_of (cell 15 es));
  debtor_agent = cell 16 es;
}

payment_return_back : (d : PaymentReturn) → payment_return_from (elements_of (draft.PaymentReturn d)) ≡ d
payment_return_back d = λ i. record {
  head = d.head;
  return_id = d.return_id;
  cancellation_id = d.cancellation_id;
  original = d.original;
  original_amount = d.original_amount;
  returned_amount = d.returned_amount;
  currency = d.currency;
  settlement_date = d.settlement_date;
  reason = reason_back d.reason i;
  debtor_agent = d.debtor_agent;
}

abbrev resolution_from : Cells → Resolution
resolution_from es = record {
  head = head_from es;
  resolution_id = cell 5 es;
  cancellation_id = cell 6 es;
  original = original_from (drop 7 es);
  confirmation = cell 11 es;
  reason = the_reason (reason_of (cell 12 es));
  debtor_agent = cell 13 es;
}

resolution_back : (d : Resolution) → resolution_from (elements_of (draft.Resolution d)) ≡ d
resolution_back d = λ i. record {
  head = d.head;
  resolution_id = d.resolution_id;
  cancellation_id = d.cancellation_id;
  original = d.original;
  confirmation = d.confirmation;
  reason = reason_back d.reason i;
  debtor_agent = d.debtor_agent;
}

-- ---- the message

abbrev pub message_from : Kind → Cells → List RecallTx → Draft
message_from Camt029 es txs = draft.Resolution (resolution_from es)
message_from Camt056 es txs = draft.CancellationRequest (record { head = head_from es; txs = txs })
message_from Pacs002 es txs = draft.StatusReport (status_report_from es)
message_from Pacs004 es txs = draft.PaymentReturn (payment_return_from es)
message_from Pacs008 es txs = draft.CreditTransfer (credit_transfer_from es)
message_from Pacs028 es txs = draft.StatusRequest (status_request_from es)

-- a message is recovered from its kind, its elements and its transactions
pub message_back : (d : Draft) → message_from (kind_of d) (elements_of d) (transactions_of d) ≡ d
message_back (draft.CreditTransfer d) = ap (λ (m : CreditTransfer). draft.CreditTransfer m) (credit_transfer_back d)
message_back (draft.StatusReport d) = ap (λ (m : StatusReport). draft.StatusReport m) (status_report_back d)
message_back (draft.StatusRequest d) = ap (λ (m : StatusRequest). draft.StatusRequest m) (status_request_back d)
message_back (draft.CancellationRequest d) = refl
message_back (draft.PaymentReturn d) = ap (λ (m : PaymentReturn). draft.PaymentReturn m) (payment_return_back d)
message_back (draft.Resolution d) = ap (λ (m : Resolution). draft.Resolution m) (resolution_back d)
