-- The written form of a message: one line with no spaces, keys in the order of their bytes, absent ones left out. A recall
-- message of one transaction has its elements beside the head's, one of more has a list of objects.
-- Read by an auditor, but for the last part: that elements read back serves the proofs.
use Rattle.std.specs.Prelude.{◌≡◌, ℕ, ◌==◌, Bool, not, List, [], ◌∷◌, ◌++◌, Option, Some, None, option_map}
use Rattle.std.specs.List.{AllByRecursion, list_all}
use Rattle.serde_json.specs.Data.{Data, string, array, object, Items, no_items, item, Members, no_members, put}
use Rattle.serde_json.specs.Written.{compact_text}
use Rattle.sct_element.specs.Account.{written_iban}
use Rattle.sct_element.specs.Bank.{written_bic}
use Rattle.sct_element.specs.Date.{written_day}
use Rattle.sct_element.specs.Identification.{written_identification, written_stamp, written_code}
use Rattle.sct_element.specs.Money.{amount_text, cents_of}
use Rattle.sct_reason.specs.Codes.{reason_text}
use Rattle.sct_reason.specs.Reasons.{reason_of}
use Rattle.sct_message.specs.declared.draft.Head.{Head}
use Rattle.sct_message.specs.declared.draft.Original.{Original}
use Rattle.sct_message.specs.declared.draft.CreditTransfer.{CreditTransfer}
use Rattle.sct_message.specs.declared.draft.StatusReport.{StatusReport}
use Rattle.sct_message.specs.declared.draft.StatusRequest.{StatusRequest}
use Rattle.sct_message.specs.declared.draft.RecallTx.{RecallTx}
use Rattle.sct_message.specs.declared.draft.PaymentReturn.{PaymentReturn}
use Rattle.sct_message.specs.declared.draft.Resolution.{Resolution}
use Rattle.sct_message.specs.declared.draft.Draft.{Draft}
use Rattle.sct_message.specs.declared.draft.Draft.TheVariants as draft
use Rattle.sct_message.specs.Recalls.{Recalls}
use Rattle.sct_json.specs.declared.keys.Key.{Key}
use Rattle.sct_json.specs.declared.keys.Key.TheVariants as key
use Rattle.sct_json.specs.Keys.{key_text}
use Rattle.sct_json.specs.Reading.{name_of, remittance_of}

-- a key and the written form of its element; none where it is absent
abbrev pub Row : Type 0
Row = Key × Option (List ℕ)

-- the members with a text at a key; an absent element has no member
abbrev pub with_text : Key → Option (List ℕ) → Members → Members
with_text k None ms = ms
with_text k (Some s) ms = put (key_text k) (string s) ms

abbrev pub with_rows : List Row → Members → Members
with_rows [] ms = ms
with_rows (r ∷ rs) ms = with_rows rs (with_text r.0 r.1 ms)

-- the head
abbrev pub head_rows : Head → List Row
head_rows m =
    (key.MsgNmId, Some m.message_name) ∷
    (key.MsgId, Some m.message_id) ∷
    (key.CreDtTm, Some m.creation_time) ∷
    (key.InstgAgt, Some m.instructing_agent) ∷
    (key.InstdAgt, m.instructed_agent) ∷ []

-- the transfer that a later message is about
abbrev pub original_rows : Original → List Row
original_rows m =
    (key.OrgnlMsgId, Some m.message_id) ∷
    (key.OrgnlMsgNmId, Some m.message_name) ∷
    (key.OrgnlEndToEndId, m.end_to_end_id) ∷
    (key.OrgnlTxId, Some m.transaction_id) ∷ []

-- pacs.008, without its head
abbrev pub credit_transfer_rows : CreditTransfer → List Row
credit_transfer_rows m =
    (key.IntrBkSttlmDt, Some m.settlement_date) ∷
    (key.SvcLvl, Some m.service_level) ∷
    (key.LclInstrm, Some m.local_instrument) ∷
    (key.InstrId, m.instruction_id) ∷
    (key.EndToEndId, Some m.end_to_end_id) ∷
    (key.TxId, Some m.transaction_id) ∷
    (key.IntrBkSttlmAmt, Some (amount_text m.settlement_amount)) ∷
    (key.Ccy, Some m.currency) ∷
    (key.ChrgBr, Some m.charge_bearer) ∷
    (key.AccptncDtTm, m.acceptance_time) ∷
    (key.Dbtr, Some m.debtor) ∷
    (key.DbtrAcct, Some m.debtor_account) ∷
    (key.DbtrAgt, Some m.debtor_agent) ∷
    (key.CdtrAgt, Some m.creditor_agent) ∷
    (key.Cdtr, Some m.creditor) ∷
    (key.CdtrAcct, Some m.creditor_account) ∷
    (key.Ustrd, m.remittance) ∷ []

-- pacs.002, without its head and its original message
abbrev pub status_report_rows : StatusReport → List Row
status_report_rows m =
    (key.TxSts, Some m.status) ∷
    (key.Rsn, option_map reason_text m.reason) ∷
    (key.DbtrAgt, Some m.debtor_agent) ∷ []

-- pacs.028, without its head and its original message
abbrev pub status_request_rows : StatusRequest → List Row
status_request_rows m =
    (key.OrgnlCxlId, m.cancellation_id) ∷
    (key.DbtrAgt, Some m.debtor_agent) ∷ []

-- a transaction of a camt.056
abbrev pub transaction_rows : RecallTx → List Row
transaction_rows m =
    (key.CxlId, Some m.cancellation_id) ∷
    original_rows m.original ++
    (key.OrgnlIntrBkSttlmAmt, Some (amount_text m.original_amount)) ∷
    (key.Ccy, Some m.currency) ∷
    (key.OrgnlIntrBkSttlmDt, m.original_settlement_date) ∷
    (key.Rsn, Some (reason_text m.reason)) ∷
    (key.DbtrAgt, Some m.debtor_agent) ∷ []

-- pacs.004, without its head
abbrev pub payment_return_rows : PaymentReturn → List Row
payment_return_rows m =
    (key.RtrId, Some m.return_id) ∷
    (key.OrgnlCxlId, Some m.cancellation_id) ∷
    original_rows m.original ++
    (key.OrgnlIntrBkSttlmAmt, Some (amount_text m.original_amount)) ∷
    (key.RtrdIntrBkSttlmAmt, Some (amount_text m.returned_amount)) ∷
    (key.Ccy, Some m.currency) ∷
    (key.IntrBkSttlmDt, Some m.settlement_date) ∷
    (key.Rsn, Some (reason_text m.reason)) ∷
    (key.DbtrAgt, Some m.debtor_agent) ∷ []

-- camt.029, without its head
abbrev pub resolution_rows : Resolution → List Row
resolution_rows m =
    (key.CxlStsId, Some m.resolution_id) ∷
    (key.OrgnlCxlId, Some m.cancellation_id) ∷
    original_rows m.original ++
    (key.Conf, Some m.confirmation) ∷
    (key.Rsn, Some (reason_text m.reason)) ∷
    (key.DbtrAgt, Some m.debtor_agent) ∷ []

-- the members that a part puts beside others
abbrev pub with_head : Head → Members → Members
with_head m ms = with_rows (head_rows m) ms

abbrev pub with_original : Original → Members → Members
with_original m ms = with_rows (original_rows m) ms

abbrev pub with_credit_transfer : CreditTransfer → Members → Members
with_credit_transfer m ms = with_rows (credit_transfer_rows m) (with_head m.head ms)

abbrev pub with_status_report : StatusReport → Members → Members
with_status_report m ms = with_rows (status_report_rows m) (with_original m.original (with_head m.head ms))

abbrev pub with_status_request : StatusRequest → Members → Members
with_status_request m ms = with_rows (status_request_rows m) (with_original m.original (with_head m.head ms))

-- an object for each transaction
abbrev pub transaction_objects : List RecallTx → Items
transaction_objects [] = no_items
transaction_objects (tx ∷ txs) = item (object (with_rows (transaction_rows tx) no_members)) (transaction_objects txs)

abbrev pub with_list : List RecallTx → Members → Members
with_list txs ms = put (key_text key.TxInf) (array (transaction_objects txs)) ms

-- one transaction has no list; no message has no transaction
abbrev pub with_transactions : List RecallTx → Members → Members
with_transactions [] ms = with_list [] ms
with_transactions (tx ∷ []) ms = with_rows (transaction_rows tx) ms
with_transactions (tx ∷ (other ∷ more)) ms = with_list (tx ∷ (other ∷ more)) ms

abbrev pub with_cancellation_request : Recalls → Members → Members
with_cancellation_request m ms = with_transactions m.txs (with_head m.head ms)

abbrev pub with_payment_return : PaymentReturn → Members → Members
with_payment_return m ms = with_rows (payment_return_rows m) (with_head m.head ms)

abbrev pub with_resolution : Resolution → Members → Members
with_resolution m ms = with_rows (resolution_rows m) (with_head m.head ms)

abbrev pub with_elements : Draft → Members → Members
with_elements (draft.CreditTransfer m) ms = with_credit_transfer m ms
with_elements (draft.StatusReport m) ms = with_status_report m ms
with_elements (draft.StatusRequest m) ms = with_status_request m ms
with_elements (draft.CancellationRequest m) ms = with_cancellation_request m ms
with_elements (draft.PaymentReturn m) ms = with_payment_return m ms
with_elements (draft.Resolution m) ms = with_resolution m ms

-- the object that is written for a message, and its text
abbrev pub written_object : Draft → Data
written_object m = object (with_elements m no_members)

unfoldable pub written_text : Draft → List ℕ
written_text m = compact_text (written_object m)

-- no byte of the text is a line feed
abbrev pub has_no_line_feed : List ℕ → Bool
has_no_line_feed text = list_all (λ byte. not (byte == 10)) text

-- ---- The written form of each element is read as the element.

abbrev pub ReadsBack : {X : Type 0} → (List ℕ → Option X) → (X → List ℕ) → X → Type 0
ReadsBack reads written x = reads (written x) ≡ Some x

abbrev pub MayReadBack : {X : Type 0} → (List ℕ → Option X) → (X → List ℕ) → Option X → Type 0
MayReadBack reads written None = Unit {0}
MayReadBack reads written (Some x) = ReadsBack reads written x

pub record HeadReadsBack (m : Head) : Type 0 where
  pub message_name : ReadsBack written_identification (λ s. s) m.message_name
  pub message_id : ReadsBack written_identification (λ s. s) m.message_id
  pub creation_time : ReadsBack written_stamp (λ s. s) m.creation_time
  pub instructing_agent : ReadsBack written_bic (λ s. s) m.instructing_agent
  pub instructed_agent : MayReadBack written_bic (λ s. s) m.instructed_agent

pub record OriginalReadsBack (m : Original) : Type 0 where
  pub message_id : ReadsBack written_identification (λ s. s) m.message_id
  pub message_name : ReadsBack written_identification (λ s. s) m.message_name
  pub end_to_end_id : MayReadBack written_identification (λ s. s) m.end_to_end_id
  pub transaction_id : ReadsBack written_identification (λ s. s) m.transaction_id

pub record CreditTransferReadsBack (m : CreditTransfer) : Type 0 where
  pub head : HeadReadsBack m.head
  pub settlement_date : ReadsBack written_day (λ s. s) m.settlement_date
  pub service_level : ReadsBack written_code (λ s. s) m.service_level
  pub local_instrument : ReadsBack written_code (λ s. s) m.local_instrument
  pub instruction_id : MayReadBack written_identification (λ s. s) m.instruction_id
  pub end_to_end_id : ReadsBack written_identification (λ s. s) m.end_to_end_id
  pub transaction_id : ReadsBack written_identification (λ s. s) m.transaction_id
  pub settlement_amount : ReadsBack cents_of amount_text m.settlement_amount
  pub currency : ReadsBack written_code (λ s. s) m.currency
  pub charge_bearer : ReadsBack written_code (λ s. s) m.charge_bearer
  pub acceptance_time : MayReadBack written_stamp (λ s. s) m.acceptance_time
  pub debtor : ReadsBack name_of (λ s. s) m.debtor
  pub debtor_account : ReadsBack written_iban (λ s. s) m.debtor_account
  pub debtor_agent : ReadsBack written_bic (λ s. s) m.debtor_agent
  pub creditor_agent : ReadsBack written_bic (λ s. s) m.creditor_agent
  pub creditor : ReadsBack name_of (λ s. s) m.creditor
  pub creditor_account : ReadsBack written_iban (λ s. s) m.creditor_account
  pub remittance : MayReadBack remittance_of (λ s. s) m.remittance

pub record StatusReportReadsBack (m : StatusReport) : Type 0 where
  pub head : HeadReadsBack m.head
  pub original : OriginalReadsBack m.original
  pub status : ReadsBack written_code (λ s. s) m.status
  pub reason : MayReadBack reason_of reason_text m.reason
  pub debtor_agent : ReadsBack written_bic (λ s. s) m.debtor_agent

pub record StatusRequestReadsBack (m : StatusRequest) : Type 0 where
  pub head : HeadReadsBack m.head
  pub original : OriginalReadsBack m.original
  pub cancellation_id : MayReadBack written_identification (λ s. s) m.cancellation_id
  pub debtor_agent : ReadsBack written_bic (λ s. s) m.debtor_agent

pub record TransactionReadsBack (m : RecallTx) : Type 0 where
  pub cancellation_id : ReadsBack written_identification (λ s. s) m.cancellation_id
  pub original : OriginalReadsBack m.original
  pub original_amount : ReadsBack cents_of amount_text m.original_amount
  pub currency : ReadsBack written_code (λ s. s) m.currency
  pub original_settlement_date : MayReadBack written_day (λ s. s) m.original_settlement_date
  pub reason : ReadsBack reason_of reason_text m.reason
  pub debtor_agent : ReadsBack written_bic (λ s. s) m.debtor_agent

pub record RecallsReadBack (m : Recalls) : Type 0 where
  pub head : HeadReadsBack m.head
  pub txs : AllByRecursion TransactionReadsBack m.txs

pub record PaymentReturnReadsBack (m : PaymentReturn) : Type 0 where
  pub head : HeadReadsBack m.head
  pub return_id : ReadsBack written_identification (λ s. s) m.return_id
  pub cancellation_id : ReadsBack written_identification (λ s. s) m.cancellation_id
  pub original : OriginalReadsBack m.original
  pub original_amount : ReadsBack cents_of amount_text m.original_amount
  pub returned_amount : ReadsBack cents_of amount_text m.returned_amount
  pub currency : ReadsBack written_code (λ s. s) m.currency
  pub settlement_date : ReadsBack written_day (λ s. s) m.settlement_date
  pub reason : ReadsBack reason_of reason_text m.reason
  pub debtor_agent : ReadsBack written_bic (λ s. s) m.debtor_agent

pub record ResolutionReadsBack (m : Resolution) : Type 0 where
  pub head : HeadReadsBack m.head
  pub resolution_id : ReadsBack written_identification (λ s. s) m.resolution_id
  pub cancellation_id : ReadsBack written_identification (λ s. s) m.cancellation_id
  pub original : OriginalReadsBack m.original
  pub confirmation : ReadsBack written_code (λ s. s) m.confirmation
  pub reason : ReadsBack reason_of reason_text m.reason
  pub debtor_agent : ReadsBack written_bic (λ s. s) m.debtor_agent

abbrev pub ElementsReadBack : Draft → Type 0
ElementsReadBack (draft.CreditTransfer m) = CreditTransferReadsBack m
ElementsReadBack (draft.StatusReport m) = StatusReportReadsBack m
ElementsReadBack (draft.StatusRequest m) = StatusRequestReadsBack m
ElementsReadBack (draft.CancellationRequest m) = RecallsReadBack m
ElementsReadBack (draft.PaymentReturn m) = PaymentReturnReadsBack m
ElementsReadBack (draft.Resolution m) = ResolutionReadsBack m
