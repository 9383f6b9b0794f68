-- The members of a written text one after another, in the order of the bytes of their keys. Proof plumbing, cited by
-- private clauses; that they make the written text is proved.
use Rattle.std.specs.Prelude.{◌≡◌, ℕ, List, [], ◌∷◌, ◌++◌, Option, Some, None, option_map}
use Rattle.json.specs.Token.{Token, begin_object, end_object, begin_array, end_array, key as key_token, string as string_token}
use Rattle.json.specs.Written.{Written}
use Rattle.sct_element.specs.Money.{amount_text}
use Rattle.sct_reason.specs.Codes.{reason_text}
use Rattle.sct_message.specs.declared.draft.CreditTransfer.{CreditTransfer}
use Rattle.sct_message.specs.declared.draft.StatusReport.{StatusReport}
use Rattle.sct_message.specs.declared.draft.StatusRequest.{StatusRequest}
use Rattle.sct_message.specs.declared.draft.Head.{Head}
use Rattle.sct_message.specs.declared.draft.RecallTx.{RecallTx}
use Rattle.sct_message.specs.declared.draft.PaymentReturn.{PaymentReturn}
use Rattle.sct_message.specs.declared.draft.Resolution.{Resolution}
use Rattle.sct_message.specs.declared.draft.Draft.{Draft}
use Rattle.sct_message.specs.declared.draft.Draft.TheVariants as draft
use Rattle.sct_json.specs.declared.keys.Key.{Key}
use Rattle.sct_json.specs.declared.keys.Key.TheVariants as key
use Rattle.sct_json.specs.Keys.{key_text}
use Rattle.sct_json.specs.Writing.{Row}

-- what a writer holds: the bytes that stood there before, and the tokens written
abbrev pub Held : Type 0
Held = List ℕ × List Token

abbrev pub held : Written → Held
held w = (w.before, w.tokens)

-- the same with a token behind it
abbrev pub with_token : Token → Held → Held
with_token t h = (h.0, h.1 ++ t ∷ [])

-- the same with a text behind it
abbrev pub with_text : List ℕ → Held → Held
with_text s h = (h.0, h.1 ++ string_token s ∷ [])

-- the same with a member behind it; an absent element has no member
abbrev pub with_member : Key → Option (List ℕ) → Held → Held
with_member k None h = h
with_member k (Some s) h = (h.0, (h.1 ++ key_token (key_text k) ∷ []) ++ string_token s ∷ [])

abbrev pub with_line : List Row → Held → Held
with_line [] h = h
with_line (r ∷ rs) h = with_line rs (with_member r.0 r.1 h)

-- what a writer held was changed so
abbrev pub Writes : (Held → Held) → Written → Written → Type 0
Writes change old new = held new ≡ change (held old)

-- pacs.008
abbrev pub credit_transfer_line : CreditTransfer → List Row
credit_transfer_line m =
    (key.AccptncDtTm, m.acceptance_time) ∷
    (key.Ccy, Some m.currency) ∷
    (key.Cdtr, Some m.creditor) ∷
    (key.CdtrAcct, Some m.creditor_account) ∷
    (key.CdtrAgt, Some m.creditor_agent) ∷
    (key.ChrgBr, Some m.charge_bearer) ∷
    (key.CreDtTm, Some m.head.creation_time) ∷
    (key.Dbtr, Some m.debtor) ∷
    (key.DbtrAcct, Some m.debtor_account) ∷
    (key.DbtrAgt, Some m.debtor_agent) ∷
    (key.EndToEndId, Some m.end_to_end_id) ∷
    (key.InstdAgt, m.head.instructed_agent) ∷
    (key.InstgAgt, Some m.head.instructing_agent) ∷
    (key.InstrId, m.instruction_id) ∷
    (key.IntrBkSttlmAmt, Some (amount_text m.settlement_amount)) ∷
    (key.IntrBkSttlmDt, Some m.settlement_date) ∷
    (key.LclInstrm, Some m.local_instrument) ∷
    (key.MsgId, Some m.head.message_id) ∷
    (key.MsgNmId, Some m.head.message_name) ∷
    (key.SvcLvl, Some m.service_level) ∷
    (key.TxId, Some m.transaction_id) ∷
    (key.Ustrd, m.remittance) ∷ []

-- pacs.002
abbrev pub status_report_line : StatusReport → List Row
status_report_line m =
    (key.CreDtTm, Some m.head.creation_time) ∷
    (key.DbtrAgt, Some m.debtor_agent) ∷
    (key.InstdAgt, m.head.instructed_agent) ∷
    (key.InstgAgt, Some m.head.instructing_agent) ∷
    (key.MsgId, Some m.head.message_id) ∷
    (key.MsgNmId, Some m.head.message_name) ∷
    (key.OrgnlEndToEndId, m.original.end_to_end_id) ∷
    (key.OrgnlMsgId, Some m.original.message_id) ∷
    (key.OrgnlMsgNmId, Some m.original.message_name) ∷
    (key.OrgnlTxId, Some m.original.transaction_id) ∷
    (key.Rsn, option_map reason_text m.reason) ∷
    (key.TxSts, Some m.status) ∷ []

-- pacs.028
abbrev pub status_request_line : StatusRequest → List Row
status_request_line m =
    (key.CreDtTm, Some m.head.creation_time) ∷
    (key.DbtrAgt, Some m.debtor_agent) ∷
    (key.InstdAgt, m.head.instructed_agent) ∷
    (key.InstgAgt, Some m.head.instructing_agent) ∷
    (key.MsgId, Some m.head.message_id) ∷
    (key.MsgNmId, Some m.head.message_name) ∷
    (key.OrgnlCxlId, m.cancellation_id) ∷
    (key.OrgnlEndToEndId, m.original.end_to_end_id) ∷
    (key.OrgnlMsgId, Some m.original.message_id) ∷
    (key.OrgnlMsgNmId, Some m.original.message_name) ∷
    (key.OrgnlTxId, Some m.original.transaction_id) ∷ []

-- the head alone
abbrev pub head_line : Head → List Row
head_line m =
    (key.CreDtTm, Some m.creation_time) ∷
    (key.InstdAgt, m.instructed_agent) ∷
    (key.InstgAgt, Some m.instructing_agent) ∷
    (key.MsgId, Some m.message_id) ∷
    (key.MsgNmId, Some m.message_name) ∷ []

-- a transaction of a camt.056
abbrev pub transaction_line : RecallTx → List Row
transaction_line m =
    (key.Ccy, Some m.currency) ∷
    (key.CxlId, Some m.cancellation_id) ∷
    (key.DbtrAgt, Some m.debtor_agent) ∷
    (key.OrgnlEndToEndId, m.original.end_to_end_id) ∷
    (key.OrgnlIntrBkSttlmAmt, Some (amount_text m.original_amount)) ∷
    (key.OrgnlIntrBkSttlmDt, m.original_settlement_date) ∷
    (key.OrgnlMsgId, Some m.original.message_id) ∷
    (key.OrgnlMsgNmId, Some m.original.message_name) ∷
    (key.OrgnlTxId, Some m.original.transaction_id) ∷
    (key.Rsn, Some (reason_text m.reason)) ∷ []

-- a camt.056 of one transaction
abbrev pub one_recall_line : Head → RecallTx → List Row
one_recall_line h m =
    (key.Ccy, Some m.currency) ∷
    (key.CreDtTm, Some h.creation_time) ∷
    (key.CxlId, Some m.cancellation_id) ∷
    (key.DbtrAgt, Some m.debtor_agent) ∷
    (key.InstdAgt, h.instructed_agent) ∷
    (key.InstgAgt, Some h.instructing_agent) ∷
    (key.MsgId, Some h.message_id) ∷
    (key.MsgNmId, Some h.message_name) ∷
    (key.OrgnlEndToEndId, m.original.end_to_end_id) ∷
    (key.OrgnlIntrBkSttlmAmt, Some (amount_text m.original_amount)) ∷
    (key.OrgnlIntrBkSttlmDt, m.original_settlement_date) ∷
    (key.OrgnlMsgId, Some m.original.message_id) ∷
    (key.OrgnlMsgNmId, Some m.original.message_name) ∷
    (key.OrgnlTxId, Some m.original.transaction_id) ∷
    (key.Rsn, Some (reason_text m.reason)) ∷ []

-- pacs.004
abbrev pub payment_return_line : PaymentReturn → List Row
payment_return_line m =
    (key.Ccy, Some m.currency) ∷
    (key.CreDtTm, Some m.head.creation_time) ∷
    (key.DbtrAgt, Some m.debtor_agent) ∷
    (key.InstdAgt, m.head.instructed_agent) ∷
    (key.InstgAgt, Some m.head.instructing_agent) ∷
    (key.IntrBkSttlmDt, Some m.settlement_date) ∷
    (key.MsgId, Some m.head.message_id) ∷
    (key.MsgNmId, Some m.head.message_name) ∷
    (key.OrgnlCxlId, Some m.cancellation_id) ∷
    (key.OrgnlEndToEndId, m.original.end_to_end_id) ∷
    (key.OrgnlIntrBkSttlmAmt, Some (amount_text m.original_amount)) ∷
    (key.OrgnlMsgId, Some m.original.message_id) ∷
    (key.OrgnlMsgNmId, Some m.original.message_name) ∷
    (key.OrgnlTxId, Some m.original.transaction_id) ∷
    (key.Rsn, Some (reason_text m.reason)) ∷
    (key.RtrId, Some m.return_id) ∷
    (key.RtrdIntrBkSttlmAmt, Some (amount_text m.returned_amount)) ∷ []

-- camt.029
abbrev pub resolution_line : Resolution → List Row
resolution_line m =
    (key.Conf, Some m.confirmation) ∷
    (key.CreDtTm, Some m.head.creation_time) ∷
    (key.CxlStsId, Some m.resolution_id) ∷
    (key.DbtrAgt, Some m.debtor_agent) ∷
    (key.InstdAgt, m.head.instructed_agent) ∷
    (key.InstgAgt, Some m.head.instructing_agent) ∷
    (key.MsgId, Some m.head.message_id) ∷
    (key.MsgNmId, Some m.head.message_name) ∷
    (key.OrgnlCxlId, Some m.cancellation_id) ∷
    (key.OrgnlEndToEndId, m.original.end_to_end_id) ∷
    (key.OrgnlMsgId, Some m.original.message_id) ∷
    (key.OrgnlMsgNmId, Some m.original.message_name) ∷
    (key.OrgnlTxId, Some m.original.transaction_id) ∷
    (key.Rsn, Some (reason_text m.reason)) ∷ []

-- ---- the list of a camt.056

abbrev pub with_object : RecallTx → Held → Held
with_object tx h = with_token end_object (with_line (transaction_line tx) (with_token begin_object h))

abbrev pub with_objects : List RecallTx → Held → Held
with_objects [] h = h
with_objects (tx ∷ txs) h = with_objects txs (with_object tx h)

-- the list at its key, which is the last of the object's keys
abbrev pub with_array : List RecallTx → Held → Held
with_array txs h =
    with_token end_array (with_objects txs (with_token begin_array (with_token (key_token (key_text key.TxInf)) h)))

abbrev pub with_recalls : Head → List RecallTx → Held → Held
with_recalls head [] h = with_array [] (with_line (head_line head) h)
with_recalls head (tx ∷ []) h = with_line (one_recall_line head tx) h
with_recalls head (tx ∷ (other ∷ more)) h = with_array (tx ∷ (other ∷ more)) (with_line (head_line head) h)

-- ---- the members of a message

abbrev pub with_message : Draft → Held → Held
with_message (draft.CreditTransfer m) h = with_line (credit_transfer_line m) h
with_message (draft.StatusReport m) h = with_line (status_report_line m) h
with_message (draft.StatusRequest m) h = with_line (status_request_line m) h
with_message (draft.CancellationRequest m) h = with_recalls m.head m.txs h
with_message (draft.PaymentReturn m) h = with_line (payment_return_line m) h
with_message (draft.Resolution m) h = with_line (resolution_line m) h
