-- What is written is a form of its message.
use Rattle.std.proofs.Common.{◌≡◌, ◌∙◌, ap, sym, subst, refl, inl, inr, ℕ, suc, Bool, true, false, not, cond, List, [], ◌∷◌, length, Option, Some, None, option_map, Ok}
use Rattle.std.specs.List.{AllByRecursion, list_all}
use Rattle.std.specs.Cmp.Lexicographic.{bytes_decides}
use Rattle.std.proofs.lemmas.Bool.{false≢true, and_parts}
use Rattle.serde_json.specs.Data.{Data, string, array, object, Members, no_members, put}
use Rattle.serde_json.specs.Find.{get, get_member}
use Rattle.serde_json.proofs.Views.{get_member-put, get_member-put_other}
use Rattle.sct_element.specs.Account.{written_iban}
use Rattle.sct_element.specs.Bank.{written_bic}
use Rattle.sct_element.specs.Date.{written_day}
use Rattle.sct_element.specs.Identification.{written_identification, written_stamp, written_code}
use Rattle.sct_element.specs.Money.{amount_text, cents_of}
use Rattle.sct_reason.specs.Codes.{reason_text}
use Rattle.sct_reason.specs.Reasons.{reason_of}
use Rattle.sct_message.specs.declared.kinds.Kind.TheVariants.{Camt029, Camt056, Pacs002, Pacs004, Pacs008, Pacs028}
use Rattle.sct_message.specs.declared.draft.Head.{Head}
use Rattle.sct_message.specs.declared.draft.Original.{Original}
use Rattle.sct_message.specs.declared.draft.CreditTransfer.{CreditTransfer}
use Rattle.sct_message.specs.declared.draft.StatusReport.{StatusReport}
use Rattle.sct_message.specs.declared.draft.StatusRequest.{StatusRequest}
use Rattle.sct_message.specs.declared.draft.RecallTx.{RecallTx}
use Rattle.sct_message.specs.declared.draft.PaymentReturn.{PaymentReturn}
use Rattle.sct_message.specs.declared.draft.Resolution.{Resolution}
use Rattle.sct_message.specs.declared.draft.Draft.{Draft}
use Rattle.sct_message.specs.declared.draft.Draft.TheVariants as draft
use Rattle.sct_message.specs.Drafts.{kind_of}
use Rattle.sct_element.specs.Text.{is_text}
use Rattle.sct_message.specs.declared.rules.RuleFault.{RuleFault}
use Rattle.sct_message.specs.declared.rules.RuleFault.TheVariants.{WrongName, WrongOriginalName, RepeatedRecall, WrongCount}
use Rattle.sct_message.specs.Kinds.{is_name_of}
use Rattle.sct_message.specs.Recalls.{Recalls}
use Rattle.sct_message.specs.Rules.{first_broken_rule, broken_first, broken_in_kind, broken_by_transactions, names_its_original, repeats, is_right_count}
use Rattle.sct_json.specs.declared.keys.Key.{Key}
use Rattle.sct_json.specs.declared.keys.Key.TheVariants as key
use Rattle.sct_json.specs.declared.keys.Shape.TheVariants.{Listed, Transaction}
use Rattle.sct_json.specs.Keys.{key_text, is_key_among, is_key_of, is_key_in}
use Rattle.sct_json.specs.Reading.{name_of, remittance_of, names_of, items_list, listed_or_flat, object_in}
use Rattle.sct_json.specs.Form.{Holds, MayHold, HoldsHead, HoldsOriginal, HoldsCreditTransfer, HoldsStatusReport, HoldsStatusRequest, HoldsTransaction, IsTransaction, AreTransactions, HoldsOne, HoldsList, HoldsRecalls, HoldsPaymentReturn, HoldsResolution, HoldsElements, HasKeysIn, HasKeysOf}
use Rattle.sct_json.specs.Writing.{Row, with_text, with_rows, with_elements, written_object, head_rows, original_rows, credit_transfer_rows, status_report_rows, status_request_rows, transaction_rows, payment_return_rows, resolution_rows, with_head, with_original, with_list, with_transactions, transaction_objects, ReadsBack, MayReadBack, HeadReadsBack, OriginalReadsBack, CreditTransferReadsBack, StatusReportReadsBack, StatusRequestReadsBack, TransactionReadsBack, PaymentReturnReadsBack, ResolutionReadsBack, ElementsReadBack}
use Rattle.sct_json.proofs.Forms.{held_is_read}
use Rattle.sct_json.proofs.Rows.{names_put}

-- ---- what stands at a key once rows were put

abbrev text_or : Option Data → Option (List ℕ) → Option Data
text_or o None = o
text_or o (Some s) = Some (string s)

-- the last of the rows with the key counts
abbrev found : List ℕ → List Row → Option Data → Option Data
found k [] o = o
found k (r ∷ rs) o = found k rs (cond (is_text k (key_text r.0)) (text_or o r.1) o)

get_at : (b : Bool) (k : List ℕ) (q : Key) (t : Option (List ℕ)) (ms : Members) → is_text k (key_text q) ≡ b
    → get_member k (with_text q t ms) ≡ cond b (text_or (get_member k ms) t) (get_member k ms)
get_at true k q None ms e = refl
get_at true k q (Some s) ms e =
    let same : k ≡ key_text q = (bytes_decides k (key_text q)).0 e in
    subst (λ (n : List ℕ). get_member n (put (key_text q) (string s) ms) ≡ Some (string s)) (sym same) (get_member-put (key_text q) (string s) ms)
get_at false k q None ms e = refl
get_at false k q (Some s) ms e = get_member-put_other k (key_text q) (string s) ms (λ same. false≢true (sym e ∙ (bytes_decides k (key_text q)).1 same))

get_with : (k : List ℕ) (rs : List Row) (ms : Members) → get_member k (with_rows rs ms) ≡ found k rs (get_member k ms)
get_with k [] ms = refl
get_with k (r ∷ rs) ms = get_with k rs (with_text r.0 r.1 ms) ∙ ap (found k rs) (get_at (is_text k (key_text r.0)) k r.0 r.1 ms refl)

holds_text : {X : Type 0} (reads : List ℕ → Option X) (written : X → List ℕ) (k : Key) (d : Data) (x : X) → ReadsBack reads written x → get (key_text k) d ≡ Some (string (written x)) → Holds reads k d x
holds_text reads written k d x back at = (written x, at, back)

may_hold_text : (reads : List ℕ → Option (List ℕ)) (k : Key) (d : Data) (x : Option (List ℕ)) → MayReadBack reads (λ s. s) x → get (key_text k) d ≡ text_or None x → MayHold reads k d x
may_hold_text reads k d None back at = at
may_hold_text reads k d (Some s) back at = (s, at, back)

may_hold_written : {X : Type 0} (reads : List ℕ → Option X) (written : X → List ℕ) (k : Key) (d : Data) (x : Option X) → MayReadBack reads written x → get (key_text k) d ≡ text_or None (option_map written x) → MayHold reads k d x
may_hold_written reads written k d None back at = at
may_hold_written reads written k d (Some y) back at = (written y, at, back)

-- ---- the keys of what is written

abbrev are_rows_of : (List ℕ → Bool) → List Row → Bool
are_rows_of p rs = list_all (λ r. p (key_text r.0)) rs

names_with : (p : List ℕ → Bool) (rs : List Row) (ms : Members) → are_rows_of p rs ≡ true → list_all p (names_of ms) ≡ true → list_all p (names_of (with_rows rs ms)) ≡ true
names_with p [] ms rows all = all
names_with p ((k, None) ∷ rs) ms rows all = names_with p rs ms (and_parts _ _ rows).1 all
names_with p ((k, Some s) ∷ rs) ms rows all = names_with p rs (put (key_text k) (string s) ms) (and_parts _ _ rows).1 (names_put p (key_text k) (string s) ms (and_parts _ _ rows).0 all)

-- ---- the elements of what is written

head_written : (d : Data) (m : Head) → HeadReadsBack m
    → get (key_text key.MsgNmId) d ≡ Some (string m.message_name)
    → get (key_text key.MsgId) d ≡ Some (string m.message_id)
    → get (key_text key.CreDtTm) d ≡ Some (string m.creation_time)
    → get (key_text key.InstgAgt) d ≡ Some (string m.instructing_agent)
    → get (key_text key.InstdAgt) d ≡ text_or None m.instructed_agent
    → HoldsHead d m
head_written d m back at0 at1 at2 at3 at4 = record {
  message_name = holds_text written_identification (λ s. s) key.MsgNmId d m.message_name back.message_name at0;
  message_id = holds_text written_identification (λ s. s) key.MsgId d m.message_id back.message_id at1;
  creation_time = holds_text written_stamp (λ s. s) key.CreDtTm d m.creation_time back.creation_time at2;
  instructing_agent = holds_text written_bic (λ s. s) key.InstgAgt d m.instructing_agent back.instructing_agent at3;
  instructed_agent = may_hold_text written_bic key.InstdAgt d m.instructed_agent back.instructed_agent at4;
}

original_written : (d : Data) (m : Original) → OriginalReadsBack m
    → get (key_text key.OrgnlMsgId) d ≡ Some (string m.message_id)
    → get (key_text key.OrgnlMsgNmId) d ≡ Some (string m.message_name)
    → get (key_text key.OrgnlEndToEndId) d ≡ text_or None m.end_to_end_id
    → get (key_text key.OrgnlTxId) d ≡ Some (string m.transaction_id)
    → HoldsOriginal d m
original_written d m back at0 at1 at2 at3 = record {
  message_id = holds_text written_identification (λ s. s) key.OrgnlMsgId d m.message_id back.message_id at0;
  message_name = holds_text written_identification (λ s. s) key.OrgnlMsgNmId d m.message_name back.message_name at1;
  end_to_end_id = may_hold_text written_identification key.OrgnlEndToEndId d m.end_to_end_id back.end_to_end_id at2;
  transaction_id = holds_text written_identification (λ s. s) key.OrgnlTxId d m.transaction_id back.transaction_id at3;
}

in_credit_transfer : (m : CreditTransfer) (k : Key) → get (key_text k) (written_object (draft.CreditTransfer m)) ≡ found (key_text k) (credit_transfer_rows m) (found (key_text k) (head_rows m.head) None)
in_credit_transfer m k = get_with (key_text k) (credit_transfer_rows m) (with_head m.head no_members) ∙ ap (found (key_text k) (credit_transfer_rows m)) (get_with (key_text k) (head_rows m.head) no_members)

credit_transfer_written : (m : CreditTransfer) → CreditTransferReadsBack m → HoldsCreditTransfer (written_object (draft.CreditTransfer m)) m
credit_transfer_written m back = let d : Data = written_object (draft.CreditTransfer m) in record {
  head = head_written d m.head back.head (in_credit_transfer m key.MsgNmId) (in_credit_transfer m key.MsgId) (in_credit_transfer m key.CreDtTm) (in_credit_transfer m key.InstgAgt) (in_credit_transfer m key.InstdAgt);
  settlement_date = holds_text written_day (λ s. s) key.IntrBkSttlmDt d m.settlement_date back.settlement_date (in_credit_transfer m key.IntrBkSttlmDt);
  service_level = holds_text written_code (λ s. s) key.SvcLvl d m.service_level back.service_level (in_credit_transfer m key.SvcLvl);
  local_instrument = holds_text written_code (λ s. s) key.LclInstrm d m.local_instrument back.local_instrument (in_credit_transfer m key.LclInstrm);
  instruction_id = may_hold_text written_identification key.InstrId d m.instruction_id back.instruction_id (in_credit_transfer m key.InstrId);
  end_to_end_id = holds_text written_identification (λ s. s) key.EndToEndId d m.end_to_end_id back.end_to_end_id (in_credit_transfer m key.EndToEndId);
  transaction_id = holds_text written_identification (λ s. s) key.TxId d m.transaction_id back.transaction_id (in_credit_transfer m key.TxId);
  settlement_amount = holds_text cents_of amount_text key.IntrBkSttlmAmt d m.settlement_amount back.settlement_amount (in_credit_transfer m key.IntrBkSttlmAmt);
  currency = holds_text written_code (λ s. s) key.Ccy d m.currency back.currency (in_credit_transfer m key.Ccy);
  charge_bearer = holds_text written_code (λ s. s) key.ChrgBr d m.charge_bearer back.charge_bearer (in_credit_transfer m key.ChrgBr);
  acceptance_time = may_hold_text written_stamp key.AccptncDtTm d m.acceptance_time back.acceptance_time (in_credit_transfer m key.AccptncDtTm);
  debtor = holds_text name_of (λ s. s) key.Dbtr d m.debtor back.debtor (in_credit_transfer m key.Dbtr);
  debtor_account = holds_text written_iban (λ s. s) key.DbtrAcct d m.debtor_account back.debtor_account (in_credit_transfer m key.DbtrAcct);
  debtor_agent = holds_text written_bic (λ s. s) key.DbtrAgt d m.debtor_agent back.debtor_agent (in_credit_transfer m key.DbtrAgt);
  creditor_agent = holds_text written_bic (λ s. s) key.CdtrAgt d m.creditor_agent back.creditor_agent (in_credit_transfer m key.CdtrAgt);
  creditor = holds_text name_of (λ s. s) key.Cdtr d m.creditor back.creditor (in_credit_transfer m key.Cdtr);
  creditor_account = holds_text written_iban (λ s. s) key.CdtrAcct d m.creditor_account back.creditor_account (in_credit_transfer m key.CdtrAcct);
  remittance = may_hold_text remittance_of key.Ustrd d m.remittance back.remittance (in_credit_transfer m key.Ustrd);
}

in_status_report : (m : StatusReport) (k : Key) → get (key_text k) (written_object (draft.StatusReport m)) ≡ found (key_text k) (status_report_rows m) (found (key_text k) (original_rows m.original) (found (key_text k) (head_rows m.head) None))
in_status_report m k = get_with (key_text k) (status_report_rows m) (with_original m.original (with_head m.head no_members)) ∙ ap (found (key_text k) (status_report_rows m)) (get_with (key_text k) (original_rows m.original) (with_head m.head no_members) ∙ ap (found (key_text k) (original_rows m.original)) (get_with (key_text k) (head_rows m.head) no_members))

status_report_written : (m : StatusReport) → StatusReportReadsBack m → HoldsStatusReport (written_object (draft.StatusReport m)) m
status_report_written m back = let d : Data = written_object (draft.StatusReport m) in record {
  head = head_written d m.head back.head (in_status_report m key.MsgNmId) (in_status_report m key.MsgId) (in_status_report m key.CreDtTm) (in_status_report m key.InstgAgt) (in_status_report m key.InstdAgt);
  original = original_written d m.original back.original (in_status_report m key.OrgnlMsgId) (in_status_report m key.OrgnlMsgNmId) (in_status_report m key.OrgnlEndToEndId) (in_status_report m key.OrgnlTxId);
  status = holds_text written_code (λ s. s) key.TxSts d m.status back.status (in_status_report m key.TxSts);
  reason = may_hold_written reason_of reason_text key.Rsn d m.reason back.reason (in_status_report m key.Rsn);
  debtor_agent = holds_text written_bic (λ s. s) key.DbtrAgt d m.debtor_agent back.debtor_agent (in_status_report m key.DbtrAgt);
}

in_status_request : (m : StatusRequest) (k : Key) → get (key_text k) (written_object (draft.StatusRequest m)) ≡ found (key_text k) (status_request_rows m) (found (key_text k) (original_rows m.original) (found (key_text k) (head_rows m.head) None))
in_status_request m k = get_with (key_text k) (status_request_rows m) (with_original m.original (with_head m.head no_members)) ∙ ap (found (key_text k) (status_request_rows m)) (get_with (key_text k) (original_rows m.original) (with_head m.head no_members) ∙ ap (found (key_text k) (original_rows m.original)) (get_with (key_text k) (head_rows m.head) no_members))

status_request_written : (m : StatusRequest) → StatusRequestReadsBack m → HoldsStatusRequest (written_object (draft.StatusRequest m)) m
status_request_written m back = let d : Data = written_object (draft.StatusRequest m) in record {
  head = head_written d m.head back.head (in_status_request m key.MsgNmId) (in_status_request m key.MsgId) (in_status_request m key.CreDtTm) (in_status_request m key.InstgAgt) (in_status_request m key.InstdAgt);
  original = original_written d m.original back.original (in_status_request m key.OrgnlMsgId) (in_status_request m key.OrgnlMsgNmId) (in_status_request m key.OrgnlEndToEndId) (in_status_request m key.OrgnlTxId);
  cancellation_id = may_hold_text written_identification key.OrgnlCxlId d m.cancellation_id back.cancellation_id (in_status_request m key.OrgnlCxlId);
  debtor_agent = holds_text written_bic (λ s. s) key.DbtrAgt d m.debtor_agent back.debtor_agent (in_status_request m key.DbtrAgt);
}

transaction_written : (d : Data) (m : RecallTx) → TransactionReadsBack m
    → get (key_text key.CxlId) d ≡ Some (string m.cancellation_id)
    → get (key_text key.OrgnlMsgId) d ≡ Some (string m.original.message_id)
    → get (key_text key.OrgnlMsgNmId) d ≡ Some (string m.original.message_name)
    → get (key_text key.OrgnlEndToEndId) d ≡ text_or None m.original.end_to_end_id
    → get (key_text key.OrgnlTxId) d ≡ Some (string m.original.transaction_id)
    → get (key_text key.OrgnlIntrBkSttlmAmt) d ≡ Some (string (amount_text m.original_amount))
    → get (key_text key.Ccy) d ≡ Some (string m.currency)
    → get (key_text key.OrgnlIntrBkSttlmDt) d ≡ text_or None m.original_settlement_date
    → get (key_text key.Rsn) d ≡ Some (string (reason_text m.reason))
    → get (key_text key.DbtrAgt) d ≡ Some (string m.debtor_agent)
    → HoldsTransaction d m
transaction_written d m back at0 at1 at2 at3 at4 at5 at6 at7 at8 at9 = record {
  cancellation_id = holds_text written_identification (λ s. s) key.CxlId d m.cancellation_id back.cancellation_id at0;
  original = original_written d m.original back.original at1 at2 at3 at4;
  original_amount = holds_text cents_of amount_text key.OrgnlIntrBkSttlmAmt d m.original_amount back.original_amount at5;
  currency = holds_text written_code (λ s. s) key.Ccy d m.currency back.currency at6;
  original_settlement_date = may_hold_text written_day key.OrgnlIntrBkSttlmDt d m.original_settlement_date back.original_settlement_date at7;
  reason = holds_text reason_of reason_text key.Rsn d m.reason back.reason at8;
  debtor_agent = holds_text written_bic (λ s. s) key.DbtrAgt d m.debtor_agent back.debtor_agent at9;
}

-- ---- a camt.056 of one transaction

abbrev one_members : Head → RecallTx → Members
one_members h tx = with_rows (transaction_rows tx) (with_head h no_members)

in_one : (h : Head) (tx : RecallTx) (k : Key) → get (key_text k) (object (one_members h tx)) ≡ found (key_text k) (transaction_rows tx) (found (key_text k) (head_rows h) None)
in_one h tx k = get_with (key_text k) (transaction_rows tx) (with_head h no_members) ∙ ap (found (key_text k) (transaction_rows tx)) (get_with (key_text k) (head_rows h) no_members)

one_written : (h : Head) (tx : RecallTx) → HeadReadsBack h → TransactionReadsBack tx → HoldsOne (object (one_members h tx)) (record { head = h; txs = tx ∷ [] })
one_written h tx head_back back = let d : Data = object (one_members h tx) in record {
  head = head_written d h head_back (in_one h tx key.MsgNmId) (in_one h tx key.MsgId) (in_one h tx key.CreDtTm) (in_one h tx key.InstgAgt) (in_one h tx key.InstdAgt);
  flat = in_one h tx key.TxInf;
  one = tx;
  holds = transaction_written d tx back (in_one h tx key.CxlId) (in_one h tx key.OrgnlMsgId) (in_one h tx key.OrgnlMsgNmId) (in_one h tx key.OrgnlEndToEndId) (in_one h tx key.OrgnlTxId) (in_one h tx key.OrgnlIntrBkSttlmAmt) (in_one h tx key.Ccy) (in_one h tx key.OrgnlIntrBkSttlmDt) (in_one h tx key.Rsn) (in_one h tx key.DbtrAgt);
  only = refl;
}

keys_of_one : (h : Head) (tx : RecallTx) → HasKeysOf Camt056 (object (one_members h tx))
unfolding is_key_among
keys_of_one h tx = subst (λ (list : Option Data). HasKeysIn (listed_or_flat list) (object (one_members h tx))) (sym (in_one h tx key.TxInf)) (
  one_members h tx,
  refl,
  names_with (is_key_of Camt056) (transaction_rows tx) (with_head h no_members) refl (names_with (is_key_of Camt056) (head_rows h) no_members refl refl),
)

-- ---- a camt.056 with a list

abbrev element_members : RecallTx → Members
element_members tx = with_rows (transaction_rows tx) no_members

in_element : (tx : RecallTx) (k : Key) → get (key_text k) (object (element_members tx)) ≡ found (key_text k) (transaction_rows tx) None
in_element tx k = get_with (key_text k) (transaction_rows tx) no_members

element_written : (tx : RecallTx) → TransactionReadsBack tx → IsTransaction (object (element_members tx)) tx
unfolding is_key_among
element_written tx back = record {
  keys = (element_members tx, refl, names_with (is_key_in Transaction) (transaction_rows tx) no_members refl refl);
  elements = transaction_written (object (element_members tx)) tx back (in_element tx key.CxlId) (in_element tx key.OrgnlMsgId) (in_element tx key.OrgnlMsgNmId) (in_element tx key.OrgnlEndToEndId) (in_element tx key.OrgnlTxId) (in_element tx key.OrgnlIntrBkSttlmAmt) (in_element tx key.Ccy) (in_element tx key.OrgnlIntrBkSttlmDt) (in_element tx key.Rsn) (in_element tx key.DbtrAgt);
}

each_written : (txs : List RecallTx) → AllByRecursion TransactionReadsBack txs → AreTransactions (items_list (transaction_objects txs)) txs
each_written [] back = tt
each_written (tx ∷ txs) back = (element_written tx back.0, each_written txs back.1)

as_many : (txs : List RecallTx) → length (items_list (transaction_objects txs)) ≡ length txs
as_many [] = refl
as_many (tx ∷ txs) = ap suc (as_many txs)

abbrev list_members : Head → List RecallTx → Members
list_members h txs = with_list txs (with_head h no_members)

at_list : (h : Head) (txs : List RecallTx) → get (key_text key.TxInf) (object (list_members h txs)) ≡ Some (array (transaction_objects txs))
at_list h txs = get_member-put (key_text key.TxInf) (array (transaction_objects txs)) (with_head h no_members)

-- the head's keys are not that of the list
beside_list : (h : Head) (txs : List RecallTx) (k : Key) → is_text (key_text k) (key_text key.TxInf) ≡ false → get (key_text k) (object (list_members h txs)) ≡ found (key_text k) (head_rows h) None
beside_list h txs k other =
    get_member-put_other (key_text k) (key_text key.TxInf) (array (transaction_objects txs)) (with_head h no_members) (λ same. false≢true (sym other ∙ (bytes_decides (key_text k) (key_text key.TxInf)).1 same))
    ∙ get_with (key_text k) (head_rows h) no_members

list_written : (h : Head) (txs : List RecallTx) → HeadReadsBack h → AllByRecursion TransactionReadsBack txs → is_right_count (length txs) ≡ true → HoldsList (object (list_members h txs)) (record { head = h; txs = txs })
list_written h txs head_back back few = let d : Data = object (list_members h txs) in record {
  head = head_written d h head_back (beside_list h txs key.MsgNmId refl) (beside_list h txs key.MsgId refl) (beside_list h txs key.CreDtTm refl) (beside_list h txs key.InstgAgt refl) (beside_list h txs key.InstdAgt refl);
  items = transaction_objects txs;
  list = at_list h txs;
  few = ap is_right_count (as_many txs) ∙ few;
  each = each_written txs back;
}

keys_of_list : (h : Head) (txs : List RecallTx) → HasKeysOf Camt056 (object (list_members h txs))
unfolding is_key_among
keys_of_list h txs = subst (λ (list : Option Data). HasKeysIn (listed_or_flat list) (object (list_members h txs))) (sym (at_list h txs)) (
  list_members h txs,
  refl,
  names_put (is_key_in Listed) (key_text key.TxInf) (array (transaction_objects txs)) (with_head h no_members) refl (names_with (is_key_in Listed) (head_rows h) no_members refl refl),
)

-- ---- both forms

abbrev recall_members : Head → List RecallTx → Members
recall_members h txs = with_transactions txs (with_head h no_members)

recalls_written : (h : Head) (txs : List RecallTx) → HeadReadsBack h → AllByRecursion TransactionReadsBack txs → is_right_count (length txs) ≡ true → HoldsRecalls (object (recall_members h txs)) (record { head = h; txs = txs })
recalls_written h [] head_back back few = inr (list_written h [] head_back back few)
recalls_written h (tx ∷ []) head_back back few = inl (one_written h tx head_back back.0)
recalls_written h (tx ∷ (other ∷ more)) head_back back few = inr (list_written h (tx ∷ (other ∷ more)) head_back back few)

keys_of_recalls : (h : Head) (txs : List RecallTx) → HasKeysOf Camt056 (object (recall_members h txs))
keys_of_recalls h [] = keys_of_list h []
keys_of_recalls h (tx ∷ []) = keys_of_one h tx
keys_of_recalls h (tx ∷ (other ∷ more)) = keys_of_list h (tx ∷ (other ∷ more))

kept_last : (named : Bool) (kind : Option RuleFault) (original repeated few : Bool)
    → cond (not named) (Some WrongName) (broken_first kind (cond (not original) (Some WrongOriginalName) (cond repeated (Some RepeatedRecall) (cond (not few) (Some WrongCount) None)))) ≡ None → few ≡ true
kept_last named kind original repeated true e = refl
kept_last false kind original repeated false e = cc
kept_last true (Some broken) original repeated false e = cc
kept_last true None false repeated false e = cc
kept_last true None true true false e = cc
kept_last true None true false false e = cc

-- a recall message that follows the rules has 1 to 100 transactions
count_kept : (m : Recalls) → first_broken_rule (draft.CancellationRequest m) ≡ None → is_right_count (length m.txs) ≡ true
unfolding first_broken_rule broken_by_transactions
count_kept m e =
    let d : Draft = draft.CancellationRequest m in
    kept_last (is_name_of Camt056 m.head.message_name) (broken_in_kind d) (names_its_original d) (repeats m.txs) (is_right_count (length m.txs)) e

-- ---- the other kinds

in_payment_return : (m : PaymentReturn) (k : Key) → get (key_text k) (written_object (draft.PaymentReturn m)) ≡ found (key_text k) (payment_return_rows m) (found (key_text k) (head_rows m.head) None)
in_payment_return m k = get_with (key_text k) (payment_return_rows m) (with_head m.head no_members) ∙ ap (found (key_text k) (payment_return_rows m)) (get_with (key_text k) (head_rows m.head) no_members)

payment_return_written : (m : PaymentReturn) → PaymentReturnReadsBack m → HoldsPaymentReturn (written_object (draft.PaymentReturn m)) m
payment_return_written m back = let d : Data = written_object (draft.PaymentReturn m) in record {
  head = head_written d m.head back.head (in_payment_return m key.MsgNmId) (in_payment_return m key.MsgId) (in_payment_return m key.CreDtTm) (in_payment_return m key.InstgAgt) (in_payment_return m key.InstdAgt);
  return_id = holds_text written_identification (λ s. s) key.RtrId d m.return_id back.return_id (in_payment_return m key.RtrId);
  cancellation_id = holds_text written_identification (λ s. s) key.OrgnlCxlId d m.cancellation_id back.cancellation_id (in_payment_return m key.OrgnlCxlId);
  original = original_written d m.original back.original (in_payment_return m key.OrgnlMsgId) (in_payment_return m key.OrgnlMsgNmId) (in_payment_return m key.OrgnlEndToEndId) (in_payment_return m key.OrgnlTxId);
  original_amount = holds_text cents_of amount_text key.OrgnlIntrBkSttlmAmt d m.original_amount back.original_amount (in_payment_return m key.OrgnlIntrBkSttlmAmt);
  returned_amount = holds_text cents_of amount_text key.RtrdIntrBkSttlmAmt d m.returned_amount back.returned_amount (in_payment_return m key.RtrdIntrBkSttlmAmt);
  currency = holds_text written_code (λ s. s) key.Ccy d m.currency back.currency (in_payment_return m key.Ccy);
  settlement_date = holds_text written_day (λ s. s) key.IntrBkSttlmDt d m.settlement_date back.settlement_date (in_payment_return m key.IntrBkSttlmDt);
  reason = holds_text reason_of reason_text key.Rsn d m.reason back.reason (in_payment_return m key.Rsn);
  debtor_agent = holds_text written_bic (λ s. s) key.DbtrAgt d m.debtor_agent back.debtor_agent (in_payment_return m key.DbtrAgt);
}

in_resolution : (m : Resolution) (k : Key) → get (key_text k) (written_object (draft.Resolution m)) ≡ found (key_text k) (resolution_rows m) (found (key_text k) (head_rows m.head) None)
in_resolution m k = get_with (key_text k) (resolution_rows m) (with_head m.head no_members) ∙ ap (found (key_text k) (resolution_rows m)) (get_with (key_text k) (head_rows m.head) no_members)

resolution_written : (m : Resolution) → ResolutionReadsBack m → HoldsResolution (written_object (draft.Resolution m)) m
resolution_written m back = let d : Data = written_object (draft.Resolution m) in record {
  head = head_written d m.head back.head (in_resolution m key.MsgNmId) (in_resolution m key.MsgId) (in_resolution m key.CreDtTm) (in_resolution m key.InstgAgt) (in_resolution m key.InstdAgt);
  resolution_id = holds_text written_identification (λ s. s) key.CxlStsId d m.resolution_id back.resolution_id (in_resolution m key.CxlStsId);
  cancellation_id = holds_text written_identification (λ s. s) key.OrgnlCxlId d m.cancellation_id back.cancellation_id (in_resolution m key.OrgnlCxlId);
  original = original_written d m.original back.original (in_resolution m key.OrgnlMsgId) (in_resolution m key.OrgnlMsgNmId) (in_resolution m key.OrgnlEndToEndId) (in_resolution m key.OrgnlTxId);
  confirmation = holds_text written_code (λ s. s) key.Conf d m.confirmation back.confirmation (in_resolution m key.Conf);
  reason = holds_text reason_of reason_text key.Rsn d m.reason back.reason (in_resolution m key.Rsn);
  debtor_agent = holds_text written_bic (λ s. s) key.DbtrAgt d m.debtor_agent back.debtor_agent (in_resolution m key.DbtrAgt);
}

-- ---- every kind

keys_written : (m : Draft) → HasKeysOf (kind_of m) (written_object m)
unfolding is_key_among
keys_written (draft.CreditTransfer m) = (with_elements (draft.CreditTransfer m) no_members, refl, names_with (is_key_of Pacs008) (credit_transfer_rows m) (with_head m.head no_members) refl (names_with (is_key_of Pacs008) (head_rows m.head) no_members refl refl))
keys_written (draft.StatusReport m) = (with_elements (draft.StatusReport m) no_members, refl, names_with (is_key_of Pacs002) (status_report_rows m) (with_original m.original (with_head m.head no_members)) refl (names_with (is_key_of Pacs002) (original_rows m.original) (with_head m.head no_members) refl (names_with (is_key_of Pacs002) (head_rows m.head) no_members refl refl)))
keys_written (draft.StatusRequest m) = (with_elements (draft.StatusRequest m) no_members, refl, names_with (is_key_of Pacs028) (status_request_rows m) (with_original m.original (with_head m.head no_members)) refl (names_with (is_key_of Pacs028) (original_rows m.original) (with_head m.head no_members) refl (names_with (is_key_of Pacs028) (head_rows m.head) no_members refl refl)))
keys_written (draft.CancellationRequest m) = keys_of_recalls m.head m.txs
keys_written (draft.PaymentReturn m) = (with_elements (draft.PaymentReturn m) no_members, refl, names_with (is_key_of Pacs004) (payment_return_rows m) (with_head m.head no_members) refl (names_with (is_key_of Pacs004) (head_rows m.head) no_members refl refl))
keys_written (draft.Resolution m) = (with_elements (draft.Resolution m) no_members, refl, names_with (is_key_of Camt029) (resolution_rows m) (with_head m.head no_members) refl (names_with (is_key_of Camt029) (head_rows m.head) no_members refl refl))

elements_written : (m : Draft) → ElementsReadBack m → first_broken_rule m ≡ None → HoldsElements (written_object m) m
elements_written (draft.CreditTransfer m) back rules = credit_transfer_written m back
elements_written (draft.StatusReport m) back rules = status_report_written m back
elements_written (draft.StatusRequest m) back rules = status_request_written m back
elements_written (draft.CancellationRequest m) back rules = recalls_written m.head m.txs back.head back.txs (count_kept m rules)
elements_written (draft.PaymentReturn m) back rules = payment_return_written m back
elements_written (draft.Resolution m) back rules = resolution_written m back

pub written_is_read : (m : Draft) → ElementsReadBack m → first_broken_rule m ≡ None → object_in (written_object m) ≡ Ok m
written_is_read m back rules = held_is_read (written_object m) m (keys_written m) (elements_written m back rules) rules
