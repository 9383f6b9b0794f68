-- The JSON form of a message, as a relation between an object and it, with no order of reading. Read by an auditor.
use Rattle.std.specs.Prelude.{◌≡◌, ℕ, List, [], ◌∷◌, length, Option, Some, None, IsTrue, IsUtf8, ◌⊎◌}
use Rattle.std.specs.List.{list_all}
use Rattle.serde_json.specs.Data.{Data, string, array, object, Items, Members}
use Rattle.serde_json.specs.Read.{read}
use Rattle.serde_json.specs.Find.{get}
use Rattle.sct_element.specs.Account.{written_iban}
use Rattle.sct_element.specs.Bank.{written_bic}
use Rattle.sct_element.specs.Date.{written_day}
use Rattle.sct_element.specs.Identification.{written_identification, written_stamp, written_code}
use Rattle.sct_element.specs.Money.{cents_of}
use Rattle.sct_reason.specs.Reasons.{reason_of}
use Rattle.sct_message.specs.declared.kinds.Kind.{Kind}
use Rattle.sct_message.specs.declared.draft.Head.{Head}
use Rattle.sct_message.specs.declared.draft.Original.{Original}
use Rattle.sct_message.specs.declared.draft.CreditTransfer.{CreditTransfer}
use Rattle.sct_message.specs.declared.draft.StatusReport.{StatusReport}
use Rattle.sct_message.specs.declared.draft.StatusRequest.{StatusRequest}
use Rattle.sct_message.specs.declared.draft.RecallTx.{RecallTx}
use Rattle.sct_message.specs.declared.draft.PaymentReturn.{PaymentReturn}
use Rattle.sct_message.specs.declared.draft.Resolution.{Resolution}
use Rattle.sct_message.specs.declared.draft.Draft.{Draft}
use Rattle.sct_message.specs.declared.draft.Draft.TheVariants as draft
use Rattle.sct_message.specs.Drafts.{kind_of}
use Rattle.sct_message.specs.Recalls.{Recalls}
use Rattle.sct_message.specs.Rules.{FollowsRules, is_right_count}
use Rattle.sct_json.specs.declared.keys.Key.{Key}
use Rattle.sct_json.specs.declared.keys.Key.TheVariants as key
use Rattle.sct_json.specs.declared.keys.Shape.{Shape}
use Rattle.sct_json.specs.declared.keys.Shape.TheVariants.{Transaction}
use Rattle.sct_json.specs.Keys.{key_text, is_key_in}
use Rattle.sct_json.specs.Reading.{name_of, remittance_of, names_of, items_list, shape_in}

-- The key's value is a text, which is read as the element.
abbrev pub Holds : {X : Type 0} → (List ℕ → Option X) → Key → Data → X → Type 0
Holds reads k d x = (s : List ℕ) × (get (key_text k) d ≡ Some (string s)) × (reads s ≡ Some x)

-- The key is absent exactly where the element is, and else its text is read as the element.
abbrev pub MayHold : {X : Type 0} → (List ℕ → Option X) → Key → Data → Option X → Type 0
MayHold reads k d None = get (key_text k) d ≡ None
MayHold reads k d (Some x) = Holds reads k d x

-- The object holds the head.
pub record HoldsHead (d : Data) (m : Head) : Type 0 where
  pub message_name : Holds written_identification key.MsgNmId d m.message_name
  pub message_id : Holds written_identification key.MsgId d m.message_id
  pub creation_time : Holds written_stamp key.CreDtTm d m.creation_time
  pub instructing_agent : Holds written_bic key.InstgAgt d m.instructing_agent
  pub instructed_agent : MayHold written_bic key.InstdAgt d m.instructed_agent

-- The object holds what names the original message.
pub record HoldsOriginal (d : Data) (m : Original) : Type 0 where
  pub message_id : Holds written_identification key.OrgnlMsgId d m.message_id
  pub message_name : Holds written_identification key.OrgnlMsgNmId d m.message_name
  pub end_to_end_id : MayHold written_identification key.OrgnlEndToEndId d m.end_to_end_id
  pub transaction_id : Holds written_identification key.OrgnlTxId d m.transaction_id

-- The object holds the elements of a pacs.008.
pub record HoldsCreditTransfer (d : Data) (m : CreditTransfer) : Type 0 where
  pub head : HoldsHead d m.head
  pub settlement_date : Holds written_day key.IntrBkSttlmDt d m.settlement_date
  pub service_level : Holds written_code key.SvcLvl d m.service_level
  pub local_instrument : Holds written_code key.LclInstrm d m.local_instrument
  pub instruction_id : MayHold written_identification key.InstrId d m.instruction_id
  pub end_to_end_id : Holds written_identification key.EndToEndId d m.end_to_end_id
  pub transaction_id : Holds written_identification key.TxId d m.transaction_id
  pub settlement_amount : Holds cents_of key.IntrBkSttlmAmt d m.settlement_amount
  pub currency : Holds written_code key.Ccy d m.currency
  pub charge_bearer : Holds written_code key.ChrgBr d m.charge_bearer
  pub acceptance_time : MayHold written_stamp key.AccptncDtTm d m.acceptance_time
  pub debtor : Holds name_of key.Dbtr d m.debtor
  pub debtor_account : Holds written_iban key.DbtrAcct d m.debtor_account
  pub debtor_agent : Holds written_bic key.DbtrAgt d m.debtor_agent
  pub creditor_agent : Holds written_bic key.CdtrAgt d m.creditor_agent
  pub creditor : Holds name_of key.Cdtr d m.creditor
  pub creditor_account : Holds written_iban key.CdtrAcct d m.creditor_account
  pub remittance : MayHold remittance_of key.Ustrd d m.remittance

-- The object holds the elements of a pacs.002.
pub record HoldsStatusReport (d : Data) (m : StatusReport) : Type 0 where
  pub head : HoldsHead d m.head
  pub original : HoldsOriginal d m.original
  pub status : Holds written_code key.TxSts d m.status
  pub reason : MayHold reason_of key.Rsn d m.reason
  pub debtor_agent : Holds written_bic key.DbtrAgt d m.debtor_agent

-- The object holds the elements of a pacs.028.
pub record HoldsStatusRequest (d : Data) (m : StatusRequest) : Type 0 where
  pub head : HoldsHead d m.head
  pub original : HoldsOriginal d m.original
  pub cancellation_id : MayHold written_identification key.OrgnlCxlId d m.cancellation_id
  pub debtor_agent : Holds written_bic key.DbtrAgt d m.debtor_agent

-- The value is an object with keys of the shape alone.
abbrev pub HasKeysIn : Shape → Data → Type 0
HasKeysIn shape d = (ms : Members) × (d ≡ object ms) × IsTrue (list_all (is_key_in shape) (names_of ms))

-- The object holds the elements of a transaction of a camt.056.
pub record HoldsTransaction (d : Data) (m : RecallTx) : Type 0 where
  pub cancellation_id : Holds written_identification key.CxlId d m.cancellation_id
  pub original : HoldsOriginal d m.original
  pub original_amount : Holds cents_of key.OrgnlIntrBkSttlmAmt d m.original_amount
  pub currency : Holds written_code key.Ccy d m.currency
  pub original_settlement_date : MayHold written_day key.OrgnlIntrBkSttlmDt d m.original_settlement_date
  pub reason : Holds reason_of key.Rsn d m.reason
  pub debtor_agent : Holds written_bic key.DbtrAgt d m.debtor_agent

-- The value is an object of a transaction, with no other key.
pub record IsTransaction (d : Data) (m : RecallTx) : Type 0 where
  pub keys : HasKeysIn Transaction d
  pub elements : HoldsTransaction d m

-- The values are the transactions, one for one in their order.
abbrev pub AreTransactions : List Data → List RecallTx → Type 0
AreTransactions [] [] = Unit {0}
AreTransactions (d ∷ ds) (tx ∷ txs) = IsTransaction d tx × AreTransactions ds txs
AreTransactions ds txs = ⊥

-- A camt.056 of one transaction, whose elements stand beside those of the head.
pub record HoldsOne (d : Data) (m : Recalls) : Type 0 where
  pub head : HoldsHead d m.head
  pub flat : get (key_text key.TxInf) d ≡ None
  pub one : RecallTx
  pub holds : HoldsTransaction d one
  pub only : m.txs ≡ one ∷ []

-- A camt.056 with a list of 1 to 100 transactions.
pub record HoldsList (d : Data) (m : Recalls) : Type 0 where
  pub head : HoldsHead d m.head
  pub items : Items
  pub list : get (key_text key.TxInf) d ≡ Some (array items)
  pub few : IsTrue (is_right_count (length (items_list items)))
  pub each : AreTransactions (items_list items) m.txs

-- The object holds the elements of a camt.056, in one of its two forms.
abbrev pub HoldsRecalls : Data → Recalls → Type 0
HoldsRecalls d m = HoldsOne d m ⊎ HoldsList d m

-- The object holds the elements of a pacs.004.
pub record HoldsPaymentReturn (d : Data) (m : PaymentReturn) : Type 0 where
  pub head : HoldsHead d m.head
  pub return_id : Holds written_identification key.RtrId d m.return_id
  pub cancellation_id : Holds written_identification key.OrgnlCxlId d m.cancellation_id
  pub original : HoldsOriginal d m.original
  pub original_amount : Holds cents_of key.OrgnlIntrBkSttlmAmt d m.original_amount
  pub returned_amount : Holds cents_of key.RtrdIntrBkSttlmAmt d m.returned_amount
  pub currency : Holds written_code key.Ccy d m.currency
  pub settlement_date : Holds written_day key.IntrBkSttlmDt d m.settlement_date
  pub reason : Holds reason_of key.Rsn d m.reason
  pub debtor_agent : Holds written_bic key.DbtrAgt d m.debtor_agent

-- The object holds the elements of a camt.029.
pub record HoldsResolution (d : Data) (m : Resolution) : Type 0 where
  pub head : HoldsHead d m.head
  pub resolution_id : Holds written_identification key.CxlStsId d m.resolution_id
  pub cancellation_id : Holds written_identification key.OrgnlCxlId d m.cancellation_id
  pub original : HoldsOriginal d m.original
  pub confirmation : Holds written_code key.Conf d m.confirmation
  pub reason : Holds reason_of key.Rsn d m.reason
  pub debtor_agent : Holds written_bic key.DbtrAgt d m.debtor_agent

abbrev pub HoldsElements : Data → Draft → Type 0
HoldsElements d (draft.CreditTransfer m) = HoldsCreditTransfer d m
HoldsElements d (draft.StatusReport m) = HoldsStatusReport d m
HoldsElements d (draft.StatusRequest m) = HoldsStatusRequest d m
HoldsElements d (draft.CancellationRequest m) = HoldsRecalls d m
HoldsElements d (draft.PaymentReturn m) = HoldsPaymentReturn d m
HoldsElements d (draft.Resolution m) = HoldsResolution d m

-- The value is an object with keys of the kind alone; a camt.056 with a list has no key of a transaction beside it.
abbrev pub HasKeysOf : Kind → Data → Type 0
HasKeysOf kind d = HasKeysIn (shape_in kind d) d

-- An object is a form of a message where its keys are keys of the message's kind, each element is what its key's
-- text is read as, absent keys are exactly the absent elements, and the elements follow the rules of the kind.
pub record IsFormOf (d : Data) (m : Draft) : Type 0 where
  pub keys : HasKeysOf (kind_of m) d
  pub elements : HoldsElements d m
  pub rules : FollowsRules m

-- The bytes are a text, and the text is JSON for the value.
pub record StandsFor (bytes : List ℕ) (d : Data) : Type 0 where
  pub text : IsUtf8 bytes
  pub value : read bytes ≡ Some d
