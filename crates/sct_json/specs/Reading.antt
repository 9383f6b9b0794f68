-- What an object is read as: its message, or the first reason why it is a form of none. Read by an auditor.
use Rattle.std.specs.Prelude.{◌≡◌, ℕ, ◌+◌, List, [], ◌∷◌, length, Bool, true, false, not, if◌then◌else◌, IsTrue, Option, Some, None, is_some, option_and_then, option_map, find, Result, Ok, Err, ok_or, ⊤}
use Rattle.std.specs.Str.{is_utf8}
use Rattle.std.specs.declared.alloc.Global.{Global}
use Rattle.std.specs.declared.vec.Vec.{Vec}
use Rattle.serde_json.specs.Data.{Data, Items, no_items, item, Members, no_members, member}
use Rattle.serde_json.specs.Read.{read}
use Rattle.serde_json.specs.Find.{get, as_str, as_array, as_object}
use Rattle.sct_element.specs.declared.faults.ElementFault.{ElementFault}
use Rattle.sct_element.specs.declared.faults.ElementFault.TheVariants as element
use Rattle.sct_element.specs.Text.{where_read}
use Rattle.sct_element.specs.Account.{written_iban}
use Rattle.sct_element.specs.Bank.{written_bic}
use Rattle.sct_element.specs.Date.{written_day}
use Rattle.sct_element.specs.Identification.{written_identification, written_stamp, written_code}
use Rattle.sct_element.specs.Money.{cents_of}
use Rattle.sct_element.specs.Party.{has_characters}
use Rattle.sct_reason.specs.Reasons.{reason_of}
use Rattle.sct_message.specs.declared.kinds.Kind.{Kind}
use Rattle.sct_message.specs.declared.kinds.Kind.TheVariants.{Camt029, Camt056, Pacs002, Pacs004, Pacs008, Pacs028}
use Rattle.sct_message.specs.declared.draft.Head.{Head}
use Rattle.sct_message.specs.declared.draft.Original.{Original}
use Rattle.sct_message.specs.declared.draft.CreditTransfer.{CreditTransfer}
use Rattle.sct_message.specs.declared.draft.StatusReport.{StatusReport}
use Rattle.sct_message.specs.declared.draft.StatusRequest.{StatusRequest}
use Rattle.sct_message.specs.declared.draft.RecallTx.{RecallTx}
use Rattle.sct_message.specs.declared.draft.PaymentReturn.{PaymentReturn}
use Rattle.sct_message.specs.declared.draft.Resolution.{Resolution}
use Rattle.sct_message.specs.declared.draft.Draft.{Draft}
use Rattle.sct_message.specs.declared.draft.Draft.TheVariants as draft
use Rattle.sct_message.specs.declared.rules.RuleFault.{RuleFault}
use Rattle.sct_message.specs.Kinds.{kind_named}
use Rattle.sct_message.specs.Recalls.{Recalls}
use Rattle.sct_message.specs.Rules.{first_broken_rule, is_right_count}
use Rattle.sct_json.specs.declared.keys.Key.{Key}
use Rattle.sct_json.specs.declared.keys.Key.TheVariants as key
use Rattle.sct_json.specs.declared.keys.Shape.{Shape}
use Rattle.sct_json.specs.declared.keys.Shape.TheVariants.{Flat, Listed, Transaction}
use Rattle.sct_json.specs.declared.faults.JsonFault.{JsonFault}
use Rattle.sct_json.specs.declared.faults.JsonFault.TheVariants as fault
use Rattle.sct_json.specs.Faults.{placed}
use Rattle.sct_json.specs.Keys.{key_text, is_key_in}

-- a step that may refuse, and the next one
infixl 10 ◌>>=◌
abbrev pub ◌>>=◌ : {X Y : Type 0} → Result X JsonFault → (X → Result Y JsonFault) → Result Y JsonFault
(Ok x) >>= f = f x
(Err e) >>= f = Err e

-- What a function of the code answered is what is read. Out of memory may be answered in its place, but only
-- where the function takes memory.
abbrev pub FailsWhere : {X : Type 0} → Bool → JsonFault → Result X JsonFault → Type 0
FailsWhere takes_memory fault.Memory read = IsTrue takes_memory
FailsWhere takes_memory e read = read ≡ Err e

abbrev pub GivesWhere : {X : Type 0} → Bool → Result X JsonFault → Result X JsonFault → Type 0
GivesWhere takes_memory (Ok x) read = read ≡ Ok x
GivesWhere takes_memory (Err e) read = FailsWhere takes_memory e read

-- the same of a function that may always take memory, of one that never does, and of one that answers a list in memory
abbrev pub GivesWithMemory : {X : Type 0} → Result X JsonFault → Result X JsonFault → Type 0
GivesWithMemory answered read = GivesWhere true answered read

abbrev pub GivesWithoutMemory : {X : Type 0} → Result X JsonFault → Result X JsonFault → Type 0
GivesWithoutMemory answered read = GivesWhere false answered read

abbrev pub GivesItems : Result (Vec RecallTx Global) JsonFault → Result (List RecallTx) JsonFault → Type 0
GivesItems (Ok txs) read = read ≡ Ok txs.items
GivesItems (Err e) read = FailsWhere true e read

-- A text is read as an element, or refused with the fault of the element's type. Out of memory is an answer only
-- where reading the element takes memory.
abbrev pub ReadsElement : {X : Type 0} → Bool → Option X → ElementFault → Result X ElementFault → Type 0
ReadsElement takes_memory found refusal (Ok x) = found ≡ Some x
ReadsElement takes_memory found refusal (Err element.Memory) = IsTrue takes_memory
ReadsElement takes_memory found refusal (Err e) = (found ≡ None) × (e ≡ refusal)

-- the fault is out of memory; it is that of no type of element
abbrev pub is_want_of_memory : ElementFault → Bool
is_want_of_memory element.Memory = true
is_want_of_memory e = false

-- a name and remittance information are read as they stand
abbrev pub name_of : List ℕ → Option (List ℕ)
name_of s = where_read (has_characters 70 s) s

abbrev pub remittance_of : List ℕ → Option (List ℕ)
remittance_of s = where_read (has_characters 140 s) s

-- ---- one key

-- the element that a key's text is read as
abbrev pub text_as :
    {X : Type 0} → (List ℕ → Option X) → ElementFault → Key → Option (List ℕ) → Result X JsonFault
text_as reads refusal k None = Err (fault.NotText k)
text_as reads refusal k (Some s) = ok_or (reads s) (fault.Element k refusal)

abbrev pub value_as : {X : Type 0} → (List ℕ → Option X) → ElementFault → Key → Data → Result X JsonFault
value_as reads refusal k d = text_as reads refusal k (as_str d)

abbrev pub required_as :
    {X : Type 0} → (List ℕ → Option X) → ElementFault → Key → Option Data → Result X JsonFault
required_as reads refusal k None = Err (fault.Missing k)
required_as reads refusal k (Some d) = value_as reads refusal k d

abbrev pub optional_as :
    {X : Type 0} → (List ℕ → Option X) → ElementFault → Key → Option Data → Result (Option X) JsonFault
optional_as reads refusal k None = Ok None
optional_as reads refusal k (Some d) = value_as reads refusal k d >>= λ x. Ok (Some x)

-- a key that each message of the kind has: absent, no text, no element, or an element
unfoldable pub required : {X : Type 0} → (List ℕ → Option X) → ElementFault → Key → Data → Result X JsonFault
required reads refusal k d = required_as reads refusal k (get (key_text k) d)

-- a key that may be absent
unfoldable pub optional :
    {X : Type 0} → (List ℕ → Option X) → ElementFault → Key → Data → Result (Option X) JsonFault
optional reads refusal k d = optional_as reads refusal k (get (key_text k) d)

-- ---- the key tables, each key in its order

-- what every message begins with
unfoldable pub head_in : Data → Result Head JsonFault
head_in d = do
  message_name ← required written_identification element.BadId key.MsgNmId d
  message_id ← required written_identification element.BadId key.MsgId d
  creation_time ← required written_stamp element.BadStamp key.CreDtTm d
  instructing_agent ← required written_bic element.BadBic key.InstgAgt d
  instructed_agent ← optional written_bic element.BadBic key.InstdAgt d
  Ok (record {
    message_name = message_name;
    message_id = message_id;
    creation_time = creation_time;
    instructing_agent = instructing_agent;
    instructed_agent = instructed_agent;
  })

-- the transfer that a later message is about
unfoldable pub original_in : Data → Result Original JsonFault
original_in d = do
  message_id ← required written_identification element.BadId key.OrgnlMsgId d
  message_name ← required written_identification element.BadId key.OrgnlMsgNmId d
  end_to_end_id ← optional written_identification element.BadId key.OrgnlEndToEndId d
  transaction_id ← required written_identification element.BadId key.OrgnlTxId d
  Ok (record {
    message_id = message_id;
    message_name = message_name;
    end_to_end_id = end_to_end_id;
    transaction_id = transaction_id;
  })

-- pacs.008
unfoldable pub credit_transfer_in : Data → Result CreditTransfer JsonFault
credit_transfer_in d = do
  head ← head_in d
  settlement_date ← required written_day element.BadDay key.IntrBkSttlmDt d
  service_level ← required written_code element.BadCode key.SvcLvl d
  local_instrument ← required written_code element.BadCode key.LclInstrm d
  instruction_id ← optional written_identification element.BadId key.InstrId d
  end_to_end_id ← required written_identification element.BadId key.EndToEndId d
  transaction_id ← required written_identification element.BadId key.TxId d
  settlement_amount ← required cents_of element.BadAmount key.IntrBkSttlmAmt d
  currency ← required written_code element.BadCode key.Ccy d
  charge_bearer ← required written_code element.BadCode key.ChrgBr d
  acceptance_time ← optional written_stamp element.BadStamp key.AccptncDtTm d
  debtor ← required name_of element.BadText key.Dbtr d
  debtor_account ← required written_iban element.BadIban key.DbtrAcct d
  debtor_agent ← required written_bic element.BadBic key.DbtrAgt d
  creditor_agent ← required written_bic element.BadBic key.CdtrAgt d
  creditor ← required name_of element.BadText key.Cdtr d
  creditor_account ← required written_iban element.BadIban key.CdtrAcct d
  remittance ← optional remittance_of element.BadText key.Ustrd d
  Ok (record {
    head = head;
    settlement_date = settlement_date;
    service_level = service_level;
    local_instrument = local_instrument;
    instruction_id = instruction_id;
    end_to_end_id = end_to_end_id;
    transaction_id = transaction_id;
    settlement_amount = settlement_amount;
    currency = currency;
    charge_bearer = charge_bearer;
    acceptance_time = acceptance_time;
    debtor = debtor;
    debtor_account = debtor_account;
    debtor_agent = debtor_agent;
    creditor_agent = creditor_agent;
    creditor = creditor;
    creditor_account = creditor_account;
    remittance = remittance;
  })

-- pacs.002
unfoldable pub status_report_in : Data → Result StatusReport JsonFault
status_report_in d = do
  head ← head_in d
  original ← original_in d
  status ← required written_code element.BadCode key.TxSts d
  reason ← optional reason_of element.BadCode key.Rsn d
  debtor_agent ← required written_bic element.BadBic key.DbtrAgt d
  Ok (record {
    head = head;
    original = original;
    status = status;
    reason = reason;
    debtor_agent = debtor_agent;
  })

-- pacs.028
unfoldable pub status_request_in : Data → Result StatusRequest JsonFault
status_request_in d = do
  head ← head_in d
  original ← original_in d
  cancellation_id ← optional written_identification element.BadId key.OrgnlCxlId d
  debtor_agent ← required written_bic element.BadBic key.DbtrAgt d
  Ok (record {
    head = head;
    original = original;
    cancellation_id = cancellation_id;
    debtor_agent = debtor_agent;
  })

-- a transaction of a camt.056
unfoldable pub transaction_in : Data → Result RecallTx JsonFault
transaction_in d = do
  cancellation_id ← required written_identification element.BadId key.CxlId d
  original ← original_in d
  original_amount ← required cents_of element.BadAmount key.OrgnlIntrBkSttlmAmt d
  currency ← required written_code element.BadCode key.Ccy d
  original_settlement_date ← optional written_day element.BadDay key.OrgnlIntrBkSttlmDt d
  reason ← required reason_of element.BadCode key.Rsn d
  debtor_agent ← required written_bic element.BadBic key.DbtrAgt d
  Ok (record {
    cancellation_id = cancellation_id;
    original = original;
    original_amount = original_amount;
    currency = currency;
    original_settlement_date = original_settlement_date;
    reason = reason;
    debtor_agent = debtor_agent;
  })

-- pacs.004
unfoldable pub payment_return_in : Data → Result PaymentReturn JsonFault
payment_return_in d = do
  head ← head_in d
  return_id ← required written_identification element.BadId key.RtrId d
  cancellation_id ← required written_identification element.BadId key.OrgnlCxlId d
  original ← original_in d
  original_amount ← required cents_of element.BadAmount key.OrgnlIntrBkSttlmAmt d
  returned_amount ← required cents_of element.BadAmount key.RtrdIntrBkSttlmAmt d
  currency ← required written_code element.BadCode key.Ccy d
  settlement_date ← required written_day element.BadDay key.IntrBkSttlmDt d
  reason ← required reason_of element.BadCode key.Rsn d
  debtor_agent ← required written_bic element.BadBic key.DbtrAgt d
  Ok (record {
    head = head;
    return_id = return_id;
    cancellation_id = cancellation_id;
    original = original;
    original_amount = original_amount;
    returned_amount = returned_amount;
    currency = currency;
    settlement_date = settlement_date;
    reason = reason;
    debtor_agent = debtor_agent;
  })

-- camt.029
unfoldable pub resolution_in : Data → Result Resolution JsonFault
resolution_in d = do
  head ← head_in d
  resolution_id ← required written_identification element.BadId key.CxlStsId d
  cancellation_id ← required written_identification element.BadId key.OrgnlCxlId d
  original ← original_in d
  confirmation ← required written_code element.BadCode key.Conf d
  reason ← required reason_of element.BadCode key.Rsn d
  debtor_agent ← required written_bic element.BadBic key.DbtrAgt d
  Ok (record {
    head = head;
    resolution_id = resolution_id;
    cancellation_id = cancellation_id;
    original = original;
    confirmation = confirmation;
    reason = reason;
    debtor_agent = debtor_agent;
  })

-- ---- one object

-- the names of the members, in the order of the members, which is that of the names' bytes
abbrev pub names_of : Members → List (List ℕ)
names_of no_members = []
names_of (member k d ms) = k ∷ names_of ms

-- the first name that is no key of the shape
abbrev pub first_extra : Shape → Members → Option (List ℕ)
first_extra shape ms = find (λ name. not (is_key_in shape name)) (names_of ms)

abbrev pub passes_unless : Option (List ℕ) → Result ⊤ JsonFault
passes_unless None = Ok tt
passes_unless (Some name) = Err (fault.Extra name)

-- ---- the list of a camt.056

abbrev pub items_list : Items → List Data
items_list no_items = []
items_list (item d ds) = d ∷ items_list ds

-- the elements of a list; none where the value is no list
abbrev pub items_of_list : Data → Option (List Data)
items_of_list d = option_map items_list (as_array d)

abbrev pub counted : List Data → Result ⊤ JsonFault
counted ds = if is_right_count (length ds) then Ok tt else Err (fault.BadTransactions 0)

-- the place of the first element that is no object, where the first element has the place that is given
abbrev pub first_no_object : ℕ → List Data → Option ℕ
first_no_object place [] = None
first_no_object place (d ∷ ds) = if is_some (as_object d) then first_no_object (place + 1) ds else Some place

abbrev pub are_objects : Option ℕ → Result ⊤ JsonFault
are_objects None = Ok tt
are_objects (Some place) = Err (fault.BadTransactions place)

-- an element: the keys of a transaction in their order, and then no other key
unfoldable pub element_in : Data → Result RecallTx JsonFault
element_in d = do
  members ← ok_or (as_object d) fault.NotObject
  tx ← transaction_in d
  alone ← passes_unless (first_extra Transaction members)
  Ok tx

-- the fault is one of the element at the place
abbrev pub at_place : {X : Type 0} → ℕ → Result X JsonFault → Result X JsonFault
at_place place (Ok x) = Ok x
at_place place (Err e) = Err (placed place e)

-- each element in the order of the list, where the first has the place that is given
abbrev pub elements_in : ℕ → List Data → Result (List RecallTx) JsonFault
elements_in place [] = Ok []
elements_in place (d ∷ ds) = at_place place (element_in d) >>= λ tx. elements_in (place + 1) ds >>= λ txs. Ok (tx ∷ txs)

-- a list of 1 to 100 elements, then objects alone, and then each element
unfoldable pub list_in : Data → Result (List RecallTx) JsonFault
list_in d = do
  ds ← ok_or (items_of_list d) (fault.BadTransactions 0)
  few ← counted ds
  objects ← are_objects (first_no_object 1 ds)
  elements_in 1 ds

-- camt.056: the head, and one transaction among the keys of the object or the list at TxInf
unfoldable pub flat_recall_in : Data → Result Recalls JsonFault
flat_recall_in d = do
  head ← head_in d
  tx ← transaction_in d
  Ok (record { head = head; txs = tx ∷ [] })

unfoldable pub listed_recalls_in : Data → Data → Result Recalls JsonFault
listed_recalls_in list d = do
  head ← head_in d
  txs ← list_in list
  Ok (record { head = head; txs = txs })

abbrev pub recalls_by : Option Data → Data → Result Recalls JsonFault
recalls_by None d = flat_recall_in d
recalls_by (Some list) d = listed_recalls_in list d

unfoldable pub cancellation_request_in : Data → Result Recalls JsonFault
cancellation_request_in d = recalls_by (get (key_text key.TxInf) d) d

-- ---- the whole object

abbrev pub draft_in : Kind → Data → Result Draft JsonFault
draft_in Camt029 d = resolution_in d >>= λ m. Ok (draft.Resolution m)
draft_in Camt056 d = cancellation_request_in d >>= λ m. Ok (draft.CancellationRequest m)
draft_in Pacs002 d = status_report_in d >>= λ m. Ok (draft.StatusReport m)
draft_in Pacs004 d = payment_return_in d >>= λ m. Ok (draft.PaymentReturn m)
draft_in Pacs008 d = credit_transfer_in d >>= λ m. Ok (draft.CreditTransfer m)
draft_in Pacs028 d = status_request_in d >>= λ m. Ok (draft.StatusRequest m)

-- a camt.056 with TxInf has a list, whatever stands there
abbrev pub listed_or_flat : Option Data → Shape
listed_or_flat None = Flat Camt056
listed_or_flat (Some list) = Listed

-- the shape of an object that is to be a message of a kind
abbrev pub shape_in : Kind → Data → Shape
shape_in Camt056 d = listed_or_flat (get (key_text key.TxInf) d)
shape_in kind d = Flat kind

-- the kind that the text at MsgNmId names
abbrev pub kind_in : Data → Option Kind
kind_in d = option_and_then kind_named (option_and_then as_str (get (key_text key.MsgNmId) d))

abbrev pub follows_unless : Option RuleFault → Draft → Result Draft JsonFault
follows_unless None m = Ok m
follows_unless (Some broken) m = Err (fault.Rule broken)

-- no other key, and then the rules
abbrev pub message_in_whole : Shape → Members → Draft → Result Draft JsonFault
message_in_whole shape members elements =
    passes_unless (first_extra shape members) >>= λ alone. follows_unless (first_broken_rule elements) elements

-- an object, a kind, the kind's keys in their order, no other key, and then the rules
unfoldable pub object_in : Data → Result Draft JsonFault
object_in d = do
  members ← ok_or (as_object d) fault.NotObject
  kind ← ok_or (kind_in d) fault.UnknownKind
  elements ← draft_in kind d
  message_in_whole (shape_in kind d) members elements

abbrev pub value_in : Option Data → Result Draft JsonFault
value_in None = Err fault.NotJson
value_in (Some d) = object_in d

-- the bytes of a text that is JSON
unfoldable pub message_in : List ℕ → Result Draft JsonFault
message_in bytes = if is_utf8 bytes then value_in (read bytes) else Err fault.NotJson
