-- The keys of the JSON form (short names of ISO 20022), and those of each kind and each shape. Read by an auditor.
use Rattle.std.specs.Prelude.{ℕ, List, [], ◌∷◌, ◌||◌, Bool, codes}
use Rattle.std.specs.List.{list_any}
use Rattle.sct_message.specs.declared.kinds.Kind.{Kind}
use Rattle.sct_message.specs.declared.kinds.Kind.TheVariants.{Camt029, Camt056, Pacs002, Pacs004, Pacs008, Pacs028}
use Rattle.sct_element.specs.Text.{is_text}
use Rattle.sct_json.specs.declared.keys.Key.{Key}
use Rattle.sct_json.specs.declared.keys.Key.TheVariants.{MsgNmId, MsgId, CreDtTm, InstgAgt, InstdAgt, IntrBkSttlmDt, SvcLvl, LclInstrm, InstrId, EndToEndId, TxId, IntrBkSttlmAmt, Ccy, ChrgBr, AccptncDtTm, Dbtr, DbtrAcct, DbtrAgt, CdtrAgt, Cdtr, CdtrAcct, Ustrd, OrgnlMsgId, OrgnlMsgNmId, OrgnlEndToEndId, OrgnlTxId, TxSts, Rsn, OrgnlCxlId, CxlId, OrgnlIntrBkSttlmAmt, OrgnlIntrBkSttlmDt, TxInf, RtrId, RtrdIntrBkSttlmAmt, CxlStsId, Conf}
use Rattle.sct_json.specs.declared.keys.Shape.{Shape}
use Rattle.sct_json.specs.declared.keys.Shape.TheVariants.{Flat, Listed, Transaction}

abbrev pub key_text : Key → List ℕ
key_text MsgNmId = codes "MsgNmId"
key_text MsgId = codes "MsgId"
key_text CreDtTm = codes "CreDtTm"
key_text InstgAgt = codes "InstgAgt"
key_text InstdAgt = codes "InstdAgt"
key_text IntrBkSttlmDt = codes "IntrBkSttlmDt"
key_text SvcLvl = codes "SvcLvl"
key_text LclInstrm = codes "LclInstrm"
key_text InstrId = codes "InstrId"
key_text EndToEndId = codes "EndToEndId"
key_text TxId = codes "TxId"
key_text IntrBkSttlmAmt = codes "IntrBkSttlmAmt"
key_text Ccy = codes "Ccy"
key_text ChrgBr = codes "ChrgBr"
key_text AccptncDtTm = codes "AccptncDtTm"
key_text Dbtr = codes "Dbtr"
key_text DbtrAcct = codes "DbtrAcct"
key_text DbtrAgt = codes "DbtrAgt"
key_text CdtrAgt = codes "CdtrAgt"
key_text Cdtr = codes "Cdtr"
key_text CdtrAcct = codes "CdtrAcct"
key_text Ustrd = codes "Ustrd"
key_text OrgnlMsgId = codes "OrgnlMsgId"
key_text OrgnlMsgNmId = codes "OrgnlMsgNmId"
key_text OrgnlEndToEndId = codes "OrgnlEndToEndId"
key_text OrgnlTxId = codes "OrgnlTxId"
key_text TxSts = codes "TxSts"
key_text Rsn = codes "Rsn"
key_text OrgnlCxlId = codes "OrgnlCxlId"
key_text CxlId = codes "CxlId"
key_text OrgnlIntrBkSttlmAmt = codes "OrgnlIntrBkSttlmAmt"
key_text OrgnlIntrBkSttlmDt = codes "OrgnlIntrBkSttlmDt"
key_text TxInf = codes "TxInf"
key_text RtrId = codes "RtrId"
key_text RtrdIntrBkSttlmAmt = codes "RtrdIntrBkSttlmAmt"
key_text CxlStsId = codes "CxlStsId"
key_text Conf = codes "Conf"

-- the keys that every message has
abbrev pub head_keys : List Key
head_keys = MsgNmId ∷ MsgId ∷ CreDtTm ∷ InstgAgt ∷ InstdAgt ∷ []

-- the keys that name the message and the transfer that a later message is about
abbrev pub original_keys : List Key
original_keys = OrgnlMsgId ∷ OrgnlMsgNmId ∷ OrgnlEndToEndId ∷ OrgnlTxId ∷ []

abbrev pub credit_transfer_keys : List Key
credit_transfer_keys =
    IntrBkSttlmDt ∷ SvcLvl ∷ LclInstrm ∷ InstrId ∷ EndToEndId ∷ TxId ∷ IntrBkSttlmAmt ∷ Ccy ∷
    ChrgBr ∷ AccptncDtTm ∷ Dbtr ∷ DbtrAcct ∷ DbtrAgt ∷ CdtrAgt ∷ Cdtr ∷ CdtrAcct ∷ Ustrd ∷ []

abbrev pub status_report_keys : List Key
status_report_keys = TxSts ∷ Rsn ∷ DbtrAgt ∷ []

abbrev pub status_request_keys : List Key
status_request_keys = OrgnlCxlId ∷ DbtrAgt ∷ []

abbrev pub cancellation_request_keys : List Key
cancellation_request_keys = CxlId ∷ OrgnlIntrBkSttlmAmt ∷ Ccy ∷ OrgnlIntrBkSttlmDt ∷ Rsn ∷ DbtrAgt ∷ []

-- a recall message with a list has its transactions there
abbrev pub list_keys : List Key
list_keys = TxInf ∷ []

abbrev pub payment_return_keys : List Key
payment_return_keys =
    RtrId ∷ OrgnlCxlId ∷ OrgnlIntrBkSttlmAmt ∷ RtrdIntrBkSttlmAmt ∷ Ccy ∷ IntrBkSttlmDt ∷ Rsn ∷
    DbtrAgt ∷ []

abbrev pub resolution_keys : List Key
resolution_keys = CxlStsId ∷ OrgnlCxlId ∷ Conf ∷ Rsn ∷ DbtrAgt ∷ []

-- a name is the text of one of these keys
unfoldable pub is_key_among : List Key → List ℕ → Bool
is_key_among keys name = list_any (λ key. is_text name (key_text key)) keys

-- the keys that a message of a kind may have
abbrev pub is_key_of : Kind → List ℕ → Bool
is_key_of Camt029 name =
    is_key_among head_keys name || is_key_among original_keys name || is_key_among resolution_keys name
is_key_of Camt056 name =
    is_key_among head_keys name || is_key_among original_keys name || is_key_among cancellation_request_keys name
is_key_of Pacs002 name =
    is_key_among head_keys name || is_key_among original_keys name || is_key_among status_report_keys name
is_key_of Pacs004 name =
    is_key_among head_keys name || is_key_among original_keys name || is_key_among payment_return_keys name
is_key_of Pacs008 name = is_key_among head_keys name || is_key_among credit_transfer_keys name
is_key_of Pacs028 name =
    is_key_among head_keys name || is_key_among original_keys name || is_key_among status_request_keys name

-- the keys that an object of a shape may have
abbrev pub is_key_in : Shape → List ℕ → Bool
is_key_in (Flat kind) name = is_key_of kind name
is_key_in Listed name = is_key_among head_keys name || is_key_among list_keys name
is_key_in Transaction name = is_key_among original_keys name || is_key_among cancellation_request_keys name
