-- The keys by the lengths of their texts.
use Rattle.std.proofs.Common.{◌≡◌, sym, refl, ℕ, Bool, true, false, cond, List, [], ◌∷◌, length, Option, Some, IfSome}
use Rattle.std.specs.Prelude.{find}
use Rattle.std.specs.Cmp.Lexicographic.{bytes_decides}
use Rattle.sct_element.specs.Text.{is_text}
use Rattle.sct_json.specs.declared.keys.Key.{Key}
use Rattle.sct_json.specs.declared.keys.Key.TheVariants.{MsgNmId, MsgId, CreDtTm, InstgAgt, InstdAgt, IntrBkSttlmDt, SvcLvl, LclInstrm, InstrId, EndToEndId, TxId, IntrBkSttlmAmt, Ccy, ChrgBr, AccptncDtTm, Dbtr, DbtrAcct, DbtrAgt, CdtrAgt, Cdtr, CdtrAcct, Ustrd, OrgnlMsgId, OrgnlMsgNmId, OrgnlEndToEndId, OrgnlTxId, TxSts, Rsn, OrgnlCxlId, CxlId, OrgnlIntrBkSttlmAmt, OrgnlIntrBkSttlmDt, TxInf, RtrId, RtrdIntrBkSttlmAmt, CxlStsId, Conf}
use Rattle.sct_json.specs.KeyLookups.{keys_of_length}
use Rattle.sct_json.specs.Keys.{key_text}

has_text : (b : Bool) (text : List ℕ) (key : Key) (later : Option Key) → is_text text (key_text key) ≡ b → IfSome later (λ other. key_text other ≡ text)
    → IfSome (cond b (Some key) later) (λ other. key_text other ≡ text)
has_text true text key later same found = sym ((bytes_decides text (key_text key)).0 same)
has_text false text key later same found = found

-- a key that is found by its text has it
pub found_has_text : (text : List ℕ) (keys : List Key) → IfSome (find (λ key. is_text text (key_text key)) keys) (λ key. key_text key ≡ text)
found_has_text text [] = tt
found_has_text text (key ∷ keys) = has_text (is_text text (key_text key)) text key _ refl (found_has_text text keys)

-- each key is the first of its length that has its text
pub found_by_text : (key : Key) → find (λ other. is_text (key_text key) (key_text other)) (keys_of_length (length (key_text key))) ≡ Some key
unfolding keys_of_length
found_by_text MsgNmId = refl
found_by_text MsgId = refl
found_by_text CreDtTm = refl
found_by_text InstgAgt = refl
found_by_text InstdAgt = refl
found_by_text IntrBkSttlmDt = refl
found_by_text SvcLvl = refl
found_by_text LclInstrm = refl
found_by_text InstrId = refl
found_by_text EndToEndId = refl
found_by_text TxId = refl
found_by_text IntrBkSttlmAmt = refl
found_by_text Ccy = refl
found_by_text ChrgBr = refl
found_by_text AccptncDtTm = refl
found_by_text Dbtr = refl
found_by_text DbtrAcct = refl
found_by_text DbtrAgt = refl
found_by_text CdtrAgt = refl
found_by_text Cdtr = refl
found_by_text CdtrAcct = refl
found_by_text Ustrd = refl
found_by_text OrgnlMsgId = refl
found_by_text OrgnlMsgNmId = refl
found_by_text OrgnlEndToEndId = refl
found_by_text OrgnlTxId = refl
found_by_text TxSts = refl
found_by_text Rsn = refl
found_by_text OrgnlCxlId = refl
found_by_text CxlId = refl
found_by_text OrgnlIntrBkSttlmAmt = refl
found_by_text OrgnlIntrBkSttlmDt = refl
found_by_text TxInf = refl
found_by_text RtrId = refl
found_by_text RtrdIntrBkSttlmAmt = refl
found_by_text CxlStsId = refl
found_by_text Conf = refl
