-- How a key is looked up: by the length of its text, and along keys that are sorted. Serves proofs.
use Rattle.std.specs.Prelude.{ℕ, List, [], ◌∷◌, ◌==◌, Bool, false, if◌then◌else◌}
use Rattle.std.specs.Ordering.{nat_cmp, is_lt}
use Rattle.std.specs.Cmp.Lexicographic.{slice_cmp}
use Rattle.sct_element.specs.Text.{is_text}
use Rattle.sct_json.specs.declared.keys.Key.{Key}
use Rattle.sct_json.specs.declared.keys.Key.TheVariants.{MsgNmId, MsgId, CreDtTm, InstgAgt, InstdAgt, IntrBkSttlmDt, SvcLvl, LclInstrm, InstrId, EndToEndId, TxId, IntrBkSttlmAmt, Ccy, ChrgBr, AccptncDtTm, Dbtr, DbtrAcct, DbtrAgt, CdtrAgt, Cdtr, CdtrAcct, Ustrd, OrgnlMsgId, OrgnlMsgNmId, OrgnlEndToEndId, OrgnlTxId, TxSts, Rsn, OrgnlCxlId, CxlId, OrgnlIntrBkSttlmAmt, OrgnlIntrBkSttlmDt, TxInf, RtrId, RtrdIntrBkSttlmAmt, CxlStsId, Conf}
use Rattle.sct_json.specs.Keys.{key_text}

-- the keys whose texts have a length
unfoldable pub keys_of_length : ℕ → List Key
keys_of_length n =
    if n == 3 then Ccy ∷ Rsn ∷ [] else
    if n == 4 then TxId ∷ Dbtr ∷ Cdtr ∷ Conf ∷ [] else
    if n == 5 then MsgId ∷ TxSts ∷ Ustrd ∷ CxlId ∷ RtrId ∷ TxInf ∷ [] else
    if n == 6 then SvcLvl ∷ ChrgBr ∷ [] else
    if n == 7 then MsgNmId ∷ DbtrAgt ∷ CreDtTm ∷ CdtrAgt ∷ InstrId ∷ [] else
    if n == 8 then InstgAgt ∷ InstdAgt ∷ DbtrAcct ∷ CdtrAcct ∷ CxlStsId ∷ [] else
    if n == 9 then OrgnlTxId ∷ LclInstrm ∷ [] else
    if n == 10 then OrgnlMsgId ∷ EndToEndId ∷ OrgnlCxlId ∷ [] else
    if n == 11 then AccptncDtTm ∷ [] else
    if n == 12 then OrgnlMsgNmId ∷ [] else
    if n == 13 then IntrBkSttlmDt ∷ [] else
    if n == 14 then IntrBkSttlmAmt ∷ [] else
    if n == 15 then OrgnlEndToEndId ∷ [] else
    if n == 18 then OrgnlIntrBkSttlmDt ∷ RtrdIntrBkSttlmAmt ∷ [] else
    if n == 19 then OrgnlIntrBkSttlmAmt ∷ [] else
    []

-- what is left of the keys from the first that does not stand before the name by its bytes
abbrev pub keys_from : List ℕ → List Key → List Key
keys_from name [] = []
keys_from name (key ∷ keys) = if is_lt (slice_cmp nat_cmp (key_text key) name) then keys_from name keys else key ∷ keys

-- the name is the text of the first of the keys
abbrev pub is_first : List ℕ → List Key → Bool
is_first name [] = false
is_first name (key ∷ keys) = is_text name (key_text key)
