-- The written form of a message that was read is UTF-8. Proof plumbing.
use Rattle.std.proofs.Common.{◌≡◌, ◌∙◌, inl, inr, refl, ap, sym, subst, arith, ℕ, zero, suc, ◌<◌, ◌≤◌, ◌/◌, ◌%◌, ◌+◌, ◌^◌, Bool, true, false, cond, ◌&&◌, ◌||◌, ◌==◌, List, [], ◌∷◌, ◌++◌, map, take, drop, IsUtf8, nat_cmp, Ordering, Less, Equal, Greater}
use Rattle.std.specs.Prelude.{Option, None, Some, codes, decimal, option_map, length, nat_le}
use Rattle.std.specs.Str.{IsAscii}
use Rattle.std.specs.List.{list_all}
use Rattle.std.specs.Ordering.{match_ordering}
use Rattle.std.specs.Cmp.Lexicographic.{slice_cmp}
use Rattle.std.specs.Char.{is_ascii_alphanumeric, is_ascii_digit, is_ascii_uppercase, to_ascii_uppercase}
use Rattle.std.proofs.lemmas.Bool.{and_from, and_parts}
use Rattle.std.proofs.lemmas.Bool.Decides.{nat_tests}
use Rattle.std.proofs.lemmas.Fmt.{IsAscii-decimal}
use Rattle.std.proofs.lemmas.List.{append-nil, drop-drop, take-append-drop}
use Rattle.std.proofs.lemmas.List.Folds.{list_all-append}
use Rattle.std.proofs.lemmas.Option.{same_Some}
use Rattle.std.proofs.lemmas.Str.{IsUtf8-append, IsUtf8-from_ascii, IsUtf8-nil}
use Rattle.json.specs.Print.{quoted}
use Rattle.json.proofs.Printed.Utf8.{IsUtf8-are_ascii, IsUtf8-quoted}
use Rattle.serde_json.specs.Data.{Data, null, boolean, number, string, array, object, Items, no_items, item, Members, no_members, member, put}
use Rattle.serde_json.specs.Find.{get, get_member}
use Rattle.serde_json.specs.Written.{compact_text, items_text, members_text}
use Rattle.sct_element.specs.Account.{capitals, is_account_shaped, is_iban, written_iban}
use Rattle.sct_element.specs.Bank.{full_bic, is_bic, written_bic}
use Rattle.sct_element.specs.Date.{is_day, written_day}
use Rattle.sct_element.specs.Identification.{is_code, is_identification, is_short_text, written_code, written_identification, written_stamp}
use Rattle.sct_element.specs.Money.{IsAmountText, amount_text, cents_of}
use Rattle.sct_element.specs.Party.{has_characters}
use Rattle.sct_element.specs.Settles.{read_parts}
use Rattle.sct_element.specs.Text.{where_read}
use Rattle.sct_reason.specs.Codes.{reason_text}
use Rattle.sct_reason.specs.Reasons.{reason_of}
use Rattle.sct_reason.specs.declared.reasons.Reason.{Reason}
use Rattle.sct_message.specs.declared.draft.CreditTransfer.{CreditTransfer}
use Rattle.sct_message.specs.declared.draft.StatusReport.{StatusReport}
use Rattle.sct_message.specs.declared.draft.StatusRequest.{StatusRequest}
use Rattle.sct_message.specs.declared.draft.PaymentReturn.{PaymentReturn}
use Rattle.sct_message.specs.declared.draft.Resolution.{Resolution}
use Rattle.sct_message.specs.declared.draft.Head.{Head}
use Rattle.sct_message.specs.declared.draft.Original.{Original}
use Rattle.sct_message.specs.declared.draft.RecallTx.{RecallTx}
use Rattle.sct_message.specs.declared.draft.Draft.{Draft}
use Rattle.sct_message.specs.declared.draft.Draft.TheVariants as draft
use Rattle.sct_message.specs.Recalls.{Recalls}
use Rattle.sct_json.specs.declared.keys.Key.{Key}
use Rattle.sct_json.specs.declared.keys.Key.TheVariants as key
use Rattle.sct_json.specs.Form.{AreTransactions, Holds, HoldsCreditTransfer, HoldsElements, HoldsHead, HoldsOriginal, HoldsPaymentReturn, HoldsRecalls, HoldsResolution, HoldsStatusReport, HoldsStatusRequest, HoldsTransaction, MayHold}
use Rattle.sct_json.specs.Keys.{key_text}
use Rattle.sct_json.specs.Reading.{items_list}
use Rattle.sct_json.specs.Writing.{Row, credit_transfer_rows, head_rows, original_rows, payment_return_rows, resolution_rows, status_report_rows, status_request_rows, transaction_objects, transaction_rows, with_elements, with_head, with_list, with_original, with_rows, with_transactions, written_text}
use Rattle.sct_json.proofs.Rows.{kept_put}
use Rattle.sct_read_again.proofs.TextValues.{AreTexts, ItemsAreTexts, MembersAreTexts}

-- ---- the keys

key_utf8 : (k : Key) → IsUtf8 (key_text k)
key_utf8 key.MsgNmId = IsUtf8-are_ascii (codes "MsgNmId") refl
key_utf8 key.MsgId = IsUtf8-are_ascii (codes "MsgId") refl
key_utf8 key.CreDtTm = IsUtf8-are_ascii (codes "CreDtTm") refl
key_utf8 key.InstgAgt = IsUtf8-are_ascii (codes "InstgAgt") refl
key_utf8 key.InstdAgt = IsUtf8-are_ascii (codes "InstdAgt") refl
key_utf8 key.IntrBkSttlmDt = IsUtf8-are_ascii (codes "IntrBkSttlmDt") refl
key_utf8 key.SvcLvl = IsUtf8-are_ascii (codes "SvcLvl") refl
key_utf8 key.LclInstrm = IsUtf8-are_ascii (codes "LclInstrm") refl
key_utf8 key.InstrId = IsUtf8-are_ascii (codes "InstrId") refl
key_utf8 key.EndToEndId = IsUtf8-are_ascii (codes "EndToEndId") refl
key_utf8 key.TxId = IsUtf8-are_ascii (codes "TxId") refl
key_utf8 key.IntrBkSttlmAmt = IsUtf8-are_ascii (codes "IntrBkSttlmAmt") refl
key_utf8 key.Ccy = IsUtf8-are_ascii (codes "Ccy") refl
key_utf8 key.ChrgBr = IsUtf8-are_ascii (codes "ChrgBr") refl
key_utf8 key.AccptncDtTm = IsUtf8-are_ascii (codes "AccptncDtTm") refl
key_utf8 key.Dbtr = IsUtf8-are_ascii (codes "Dbtr") refl
key_utf8 key.DbtrAcct = IsUtf8-are_ascii (codes "DbtrAcct") refl
key_utf8 key.DbtrAgt = IsUtf8-are_ascii (codes "DbtrAgt") refl
key_utf8 key.CdtrAgt = IsUtf8-are_ascii (codes "CdtrAgt") refl
key_utf8 key.Cdtr = IsUtf8-are_ascii (codes "Cdtr") refl
key_utf8 key.CdtrAcct = IsUtf8-are_ascii (codes "CdtrAcct") refl
key_utf8 key.Ustrd = IsUtf8-are_ascii (codes "Ustrd") refl
key_utf8 key.OrgnlMsgId = IsUtf8-are_ascii (codes "OrgnlMsgId") refl
key_utf8 key.OrgnlMsgNmId = IsUtf8-are_ascii (codes "OrgnlMsgNmId") refl
key_utf8 key.OrgnlEndToEndId = IsUtf8-are_ascii (codes "OrgnlEndToEndId") refl
key_utf8 key.OrgnlTxId = IsUtf8-are_ascii (codes "OrgnlTxId") refl
key_utf8 key.TxSts = IsUtf8-are_ascii (codes "TxSts") refl
key_utf8 key.Rsn = IsUtf8-are_ascii (codes "Rsn") refl
key_utf8 key.OrgnlCxlId = IsUtf8-are_ascii (codes "OrgnlCxlId") refl
key_utf8 key.CxlId = IsUtf8-are_ascii (codes "CxlId") refl
key_utf8 key.OrgnlIntrBkSttlmAmt = IsUtf8-are_ascii (codes "OrgnlIntrBkSttlmAmt") refl
key_utf8 key.OrgnlIntrBkSttlmDt = IsUtf8-are_ascii (codes "OrgnlIntrBkSttlmDt") refl
key_utf8 key.TxInf = IsUtf8-are_ascii (codes "TxInf") refl
key_utf8 key.RtrId = IsUtf8-are_ascii (codes "RtrId") refl
key_utf8 key.RtrdIntrBkSttlmAmt = IsUtf8-are_ascii (codes "RtrdIntrBkSttlmAmt") refl
key_utf8 key.CxlStsId = IsUtf8-are_ascii (codes "CxlStsId") refl
key_utf8 key.Conf = IsUtf8-are_ascii (codes "Conf") refl

-- ---- members that are put

abbrev HaveTexts : Members → Type 0
HaveTexts no_members = Unit {0}
HaveTexts (member k d ms) = (IsUtf8 k × IsUtf8 (compact_text d)) × HaveTexts ms

texts_put : (k : List ℕ) (d : Data) (ms : Members) → IsUtf8 k → IsUtf8 (compact_text d) → HaveTexts ms → HaveTexts (put k d ms)
texts_put k d ms named here all =
    kept_put HaveTexts (λ name value. IsUtf8 name × IsUtf8 (compact_text value))
    (record { none = tt; both = λ l e ns h rest. (h, rest); parts = λ l e ns h. h; mixed = λ j l e f h there. (there.0, h.1) }) k d (named, here) ms all

comma_utf8 : (later : Bool) (rest : List ℕ) → IsUtf8 rest → IsUtf8 (cond later (44 ∷ []) [] ++ rest)
comma_utf8 true rest utf8 = IsUtf8-append (44 ∷ []) rest (IsUtf8-are_ascii (44 ∷ []) refl) utf8
comma_utf8 false rest utf8 = utf8

members_utf8 : (later : Bool) (ms : Members) → HaveTexts ms → IsUtf8 (members_text later ms)
members_utf8 later no_members all = IsUtf8-are_ascii (125 ∷ []) refl
members_utf8 later (member k d ms) all =
    comma_utf8 later (quoted k ++ 58 ∷ (compact_text d ++ members_text true ms))
    (IsUtf8-append (quoted k) (58 ∷ (compact_text d ++ members_text true ms)) (IsUtf8-quoted k all.0.0)
    (IsUtf8-append (58 ∷ []) (compact_text d ++ members_text true ms) (IsUtf8-are_ascii (58 ∷ []) refl)
    (IsUtf8-append (compact_text d) (members_text true ms) all.0.1 (members_utf8 true ms all.1))))

object_utf8 : (ms : Members) → HaveTexts ms → IsUtf8 (compact_text (object ms))
object_utf8 ms all = IsUtf8-append (123 ∷ []) (members_text false ms) (IsUtf8-are_ascii (123 ∷ []) refl) (members_utf8 false ms all)

-- ---- rows

abbrev AreTextRows : List Row → Type 0
AreTextRows [] = Unit {0}
AreTextRows ((k, None) ∷ rs) = AreTextRows rs
AreTextRows ((k, Some s) ∷ rs) = IsUtf8 s × AreTextRows rs

rows_text : (rs : List Row) (ms : Members) → AreTextRows rs → HaveTexts ms → HaveTexts (with_rows rs ms)
rows_text [] ms all h = h
rows_text ((k, None) ∷ rs) ms all h = rows_text rs ms all h
rows_text ((k, Some s) ∷ rs) ms all h = rows_text rs (put (key_text k) (string s) ms) all.1 (texts_put (key_text k) (string s) ms (key_utf8 k) (IsUtf8-quoted s all.0) h)

may_row : (k : Key) (o : Option (List ℕ)) (rs : List Row) → ((s : List ℕ) → o ≡ Some s → IsUtf8 s) → AreTextRows rs → AreTextRows ((k, o) ∷ rs)
may_row k None rs here all = all
may_row k (Some s) rs here all = (here s refl, all)

-- ---- the texts of a value

member_text : (k : List ℕ) (ms : Members) → MembersAreTexts ms → (v : Data) → get_member k ms ≡ Some v → AreTexts v
member_text k no_members all v is = cc
member_text k (member l e ms) all v is =
    (elim (slice_cmp nat_cmp k l) as (λ o. match_ordering o (get_member k ms) (Some e) (get_member k ms) ≡ Some v → AreTexts v) [
      | Less ↦ λ found. member_text k ms all.1 v found
      | Equal ↦ λ found. subst AreTexts (same_Some e v found) all.0
      | Greater ↦ λ found. member_text k ms all.1 v found
    ]) is

value_text : (k : List ℕ) (d : Data) → AreTexts d → (v : Data) → get k d ≡ Some v → AreTexts v
value_text k null all v is = cc
value_text k (boolean b) all v is = cc
value_text k (number n) all v is = cc
value_text k (string s) all v is = cc
value_text k (array ds) all v is = cc
value_text k (object ms) all v is = member_text k ms all v is

-- ---- ASCII

ascii_more : (x : ℕ) (xs : List ℕ) → x < 128 → IsAscii xs → IsAscii (x ∷ xs)
ascii_more x xs small all zero = small
ascii_more x xs small all (suc i) = all i

ascii_none : IsAscii []
ascii_none i = omega arith

capital_small : (c : ℕ) → is_ascii_alphanumeric c ≡ true → to_ascii_uppercase c < 128
capital_small c h = grind (arith, nat_tests)

upper_is : (c : ℕ) → is_ascii_uppercase c ≡ true → is_ascii_alphanumeric c ≡ true
upper_is c h = grind (arith, nat_tests)

digit_is : (c : ℕ) → is_ascii_digit c ≡ true → is_ascii_alphanumeric c ≡ true
digit_is c h = grind (arith, nat_tests)

capitals_ascii : (s : List ℕ) → list_all is_ascii_alphanumeric s ≡ true → IsAscii (capitals s)
capitals_ascii [] all = ascii_none
capitals_ascii (c ∷ cs) all =
    let parts = and_parts (is_ascii_alphanumeric c) (list_all is_ascii_alphanumeric cs) all in
    ascii_more (to_ascii_uppercase c) (capitals cs) (capital_small c parts.0) (capitals_ascii cs parts.1)

all_by : (p : ℕ → Bool) → ((c : ℕ) → p c ≡ true → is_ascii_alphanumeric c ≡ true) → (s : List ℕ) → list_all p s ≡ true → list_all is_ascii_alphanumeric s ≡ true
all_by p each [] all = refl
all_by p each (c ∷ cs) all = let parts = and_parts (p c) (list_all p cs) all in and_from _ _ (each c parts.0) (all_by p each cs parts.1)

shaped_alphanumeric : (s : List ℕ) → is_account_shaped s ≡ true → list_all is_ascii_alphanumeric s ≡ true
shaped_alphanumeric s h =
    let tail : ((nat_le 5 (length s) && nat_le (length s) 34 && list_all is_ascii_uppercase (take 2 s) && list_all is_ascii_digit (take 2 (drop 2 s))) ≡ true) × (list_all is_ascii_alphanumeric (drop 4 s) ≡ true) = and_parts _ _ h in
    let check : ((nat_le 5 (length s) && nat_le (length s) 34 && list_all is_ascii_uppercase (take 2 s)) ≡ true) × (list_all is_ascii_digit (take 2 (drop 2 s)) ≡ true) = and_parts _ _ tail.0 in
    let country : ((nat_le 5 (length s) && nat_le (length s) 34) ≡ true) × (list_all is_ascii_uppercase (take 2 s) ≡ true) = and_parts _ _ check.0 in
    let back : list_all is_ascii_alphanumeric (drop 2 s) ≡ true =
    ap (list_all is_ascii_alphanumeric) (sym (take-append-drop 2 (drop 2 s)))
    ∙ list_all-append is_ascii_alphanumeric (take 2 (drop 2 s)) (drop 2 (drop 2 s))
    ∙ and_from _ _ (all_by is_ascii_digit digit_is (take 2 (drop 2 s)) check.1) (ap (list_all is_ascii_alphanumeric) (drop-drop 2 2 s) ∙ tail.1) in
    ap (list_all is_ascii_alphanumeric) (sym (take-append-drop 2 s))
    ∙ list_all-append is_ascii_alphanumeric (take 2 s) (drop 2 s)
    ∙ and_from _ _ (all_by is_ascii_uppercase upper_is (take 2 s) country.1) back

-- ---- elements

id_utf8 : (s t : List ℕ) → written_identification s ≡ Some t → IsUtf8 s → IsUtf8 t
unfolding written_identification
id_utf8 s t e utf8 = subst IsUtf8 (read_parts (is_identification s) s t e).1 utf8

stamp_utf8 : (s t : List ℕ) → written_stamp s ≡ Some t → IsUtf8 s → IsUtf8 t
unfolding written_stamp
stamp_utf8 s t e utf8 = subst IsUtf8 (read_parts (is_short_text s) s t e).1 utf8

code_utf8 : (s t : List ℕ) → written_code s ≡ Some t → IsUtf8 s → IsUtf8 t
unfolding written_code
code_utf8 s t e utf8 = subst IsUtf8 (read_parts (is_code s) s t e).1 utf8

day_utf8 : (s t : List ℕ) → written_day s ≡ Some t → IsUtf8 s → IsUtf8 t
unfolding written_day
day_utf8 s t e utf8 = subst IsUtf8 (read_parts (is_day s) s t e).1 utf8

free_utf8 : (most : ℕ) (s t : List ℕ) → where_read (has_characters most s) s ≡ Some t → IsUtf8 s → IsUtf8 t
free_utf8 most s t e utf8 = subst IsUtf8 (read_parts (has_characters most s) s t e).1 utf8

full_utf8 : (s : List ℕ) → IsUtf8 s → IsUtf8 (full_bic s)
full_utf8 s utf8 = elim (length s == 8) as (λ b. IsUtf8 (cond b (s ++ codes "XXX") s)) [
  | true ↦ IsUtf8-append s (codes "XXX") utf8 (IsUtf8-are_ascii (codes "XXX") refl)
  | false ↦ utf8
]

bic_utf8 : (s t : List ℕ) → written_bic s ≡ Some t → IsUtf8 s → IsUtf8 t
unfolding written_bic
bic_utf8 s t e utf8 = subst IsUtf8 (read_parts (is_bic s) (full_bic s) t e).1 (full_utf8 s utf8)

iban_utf8 : (s t : List ℕ) → written_iban s ≡ Some t → IsUtf8 t
unfolding written_iban
iban_utf8 s t e =
    let parts : (is_iban s ≡ true) × (capitals s ≡ t) = read_parts (is_iban s) (capitals s) t e in
    let shaped = and_parts _ _ parts.0 in
    subst IsUtf8 parts.1 (IsUtf8-from_ascii (capitals s) (capitals_ascii s (shaped_alphanumeric s shaped.0)))

low_cents : (n : ℕ) → n ≤ 99999999999 → n / 100 < 2 ^ 64
low_cents n most = omega (arith, most)

tens : (n : ℕ) → 48 + n % 100 / 10 < 128
tens n = omega arith

ones : (n : ℕ) → 48 + n % 10 < 128
ones n = omega arith

amount_utf8 : (n : ℕ) → n ≤ 99999999999 → IsUtf8 (amount_text n)
unfolding amount_text
amount_utf8 n most =
    IsUtf8-append (decimal (n / 100)) (46 ∷ (48 + n % 100 / 10) ∷ (48 + n % 10) ∷ []) (IsUtf8-from_ascii (decimal (n / 100)) (IsAscii-decimal (n / 100) (low_cents n most)))
    (IsUtf8-from_ascii (46 ∷ (48 + n % 100 / 10) ∷ (48 + n % 10) ∷ [])
    (ascii_more 46 ((48 + n % 100 / 10) ∷ (48 + n % 10) ∷ []) (omega arith) (ascii_more (48 + n % 100 / 10) ((48 + n % 10) ∷ []) (tens n) (ascii_more (48 + n % 10) [] (ones n) ascii_none))))

-- ---- what is held of a value whose strings are texts

module _ (amounts : (s : List ℕ) (n : ℕ) → cents_of s ≡ Some n → n ≤ 99999999999) (reasons : (s : List ℕ) (r : Reason) → reason_of s ≡ Some r → reason_text r ≡ s) where
  module _ (d : Data) (texts : AreTexts d) where
    found_utf8 : {X : Type 0} (reads : List ℕ → Option X) (k : Key) (x : X) (h : Holds reads k d x) → IsUtf8 h.0
    found_utf8 reads k x h = value_text (key_text k) d texts (string h.0) h.1

    id : (k : Key) (x : List ℕ) → Holds written_identification k d x → IsUtf8 x
    id k x h = id_utf8 h.0 x h.2 (found_utf8 written_identification k x h)

    stamp : (k : Key) (x : List ℕ) → Holds written_stamp k d x → IsUtf8 x
    stamp k x h = stamp_utf8 h.0 x h.2 (found_utf8 written_stamp k x h)

    code : (k : Key) (x : List ℕ) → Holds written_code k d x → IsUtf8 x
    code k x h = code_utf8 h.0 x h.2 (found_utf8 written_code k x h)

    day : (k : Key) (x : List ℕ) → Holds written_day k d x → IsUtf8 x
    day k x h = day_utf8 h.0 x h.2 (found_utf8 written_day k x h)

    bic : (k : Key) (x : List ℕ) → Holds written_bic k d x → IsUtf8 x
    bic k x h = bic_utf8 h.0 x h.2 (found_utf8 written_bic k x h)

    iban : (k : Key) (x : List ℕ) → Holds written_iban k d x → IsUtf8 x
    iban k x h = iban_utf8 h.0 x h.2

    free : (most : ℕ) (k : Key) (x : List ℕ) → Holds (λ s. where_read (has_characters most s) s) k d x → IsUtf8 x
    free most k x h = free_utf8 most h.0 x h.2 (found_utf8 (λ s. where_read (has_characters most s) s) k x h)

    amount : (k : Key) (n : ℕ) → Holds cents_of k d n → IsUtf8 (amount_text n)
    amount k n h = amount_utf8 n (amounts h.0 n h.2)

    reason : (k : Key) (r : Reason) → Holds reason_of k d r → IsUtf8 (reason_text r)
    reason k r h = subst IsUtf8 (sym (reasons h.0 r h.2)) (found_utf8 reason_of k r h)

    may : (reads : List ℕ → Option (List ℕ)) → ((k : Key) (x : List ℕ) → Holds reads k d x → IsUtf8 x) → (k : Key) (o : Option (List ℕ)) (rs : List Row) → MayHold reads k d o → AreTextRows rs → AreTextRows ((k, o) ∷ rs)
    may reads each k None rs h all = all
    may reads each k (Some x) rs h all = (each k x h, all)

    may_reason : (k : Key) (o : Option Reason) (rs : List Row) → MayHold reason_of k d o → AreTextRows rs → AreTextRows ((k, option_map reason_text o) ∷ rs)
    may_reason k None rs h all = all
    may_reason k (Some r) rs h all = (reason k r h, all)

    head_text : (m : Head) → HoldsHead d m → AreTextRows (head_rows m)
    head_text m h = (
      id key.MsgNmId m.message_name h.message_name,
      (
        id key.MsgId m.message_id h.message_id,
        (
          stamp key.CreDtTm m.creation_time h.creation_time,
          (bic key.InstgAgt m.instructing_agent h.instructing_agent, may written_bic bic key.InstdAgt m.instructed_agent [] h.instructed_agent tt),
        ),
      ),
    )

    original_text : (m : Original) (rs : List Row) → HoldsOriginal d m → AreTextRows rs → AreTextRows (original_rows m ++ rs)
    original_text m rs h all = (
      id key.OrgnlMsgId m.message_id h.message_id,
      (
        id key.OrgnlMsgNmId m.message_name h.message_name,
        may written_identification id key.OrgnlEndToEndId m.end_to_end_id ((key.OrgnlTxId, Some m.transaction_id) ∷ rs) h.end_to_end_id (id key.OrgnlTxId m.transaction_id h.transaction_id, all),
      ),
    )

    credit_transfer_text : (m : CreditTransfer) → HoldsCreditTransfer d m → AreTextRows (credit_transfer_rows m)
    credit_transfer_text m h =
        let last : List Row = (key.Dbtr, Some m.debtor) ∷ (key.DbtrAcct, Some m.debtor_account) ∷ (key.DbtrAgt, Some m.debtor_agent) ∷ (key.CdtrAgt, Some m.creditor_agent) ∷ (key.Cdtr, Some m.creditor) ∷ (key.CdtrAcct, Some m.creditor_account) ∷ (key.Ustrd, m.remittance) ∷ [] in
        let middle : List Row = (key.EndToEndId, Some m.end_to_end_id) ∷ (key.TxId, Some m.transaction_id) ∷ (key.IntrBkSttlmAmt, Some (amount_text m.settlement_amount)) ∷ (key.Ccy, Some m.currency) ∷ (key.ChrgBr, Some m.charge_bearer) ∷ (key.AccptncDtTm, m.acceptance_time) ∷ last in
        let last_is : AreTextRows last = (
          free 70 key.Dbtr m.debtor h.debtor,
          (
            iban key.DbtrAcct m.debtor_account h.debtor_account,
            (
              bic key.DbtrAgt m.debtor_agent h.debtor_agent,
              (
                bic key.CdtrAgt m.creditor_agent h.creditor_agent,
                (free 70 key.Cdtr m.creditor h.creditor, (iban key.CdtrAcct m.creditor_account h.creditor_account, may (λ s. where_read (has_characters 140 s) s) (free 140) key.Ustrd m.remittance [] h.remittance tt)),
              ),
            ),
          ),
        ) in
        let middle_is : AreTextRows middle = (
          id key.EndToEndId m.end_to_end_id h.end_to_end_id,
          (
            id key.TxId m.transaction_id h.transaction_id,
            (
              amount key.IntrBkSttlmAmt m.settlement_amount h.settlement_amount,
              (code key.Ccy m.currency h.currency, (code key.ChrgBr m.charge_bearer h.charge_bearer, may written_stamp stamp key.AccptncDtTm m.acceptance_time last h.acceptance_time last_is)),
            ),
          ),
        ) in (
          day key.IntrBkSttlmDt m.settlement_date h.settlement_date,
          (
            code key.SvcLvl m.service_level h.service_level,
            (
              code key.LclInstrm m.local_instrument h.local_instrument,
              may written_identification id key.InstrId m.instruction_id middle h.instruction_id middle_is,
            ),
          ),
        )

    status_report_text : (m : StatusReport) → HoldsStatusReport d m → AreTextRows (status_report_rows m)
    status_report_text m h =
        (code key.TxSts m.status h.status, may_reason key.Rsn m.reason ((key.DbtrAgt, Some m.debtor_agent) ∷ []) h.reason (bic key.DbtrAgt m.debtor_agent h.debtor_agent, tt))

    status_request_text : (m : StatusRequest) → HoldsStatusRequest d m → AreTextRows (status_request_rows m)
    status_request_text m h =
        may written_identification id key.OrgnlCxlId m.cancellation_id ((key.DbtrAgt, Some m.debtor_agent) ∷ []) h.cancellation_id (bic key.DbtrAgt m.debtor_agent h.debtor_agent, tt)

    transaction_text : (m : RecallTx) → HoldsTransaction d m → AreTextRows (transaction_rows m)
    transaction_text m h =
        let last : List Row = (key.Rsn, Some (reason_text m.reason)) ∷ (key.DbtrAgt, Some m.debtor_agent) ∷ [] in (
          id key.CxlId m.cancellation_id h.cancellation_id,
          original_text m.original ((key.OrgnlIntrBkSttlmAmt, Some (amount_text m.original_amount)) ∷ (key.Ccy, Some m.currency) ∷ (key.OrgnlIntrBkSttlmDt, m.original_settlement_date) ∷ last) h.original (
            amount key.OrgnlIntrBkSttlmAmt m.original_amount h.original_amount,
            (
              code key.Ccy m.currency h.currency,
              may written_day day key.OrgnlIntrBkSttlmDt m.original_settlement_date last h.original_settlement_date (reason key.Rsn m.reason h.reason, (bic key.DbtrAgt m.debtor_agent h.debtor_agent, tt)),
            ),
          ),
        )

    payment_return_text : (m : PaymentReturn) → HoldsPaymentReturn d m → AreTextRows (payment_return_rows m)
    payment_return_text m h = (
      id key.RtrId m.return_id h.return_id,
      (
        id key.OrgnlCxlId m.cancellation_id h.cancellation_id,
        original_text m.original ((key.OrgnlIntrBkSttlmAmt, Some (amount_text m.original_amount)) ∷ (key.RtrdIntrBkSttlmAmt, Some (amount_text m.returned_amount)) ∷ (key.Ccy, Some m.currency) ∷ (key.IntrBkSttlmDt, Some m.settlement_date) ∷ (key.Rsn, Some (reason_text m.reason)) ∷ (key.DbtrAgt, Some m.debtor_agent) ∷ []) h.original (
          amount key.OrgnlIntrBkSttlmAmt m.original_amount h.original_amount,
          (
            amount key.RtrdIntrBkSttlmAmt m.returned_amount h.returned_amount,
            (
              code key.Ccy m.currency h.currency,
              (day key.IntrBkSttlmDt m.settlement_date h.settlement_date, (reason key.Rsn m.reason h.reason, (bic key.DbtrAgt m.debtor_agent h.debtor_agent, tt))),
            ),
          ),
        ),
      ),
    )

    resolution_text : (m : Resolution) → HoldsResolution d m → AreTextRows (resolution_rows m)
    resolution_text m h = (
      id key.CxlStsId m.resolution_id h.resolution_id,
      (
        id key.OrgnlCxlId m.cancellation_id h.cancellation_id,
        original_text m.original ((key.Conf, Some m.confirmation) ∷ (key.Rsn, Some (reason_text m.reason)) ∷ (key.DbtrAgt, Some m.debtor_agent) ∷ []) h.original
            (code key.Conf m.confirmation h.confirmation, (reason key.Rsn m.reason h.reason, (bic key.DbtrAgt m.debtor_agent h.debtor_agent, tt))),
      ),
    )

    with_head_text : (m : Head) → HoldsHead d m → HaveTexts (with_head m no_members)
    with_head_text m h = rows_text (head_rows m) no_members (head_text m h) tt

    with_original_text : (m : Original) (ms : Members) → HoldsOriginal d m → HaveTexts ms → HaveTexts (with_original m ms)
    with_original_text m ms h all = rows_text (original_rows m) ms (subst AreTextRows (append-nil (original_rows m)) (original_text m [] h tt)) all

  -- ---- the transactions of a list

  objects_utf8 : (later : Bool) (ds : Items) (txs : List RecallTx) → ItemsAreTexts ds → AreTransactions (items_list ds) txs → IsUtf8 (items_text later (transaction_objects txs))
  objects_utf8 later no_items [] texts are = IsUtf8-are_ascii (93 ∷ []) refl
  objects_utf8 later no_items (tx ∷ txs) texts are = absurd are
  objects_utf8 later (item d ds) [] texts are = absurd are
  objects_utf8 later (item d ds) (tx ∷ txs) texts are =
      comma_utf8 later (compact_text (object (with_rows (transaction_rows tx) no_members)) ++ items_text true (transaction_objects txs))
      (IsUtf8-append (compact_text (object (with_rows (transaction_rows tx) no_members))) (items_text true (transaction_objects txs))
      (object_utf8 (with_rows (transaction_rows tx) no_members) (rows_text (transaction_rows tx) no_members (transaction_text d texts.0 tx are.0.elements) tt))
      (objects_utf8 true ds txs texts.1 are.1))

  list_text : (txs : List RecallTx) (ms : Members) → IsUtf8 (compact_text (array (transaction_objects txs))) → HaveTexts ms → HaveTexts (with_list txs ms)
  list_text txs ms utf8 all = texts_put (key_text key.TxInf) (array (transaction_objects txs)) ms (key_utf8 key.TxInf) utf8 all

  -- one transaction beside the head, or a list of them
  transactions_text : (d : Data) → AreTexts d → (txs : List RecallTx) (ms : Members) → (ds : Items) → ItemsAreTexts ds → AreTransactions (items_list ds) txs → HaveTexts ms → HaveTexts (with_transactions txs ms)
  transactions_text d texts [] ms ds items are all = list_text [] ms (IsUtf8-are_ascii (91 ∷ 93 ∷ []) refl) all
  transactions_text d texts (tx ∷ []) ms no_items items are all = absurd are
  transactions_text d texts (tx ∷ []) ms (item e es) items are all = rows_text (transaction_rows tx) ms (transaction_text e items.0 tx are.0.elements) all
  transactions_text d texts (tx ∷ (other ∷ more)) ms ds items are all =
      list_text (tx ∷ (other ∷ more)) ms
      (IsUtf8-append (91 ∷ []) (items_text false (transaction_objects (tx ∷ (other ∷ more)))) (IsUtf8-are_ascii (91 ∷ []) refl) (objects_utf8 false ds (tx ∷ (other ∷ more)) items are)) all

  recalls_text : (d : Data) → AreTexts d → (m : Recalls) → HoldsRecalls d m → HaveTexts (with_transactions m.txs (with_head m.head no_members))
  recalls_text d texts m (inl one) =
      subst (λ (txs : List RecallTx). HaveTexts (with_transactions txs (with_head m.head no_members))) (sym one.only)
      (rows_text (transaction_rows one.one) (with_head m.head no_members) (transaction_text d texts one.one one.holds) (with_head_text d texts m.head one.head))
  recalls_text d texts m (inr list) =
      transactions_text d texts m.txs (with_head m.head no_members) list.items (value_text (key_text key.TxInf) d texts (array list.items) list.list) list.each (with_head_text d texts m.head list.head)

  elements_text : (d : Data) → AreTexts d → (m : Draft) → HoldsElements d m → HaveTexts (with_elements m no_members)
  elements_text d texts (draft.CreditTransfer m) h = rows_text (credit_transfer_rows m) (with_head m.head no_members) (credit_transfer_text d texts m h) (with_head_text d texts m.head h.head)
  elements_text d texts (draft.StatusReport m) h =
      rows_text (status_report_rows m) (with_original m.original (with_head m.head no_members)) (status_report_text d texts m h)
      (with_original_text d texts m.original (with_head m.head no_members) h.original (with_head_text d texts m.head h.head))
  elements_text d texts (draft.StatusRequest m) h =
      rows_text (status_request_rows m) (with_original m.original (with_head m.head no_members)) (status_request_text d texts m h)
      (with_original_text d texts m.original (with_head m.head no_members) h.original (with_head_text d texts m.head h.head))
  elements_text d texts (draft.CancellationRequest m) h = recalls_text d texts m h
  elements_text d texts (draft.PaymentReturn m) h = rows_text (payment_return_rows m) (with_head m.head no_members) (payment_return_text d texts m h) (with_head_text d texts m.head h.head)
  elements_text d texts (draft.Resolution m) h = rows_text (resolution_rows m) (with_head m.head no_members) (resolution_text d texts m h) (with_head_text d texts m.head h.head)

  pub written_utf8 : (d : Data) → AreTexts d → (m : Draft) → HoldsElements d m → IsUtf8 (written_text m)
  unfolding written_text
  written_utf8 d texts m h = object_utf8 (with_elements m no_members) (elements_text d texts m h)
