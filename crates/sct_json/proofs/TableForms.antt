-- What is read by each key table is held by the object, and what it holds is read.
use Rattle.std.proofs.Common.{◌≡◌, ◌≢◌, ◌∙◌, ap, refl, ℕ, Bool, true, false, cond, List, [], ◌∷◌, Option, Some, None, Result, Ok, Err}
use Rattle.std.specs.Prelude.{◌&&◌, find, not, ok_or, ⊤}
use Rattle.std.specs.List.{list_all}
use Rattle.std.proofs.lemmas.Bool.{and_parts}
use Rattle.serde_json.specs.Data.{Data, null, boolean, number, string, array, object, Members}
use Rattle.serde_json.specs.Find.{get, as_object}
use Rattle.sct_element.specs.declared.faults.ElementFault.{ElementFault}
use Rattle.sct_element.specs.declared.faults.ElementFault.TheVariants as element
use Rattle.sct_element.specs.Account.{written_iban}
use Rattle.sct_element.specs.Bank.{written_bic}
use Rattle.sct_element.specs.Date.{written_day}
use Rattle.sct_element.specs.Identification.{written_identification, written_stamp, written_code}
use Rattle.sct_element.specs.Money.{cents_of}
use Rattle.sct_reason.specs.Reasons.{reason_of}
use Rattle.sct_message.specs.declared.draft.Head.{Head}
use Rattle.sct_message.specs.declared.draft.Original.{Original}
use Rattle.sct_message.specs.declared.draft.CreditTransfer.{CreditTransfer}
use Rattle.sct_message.specs.declared.draft.StatusReport.{StatusReport}
use Rattle.sct_message.specs.declared.draft.StatusRequest.{StatusRequest}
use Rattle.sct_message.specs.declared.draft.RecallTx.{RecallTx}
use Rattle.sct_message.specs.declared.draft.PaymentReturn.{PaymentReturn}
use Rattle.sct_message.specs.declared.draft.Resolution.{Resolution}
use Rattle.sct_json.specs.declared.keys.Key.{Key}
use Rattle.sct_json.specs.declared.keys.Key.TheVariants as key
use Rattle.sct_json.specs.declared.faults.JsonFault.{JsonFault}
use Rattle.sct_json.specs.declared.faults.JsonFault.TheVariants as fault
use Rattle.sct_json.specs.Keys.{key_text}
use Rattle.sct_json.specs.Reading.{◌>>=◌, name_of, remittance_of, required_as, optional_as, required, optional, head_in, original_in, credit_transfer_in, status_report_in, status_request_in, transaction_in, payment_return_in, resolution_in, passes_unless}
use Rattle.sct_json.specs.Form.{Holds, MayHold, HoldsHead, HoldsOriginal, HoldsCreditTransfer, HoldsStatusReport, HoldsStatusRequest, HoldsTransaction, HoldsPaymentReturn, HoldsResolution}

-- ---- one step after another

pub bind_then : {X Y P : Type 0} (r : Result X JsonFault) (f : X → Result Y JsonFault) (y : Y) → (r >>= f) ≡ Ok y → ((x : X) → r ≡ Ok x → f x ≡ Ok y → P) → P
bind_then (Ok x) f y e next = next x refl e
bind_then (Err fault) f y e next = cc

pub bind_from : {X Y : Type 0} (r : Result X JsonFault) (f : X → Result Y JsonFault) (x : X) (y : Y) → r ≡ Ok x → f x ≡ Ok y → (r >>= f) ≡ Ok y
bind_from r f x y e g = ap (λ (s : Result _ JsonFault). s >>= f) e ∙ g

-- ---- one key

pub ok_or_ok : {X : Type 0} (o : Option X) (e : JsonFault) (x : X) → ok_or o e ≡ Ok x → o ≡ Some x
ok_or_ok None e x h = cc
ok_or_ok (Some y) e x h = cc

required_at : {X : Type 0} (reads : List ℕ → Option X) (e : ElementFault) (k : Key) (o : Option Data) (x : X) → required_as reads e k o ≡ Ok x
    → (s : List ℕ) × (o ≡ Some (string s)) × (reads s ≡ Some x)
required_at reads e k None x h = cc
required_at reads e k (Some null) x h = cc
required_at reads e k (Some (boolean b)) x h = cc
required_at reads e k (Some (number n)) x h = cc
required_at reads e k (Some (string s)) x h = (s, refl, ok_or_ok (reads s) _ x h)
required_at reads e k (Some (array ds)) x h = cc
required_at reads e k (Some (object ms)) x h = cc

required_holds : {X : Type 0} (reads : List ℕ → Option X) (e : ElementFault) (k : Key) (d : Data) (x : X) → required reads e k d ≡ Ok x → Holds reads k d x
unfolding required
required_holds reads e k d x h = required_at reads e k (get (key_text k) d) x h

holds_required : {X : Type 0} (reads : List ℕ → Option X) (e : ElementFault) (k : Key) (d : Data) (x : X) → Holds reads k d x → required reads e k d ≡ Ok x
unfolding required
holds_required reads e k d x h = ap (required_as reads e k) h.1 ∙ ap (λ (o : Option _). ok_or o (fault.Element k e)) h.2

some_ok : {X : Type 0} (o : Option X) (e : JsonFault) (x : X) → (ok_or o e >>= λ y. Ok (Some y)) ≡ Ok (Some x) → o ≡ Some x
some_ok None e x h = cc
some_ok (Some y) e x h = cc

never_none : {X : Type 0} (o : Option X) (e : JsonFault) → (ok_or o e >>= λ y. Ok (Some y)) ≢ Ok None
never_none None e h = cc
never_none (Some y) e h = cc

abbrev May : {X : Type 0} → (List ℕ → Option X) → Option Data → Option X → Type 0
May reads o None = o ≡ None
May reads o (Some x) = (s : List ℕ) × (o ≡ Some (string s)) × (reads s ≡ Some x)

optional_at : {X : Type 0} (reads : List ℕ → Option X) (e : ElementFault) (k : Key) (o : Option Data) (x : Option X) → optional_as reads e k o ≡ Ok x → May reads o x
optional_at reads e k None None h = refl
optional_at reads e k None (Some y) h = cc
optional_at reads e k (Some null) x h = cc
optional_at reads e k (Some (boolean b)) x h = cc
optional_at reads e k (Some (number n)) x h = cc
optional_at reads e k (Some (string s)) None h = absurd (never_none (reads s) _ h)
optional_at reads e k (Some (string s)) (Some y) h = (s, refl, some_ok (reads s) _ y h)
optional_at reads e k (Some (array ds)) x h = cc
optional_at reads e k (Some (object ms)) x h = cc

optional_holds : {X : Type 0} (reads : List ℕ → Option X) (e : ElementFault) (k : Key) (d : Data) (x : Option X) → optional reads e k d ≡ Ok x → MayHold reads k d x
unfolding optional
optional_holds reads e k d None h = optional_at reads e k (get (key_text k) d) None h
optional_holds reads e k d (Some x) h = optional_at reads e k (get (key_text k) d) (Some x) h

holds_optional : {X : Type 0} (reads : List ℕ → Option X) (e : ElementFault) (k : Key) (d : Data) (x : Option X) → MayHold reads k d x → optional reads e k d ≡ Ok x
unfolding optional
holds_optional reads e k d None h = ap (optional_as reads e k) h
holds_optional reads e k d (Some x) h = ap (optional_as reads e k) h.1 ∙ ap (λ (o : Option _). ok_or o (fault.Element k e) >>= λ y. Ok (Some y)) h.2

-- ---- the key tables

pub ok_same : {X : Type 0} (x y : X) → ◌≡◌ {A = Result X JsonFault} (Ok x) (Ok y) → x ≡ y
ok_same x y e = cc

pub ok_then : {X P : Type 0} (x y : X) → ◌≡◌ {A = Result X JsonFault} (Ok x) (Ok y) → (x ≡ y → P) → P
ok_then x y e next = next (ok_same x y e)

pub head_holds : (d : Data) (m : Head) → head_in d ≡ Ok m → HoldsHead d m
unfolding head_in
head_holds d m e0 =
    bind_then (required written_identification element.BadId key.MsgNmId d) _ _ e0 (λ x1 r1 e1.
    bind_then (required written_identification element.BadId key.MsgId d) _ _ e1 (λ x2 r2 e2.
    bind_then (required written_stamp element.BadStamp key.CreDtTm d) _ _ e2 (λ x3 r3 e3.
    bind_then (required written_bic element.BadBic key.InstgAgt d) _ _ e3 (λ x4 r4 e4.
    bind_then (optional written_bic element.BadBic key.InstdAgt d) _ _ e4 (λ x5 r5 e5.
    ok_then _ _ e5 (λ same. record {
      message_name = required_holds written_identification element.BadId key.MsgNmId d m.message_name (r1 ∙ ap (λ (m : Head). Ok m.message_name) same);
      message_id = required_holds written_identification element.BadId key.MsgId d m.message_id (r2 ∙ ap (λ (m : Head). Ok m.message_id) same);
      creation_time = required_holds written_stamp element.BadStamp key.CreDtTm d m.creation_time (r3 ∙ ap (λ (m : Head). Ok m.creation_time) same);
      instructing_agent = required_holds written_bic element.BadBic key.InstgAgt d m.instructing_agent (r4 ∙ ap (λ (m : Head). Ok m.instructing_agent) same);
      instructed_agent = optional_holds written_bic element.BadBic key.InstdAgt d m.instructed_agent (r5 ∙ ap (λ (m : Head). Ok m.instructed_agent) same);
    }))))))

pub holds_head : (d : Data) (m : Head) → HoldsHead d m → head_in d ≡ Ok m
unfolding head_in
holds_head d m h =
    bind_from _ _ _ _ (holds_required _ _ _ _ _ h.message_name) (
    bind_from _ _ _ _ (holds_required _ _ _ _ _ h.message_id) (
    bind_from _ _ _ _ (holds_required _ _ _ _ _ h.creation_time) (
    bind_from _ _ _ _ (holds_required _ _ _ _ _ h.instructing_agent) (
    bind_from _ _ _ _ (holds_optional _ _ _ _ _ h.instructed_agent) (
    refl)))))

original_holds : (d : Data) (m : Original) → original_in d ≡ Ok m → HoldsOriginal d m
unfolding original_in
original_holds d m e0 =
    bind_then (required written_identification element.BadId key.OrgnlMsgId d) _ _ e0 (λ x1 r1 e1.
    bind_then (required written_identification element.BadId key.OrgnlMsgNmId d) _ _ e1 (λ x2 r2 e2.
    bind_then (optional written_identification element.BadId key.OrgnlEndToEndId d) _ _ e2 (λ x3 r3 e3.
    bind_then (required written_identification element.BadId key.OrgnlTxId d) _ _ e3 (λ x4 r4 e4.
    ok_then _ _ e4 (λ same. record {
      message_id = required_holds written_identification element.BadId key.OrgnlMsgId d m.message_id (r1 ∙ ap (λ (m : Original). Ok m.message_id) same);
      message_name = required_holds written_identification element.BadId key.OrgnlMsgNmId d m.message_name (r2 ∙ ap (λ (m : Original). Ok m.message_name) same);
      end_to_end_id = optional_holds written_identification element.BadId key.OrgnlEndToEndId d m.end_to_end_id (r3 ∙ ap (λ (m : Original). Ok m.end_to_end_id) same);
      transaction_id = required_holds written_identification element.BadId key.OrgnlTxId d m.transaction_id (r4 ∙ ap (λ (m : Original). Ok m.transaction_id) same);
    })))))

holds_original : (d : Data) (m : Original) → HoldsOriginal d m → original_in d ≡ Ok m
unfolding original_in
holds_original d m h =
    bind_from _ _ _ _ (holds_required _ _ _ _ _ h.message_id) (
    bind_from _ _ _ _ (holds_required _ _ _ _ _ h.message_name) (
    bind_from _ _ _ _ (holds_optional _ _ _ _ _ h.end_to_end_id) (
    bind_from _ _ _ _ (holds_required _ _ _ _ _ h.transaction_id) (
    refl))))

pub credit_transfer_holds : (d : Data) (m : CreditTransfer) → credit_transfer_in d ≡ Ok m → HoldsCreditTransfer d m
unfolding credit_transfer_in
credit_transfer_holds d m e0 =
    bind_then (head_in d) _ _ e0 (λ x1 r1 e1.
    bind_then (required written_day element.BadDay key.IntrBkSttlmDt d) _ _ e1 (λ x2 r2 e2.
    bind_then (required written_code element.BadCode key.SvcLvl d) _ _ e2 (λ x3 r3 e3.
    bind_then (required written_code element.BadCode key.LclInstrm d) _ _ e3 (λ x4 r4 e4.
    bind_then (optional written_identification element.BadId key.InstrId d) _ _ e4 (λ x5 r5 e5.
    bind_then (required written_identification element.BadId key.EndToEndId d) _ _ e5 (λ x6 r6 e6.
    bind_then (required written_identification element.BadId key.TxId d) _ _ e6 (λ x7 r7 e7.
    bind_then (required cents_of element.BadAmount key.IntrBkSttlmAmt d) _ _ e7 (λ x8 r8 e8.
    bind_then (required written_code element.BadCode key.Ccy d) _ _ e8 (λ x9 r9 e9.
    bind_then (required written_code element.BadCode key.ChrgBr d) _ _ e9 (λ x10 r10 e10.
    bind_then (optional written_stamp element.BadStamp key.AccptncDtTm d) _ _ e10 (λ x11 r11 e11.
    bind_then (required name_of element.BadText key.Dbtr d) _ _ e11 (λ x12 r12 e12.
    bind_then (required written_iban element.BadIban key.DbtrAcct d) _ _ e12 (λ x13 r13 e13.
    bind_then (required written_bic element.BadBic key.DbtrAgt d) _ _ e13 (λ x14 r14 e14.
    bind_then (required written_bic element.BadBic key.CdtrAgt d) _ _ e14 (λ x15 r15 e15.
    bind_then (required name_of element.BadText key.Cdtr d) _ _ e15 (λ x16 r16 e16.
    bind_then (required written_iban element.BadIban key.CdtrAcct d) _ _ e16 (λ x17 r17 e17.
    bind_then (optional remittance_of element.BadText key.Ustrd d) _ _ e17 (λ x18 r18 e18.
    ok_then _ _ e18 (λ same. record {
      head = head_holds d _ (r1 ∙ ap (λ (m : CreditTransfer). Ok m.head) same);
      settlement_date = required_holds written_day element.BadDay key.IntrBkSttlmDt d m.settlement_date (r2 ∙ ap (λ (m : CreditTransfer). Ok m.settlement_date) same);
      service_level = required_holds written_code element.BadCode key.SvcLvl d m.service_level (r3 ∙ ap (λ (m : CreditTransfer). Ok m.service_level) same);
      local_instrument = required_holds written_code element.BadCode key.LclInstrm d m.local_instrument (r4 ∙ ap (λ (m : CreditTransfer). Ok m.local_instrument) same);
      instruction_id = optional_holds written_identification element.BadId key.InstrId d m.instruction_id (r5 ∙ ap (λ (m : CreditTransfer). Ok m.instruction_id) same);
      end_to_end_id = required_holds written_identification element.BadId key.EndToEndId d m.end_to_end_id (r6 ∙ ap (λ (m : CreditTransfer). Ok m.end_to_end_id) same);
      transaction_id = required_holds written_identification element.BadId key.TxId d m.transaction_id (r7 ∙ ap (λ (m : CreditTransfer). Ok m.transaction_id) same);
      settlement_amount = required_holds cents_of element.BadAmount key.IntrBkSttlmAmt d m.settlement_amount (r8 ∙ ap (λ (m : CreditTransfer). Ok m.settlement_amount) same);
      currency = required_holds written_code element.BadCode key.Ccy d m.currency (r9 ∙ ap (λ (m : CreditTransfer). Ok m.currency) same);
      charge_bearer = required_holds written_code element.BadCode key.ChrgBr d m.charge_bearer (r10 ∙ ap (λ (m : CreditTransfer). Ok m.charge_bearer) same);
      acceptance_time = optional_holds written_stamp element.BadStamp key.AccptncDtTm d m.acceptance_time (r11 ∙ ap (λ (m : CreditTransfer). Ok m.acceptance_time) same);
      debtor = required_holds name_of element.BadText key.Dbtr d m.debtor (r12 ∙ ap (λ (m : CreditTransfer). Ok m.debtor) same);
      debtor_account = required_holds written_iban element.BadIban key.DbtrAcct d m.debtor_account (r13 ∙ ap (λ (m : CreditTransfer). Ok m.debtor_account) same);
      debtor_agent = required_holds written_bic element.BadBic key.DbtrAgt d m.debtor_agent (r14 ∙ ap (λ (m : CreditTransfer). Ok m.debtor_agent) same);
      creditor_agent = required_holds written_bic element.BadBic key.CdtrAgt d m.creditor_agent (r15 ∙ ap (λ (m : CreditTransfer). Ok m.creditor_agent) same);
      creditor = required_holds name_of element.BadText key.Cdtr d m.creditor (r16 ∙ ap (λ (m : CreditTransfer). Ok m.creditor) same);
      creditor_account = required_holds written_iban element.BadIban key.CdtrAcct d m.creditor_account (r17 ∙ ap (λ (m : CreditTransfer). Ok m.creditor_account) same);
      remittance = optional_holds remittance_of element.BadText key.Ustrd d m.remittance (r18 ∙ ap (λ (m : CreditTransfer). Ok m.remittance) same);
    })))))))))))))))))))

pub holds_credit_transfer : (d : Data) (m : CreditTransfer) → HoldsCreditTransfer d m → credit_transfer_in d ≡ Ok m
unfolding credit_transfer_in
holds_credit_transfer d m h =
    bind_from _ _ _ _ (holds_head d _ h.head) (
    bind_from _ _ _ _ (holds_required _ _ _ _ _ h.settlement_date) (
    bind_from _ _ _ _ (holds_required _ _ _ _ _ h.service_level) (
    bind_from _ _ _ _ (holds_required _ _ _ _ _ h.local_instrument) (
    bind_from _ _ _ _ (holds_optional _ _ _ _ _ h.instruction_id) (
    bind_from _ _ _ _ (holds_required _ _ _ _ _ h.end_to_end_id) (
    bind_from _ _ _ _ (holds_required _ _ _ _ _ h.transaction_id) (
    bind_from _ _ _ _ (holds_required _ _ _ _ _ h.settlement_amount) (
    bind_from _ _ _ _ (holds_required _ _ _ _ _ h.currency) (
    bind_from _ _ _ _ (holds_required _ _ _ _ _ h.charge_bearer) (
    bind_from _ _ _ _ (holds_optional _ _ _ _ _ h.acceptance_time) (
    bind_from _ _ _ _ (holds_required _ _ _ _ _ h.debtor) (
    bind_from _ _ _ _ (holds_required _ _ _ _ _ h.debtor_account) (
    bind_from _ _ _ _ (holds_required _ _ _ _ _ h.debtor_agent) (
    bind_from _ _ _ _ (holds_required _ _ _ _ _ h.creditor_agent) (
    bind_from _ _ _ _ (holds_required _ _ _ _ _ h.creditor) (
    bind_from _ _ _ _ (holds_required _ _ _ _ _ h.creditor_account) (
    bind_from _ _ _ _ (holds_optional _ _ _ _ _ h.remittance) (
    refl))))))))))))))))))

pub status_report_holds : (d : Data) (m : StatusReport) → status_report_in d ≡ Ok m → HoldsStatusReport d m
unfolding status_report_in
status_report_holds d m e0 =
    bind_then (head_in d) _ _ e0 (λ x1 r1 e1.
    bind_then (original_in d) _ _ e1 (λ x2 r2 e2.
    bind_then (required written_code element.BadCode key.TxSts d) _ _ e2 (λ x3 r3 e3.
    bind_then (optional reason_of element.BadCode key.Rsn d) _ _ e3 (λ x4 r4 e4.
    bind_then (required written_bic element.BadBic key.DbtrAgt d) _ _ e4 (λ x5 r5 e5.
    ok_then _ _ e5 (λ same. record {
      head = head_holds d _ (r1 ∙ ap (λ (m : StatusReport). Ok m.head) same);
      original = original_holds d _ (r2 ∙ ap (λ (m : StatusReport). Ok m.original) same);
      status = required_holds written_code element.BadCode key.TxSts d m.status (r3 ∙ ap (λ (m : StatusReport). Ok m.status) same);
      reason = optional_holds reason_of element.BadCode key.Rsn d m.reason (r4 ∙ ap (λ (m : StatusReport). Ok m.reason) same);
      debtor_agent = required_holds written_bic element.BadBic key.DbtrAgt d m.debtor_agent (r5 ∙ ap (λ (m : StatusReport). Ok m.debtor_agent) same);
    }))))))

pub holds_status_report : (d : Data) (m : StatusReport) → HoldsStatusReport d m → status_report_in d ≡ Ok m
unfolding status_report_in
holds_status_report d m h =
    bind_from _ _ _ _ (holds_head d _ h.head) (
    bind_from _ _ _ _ (holds_original d _ h.original) (
    bind_from _ _ _ _ (holds_required _ _ _ _ _ h.status) (
    bind_from _ _ _ _ (holds_optional _ _ _ _ _ h.reason) (
    bind_from _ _ _ _ (holds_required _ _ _ _ _ h.debtor_agent) (
    refl)))))

pub status_request_holds : (d : Data) (m : StatusRequest) → status_request_in d ≡ Ok m → HoldsStatusRequest d m
unfolding status_request_in
status_request_holds d m e0 =
    bind_then (head_in d) _ _ e0 (λ x1 r1 e1.
    bind_then (original_in d) _ _ e1 (λ x2 r2 e2.
    bind_then (optional written_identification element.BadId key.OrgnlCxlId d) _ _ e2 (λ x3 r3 e3.
    bind_then (required written_bic element.BadBic key.DbtrAgt d) _ _ e3 (λ x4 r4 e4.
    ok_then _ _ e4 (λ same. record {
      head = head_holds d _ (r1 ∙ ap (λ (m : StatusRequest). Ok m.head) same);
      original = original_holds d _ (r2 ∙ ap (λ (m : StatusRequest). Ok m.original) same);
      cancellation_id = optional_holds written_identification element.BadId key.OrgnlCxlId d m.cancellation_id (r3 ∙ ap (λ (m : StatusRequest). Ok m.cancellation_id) same);
      debtor_agent = required_holds written_bic element.BadBic key.DbtrAgt d m.debtor_agent (r4 ∙ ap (λ (m : StatusRequest). Ok m.debtor_agent) same);
    })))))

pub holds_status_request : (d : Data) (m : StatusRequest) → HoldsStatusRequest d m → status_request_in d ≡ Ok m
unfolding status_request_in
holds_status_request d m h =
    bind_from _ _ _ _ (holds_head d _ h.head) (
    bind_from _ _ _ _ (holds_original d _ h.original) (
    bind_from _ _ _ _ (holds_optional _ _ _ _ _ h.cancellation_id) (
    bind_from _ _ _ _ (holds_required _ _ _ _ _ h.debtor_agent) (
    refl))))

pub transaction_holds : (d : Data) (m : RecallTx) → transaction_in d ≡ Ok m → HoldsTransaction d m
unfolding transaction_in
transaction_holds d m e0 =
    bind_then (required written_identification element.BadId key.CxlId d) _ _ e0 (λ x1 r1 e1.
    bind_then (original_in d) _ _ e1 (λ x2 r2 e2.
    bind_then (required cents_of element.BadAmount key.OrgnlIntrBkSttlmAmt d) _ _ e2 (λ x3 r3 e3.
    bind_then (required written_code element.BadCode key.Ccy d) _ _ e3 (λ x4 r4 e4.
    bind_then (optional written_day element.BadDay key.OrgnlIntrBkSttlmDt d) _ _ e4 (λ x5 r5 e5.
    bind_then (required reason_of element.BadCode key.Rsn d) _ _ e5 (λ x6 r6 e6.
    bind_then (required written_bic element.BadBic key.DbtrAgt d) _ _ e6 (λ x7 r7 e7.
    ok_then _ _ e7 (λ same. record {
      cancellation_id = required_holds written_identification element.BadId key.CxlId d m.cancellation_id (r1 ∙ ap (λ (m : RecallTx). Ok m.cancellation_id) same);
      original = original_holds d _ (r2 ∙ ap (λ (m : RecallTx). Ok m.original) same);
      original_amount = required_holds cents_of element.BadAmount key.OrgnlIntrBkSttlmAmt d m.original_amount (r3 ∙ ap (λ (m : RecallTx). Ok m.original_amount) same);
      currency = required_holds written_code element.BadCode key.Ccy d m.currency (r4 ∙ ap (λ (m : RecallTx). Ok m.currency) same);
      original_settlement_date = optional_holds written_day element.BadDay key.OrgnlIntrBkSttlmDt d m.original_settlement_date (r5 ∙ ap (λ (m : RecallTx). Ok m.original_settlement_date) same);
      reason = required_holds reason_of element.BadCode key.Rsn d m.reason (r6 ∙ ap (λ (m : RecallTx). Ok m.reason) same);
      debtor_agent = required_holds written_bic element.BadBic key.DbtrAgt d m.debtor_agent (r7 ∙ ap (λ (m : RecallTx). Ok m.debtor_agent) same);
    }))))))))

pub holds_transaction : (d : Data) (m : RecallTx) → HoldsTransaction d m → transaction_in d ≡ Ok m
unfolding transaction_in
holds_transaction d m h =
    bind_from _ _ _ _ (holds_required _ _ _ _ _ h.cancellation_id) (
    bind_from _ _ _ _ (holds_original d _ h.original) (
    bind_from _ _ _ _ (holds_required _ _ _ _ _ h.original_amount) (
    bind_from _ _ _ _ (holds_required _ _ _ _ _ h.currency) (
    bind_from _ _ _ _ (holds_optional _ _ _ _ _ h.original_settlement_date) (
    bind_from _ _ _ _ (holds_required _ _ _ _ _ h.reason) (
    bind_from _ _ _ _ (holds_required _ _ _ _ _ h.debtor_agent) (
    refl)))))))

pub payment_return_holds : (d : Data) (m : PaymentReturn) → payment_return_in d ≡ Ok m → HoldsPaymentReturn d m
unfolding payment_return_in
payment_return_holds d m e0 =
    bind_then (head_in d) _ _ e0 (λ x1 r1 e1.
    bind_then (required written_identification element.BadId key.RtrId d) _ _ e1 (λ x2 r2 e2.
    bind_then (required written_identification element.BadId key.OrgnlCxlId d) _ _ e2 (λ x3 r3 e3.
    bind_then (original_in d) _ _ e3 (λ x4 r4 e4.
    bind_then (required cents_of element.BadAmount key.OrgnlIntrBkSttlmAmt d) _ _ e4 (λ x5 r5 e5.
    bind_then (required cents_of element.BadAmount key.RtrdIntrBkSttlmAmt d) _ _ e5 (λ x6 r6 e6.
    bind_then (required written_code element.BadCode key.Ccy d) _ _ e6 (λ x7 r7 e7.
    bind_then (required written_day element.BadDay key.IntrBkSttlmDt d) _ _ e7 (λ x8 r8 e8.
    bind_then (required reason_of element.BadCode key.Rsn d) _ _ e8 (λ x9 r9 e9.
    bind_then (required written_bic element.BadBic key.DbtrAgt d) _ _ e9 (λ x10 r10 e10.
    ok_then _ _ e10 (λ same. record {
      head = head_holds d _ (r1 ∙ ap (λ (m : PaymentReturn). Ok m.head) same);
      return_id = required_holds written_identification element.BadId key.RtrId d m.return_id (r2 ∙ ap (λ (m : PaymentReturn). Ok m.return_id) same);
      cancellation_id = required_holds written_identification element.BadId key.OrgnlCxlId d m.cancellation_id (r3 ∙ ap (λ (m : PaymentReturn). Ok m.cancellation_id) same);
      original = original_holds d _ (r4 ∙ ap (λ (m : PaymentReturn). Ok m.original) same);
      original_amount = required_holds cents_of element.BadAmount key.OrgnlIntrBkSttlmAmt d m.original_amount (r5 ∙ ap (λ (m : PaymentReturn). Ok m.original_amount) same);
      returned_amount = required_holds cents_of element.BadAmount key.RtrdIntrBkSttlmAmt d m.returned_amount (r6 ∙ ap (λ (m : PaymentReturn). Ok m.returned_amount) same);
      currency = required_holds written_code element.BadCode key.Ccy d m.currency (r7 ∙ ap (λ (m : PaymentReturn). Ok m.currency) same);
      settlement_date = required_holds written_day element.BadDay key.IntrBkSttlmDt d m.settlement_date (r8 ∙ ap (λ (m : PaymentReturn). Ok m.settlement_date) same);
      reason = required_holds reason_of element.BadCode key.Rsn d m.reason (r9 ∙ ap (λ (m : PaymentReturn). Ok m.reason) same);
      debtor_agent = required_holds written_bic element.BadBic key.DbtrAgt d m.debtor_agent (r10 ∙ ap (λ (m : PaymentReturn). Ok m.debtor_agent) same);
    })))))))))))

pub holds_payment_return : (d : Data) (m : PaymentReturn) → HoldsPaymentReturn d m → payment_return_in d ≡ Ok m
unfolding payment_return_in
holds_payment_return d m h =
    bind_from _ _ _ _ (holds_head d _ h.head) (
    bind_from _ _ _ _ (holds_required _ _ _ _ _ h.return_id) (
    bind_from _ _ _ _ (holds_required _ _ _ _ _ h.cancellation_id) (
    bind_from _ _ _ _ (holds_original d _ h.original) (
    bind_from _ _ _ _ (holds_required _ _ _ _ _ h.original_amount) (
    bind_from _ _ _ _ (holds_required _ _ _ _ _ h.returned_amount) (
    bind_from _ _ _ _ (holds_required _ _ _ _ _ h.currency) (
    bind_from _ _ _ _ (holds_required _ _ _ _ _ h.settlement_date) (
    bind_from _ _ _ _ (holds_required _ _ _ _ _ h.reason) (
    bind_from _ _ _ _ (holds_required _ _ _ _ _ h.debtor_agent) (
    refl))))))))))

pub resolution_holds : (d : Data) (m : Resolution) → resolution_in d ≡ Ok m → HoldsResolution d m
unfolding resolution_in
resolution_holds d m e0 =
    bind_then (head_in d) _ _ e0 (λ x1 r1 e1.
    bind_then (required written_identification element.BadId key.CxlStsId d) _ _ e1 (λ x2 r2 e2.
    bind_then (required written_identification element.BadId key.OrgnlCxlId d) _ _ e2 (λ x3 r3 e3.
    bind_then (original_in d) _ _ e3 (λ x4 r4 e4.
    bind_then (required written_code element.BadCode key.Conf d) _ _ e4 (λ x5 r5 e5.
    bind_then (required reason_of element.BadCode key.Rsn d) _ _ e5 (λ x6 r6 e6.
    bind_then (required written_bic element.BadBic key.DbtrAgt d) _ _ e6 (λ x7 r7 e7.
    ok_then _ _ e7 (λ same. record {
      head = head_holds d _ (r1 ∙ ap (λ (m : Resolution). Ok m.head) same);
      resolution_id = required_holds written_identification element.BadId key.CxlStsId d m.resolution_id (r2 ∙ ap (λ (m : Resolution). Ok m.resolution_id) same);
      cancellation_id = required_holds written_identification element.BadId key.OrgnlCxlId d m.cancellation_id (r3 ∙ ap (λ (m : Resolution). Ok m.cancellation_id) same);
      original = original_holds d _ (r4 ∙ ap (λ (m : Resolution). Ok m.original) same);
      confirmation = required_holds written_code element.BadCode key.Conf d m.confirmation (r5 ∙ ap (λ (m : Resolution). Ok m.confirmation) same);
      reason = required_holds reason_of element.BadCode key.Rsn d m.reason (r6 ∙ ap (λ (m : Resolution). Ok m.reason) same);
      debtor_agent = required_holds written_bic element.BadBic key.DbtrAgt d m.debtor_agent (r7 ∙ ap (λ (m : Resolution). Ok m.debtor_agent) same);
    }))))))))

pub holds_resolution : (d : Data) (m : Resolution) → HoldsResolution d m → resolution_in d ≡ Ok m
unfolding resolution_in
holds_resolution d m h =
    bind_from _ _ _ _ (holds_head d _ h.head) (
    bind_from _ _ _ _ (holds_required _ _ _ _ _ h.resolution_id) (
    bind_from _ _ _ _ (holds_required _ _ _ _ _ h.cancellation_id) (
    bind_from _ _ _ _ (holds_original d _ h.original) (
    bind_from _ _ _ _ (holds_required _ _ _ _ _ h.confirmation) (
    bind_from _ _ _ _ (holds_required _ _ _ _ _ h.reason) (
    bind_from _ _ _ _ (holds_required _ _ _ _ _ h.debtor_agent) (
    refl)))))))

-- ---- the keys of an object

pub is_object : (d : Data) (ms : Members) → as_object d ≡ Some ms → d ≡ object ms
is_object null ms e = cc
is_object (boolean b) ms e = cc
is_object (number n) ms e = cc
is_object (string s) ms e = cc
is_object (array ds) ms e = cc
is_object (object l) ms e = cc

passes_first : (b : Bool) (x : List ℕ) (later : Option (List ℕ)) (rest : Bool) → cond (not b) (Some x) later ≡ None → (later ≡ None → rest ≡ true) → (b && rest) ≡ true
passes_first true x later rest h next = next h
passes_first false x later rest h next = cc

pub all_pass : (p : List ℕ → Bool) (xs : List (List ℕ)) → find (λ x. not (p x)) xs ≡ None → list_all p xs ≡ true
all_pass p [] h = refl
all_pass p (x ∷ xs) h = passes_first (p x) x _ _ h (all_pass p xs)

pub none_fails : (p : List ℕ → Bool) (xs : List (List ℕ)) → list_all p xs ≡ true → find (λ x. not (p x)) xs ≡ None
none_fails p [] h = refl
none_fails p (x ∷ xs) h = let parts : (p x ≡ true) × (list_all p xs ≡ true) = and_parts _ _ h in ap (λ (b : Bool). cond (not b) (Some x) (find (λ x. not (p x)) xs)) parts.0 ∙ none_fails p xs parts.1

pub passes_none : (o : Option (List ℕ)) (t : ⊤) → passes_unless o ≡ Ok t → o ≡ None
passes_none None t e = refl
passes_none (Some name) t e = cc
