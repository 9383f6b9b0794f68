-- A message that was read is read again from its written form, if that is a text. Proof plumbing.
use Rattle.std.proofs.Common.{◌≡◌, ◌∙◌, inl, inr, refl, ap, sym, subst, ℕ, ◌≤◌, List, [], ◌∷◌, ◌++◌, arith, append-nil, IsUtf8}
use Rattle.std.specs.Prelude.{Option, None, Some, Result, Ok, option_and_then}
use Rattle.std.specs.List.{AllByRecursion}
use Rattle.json.specs.Json as json
use Rattle.json.specs.Token.{Token}
use Rattle.json.specs.Lex.{tokens}
use Rattle.json.specs.Print.{print}
use Rattle.json.specs.Tree as tree
use Rattle.json.proofs.Printed.Tokens.{tokens-print}
use Rattle.json.proofs.Printed.Trees.{ArePrintable-json_tokens, value-json_tokens}
use Rattle.serde_json.specs.Data.{Data, string, array, object, Items, Members, no_members, member, put}
use Rattle.serde_json.specs.Read.{max_depth, of_json, read}
use Rattle.serde_json.specs.Written.{compact_text, items_outline, members_outline, outline}
use Rattle.serde_json.proofs.Texts.{print-outline}
use Rattle.sct_element.specs.Settles.{bic_settles, code_settles, day_settles, iban_settles, identification_settles, stamp_settles, unchanged_settles}
use Rattle.sct_element.specs.Text.{where_read}
use Rattle.sct_element.specs.Money.{amount_text, cents_of}
use Rattle.sct_element.specs.Party.{has_characters}
use Rattle.sct_reason.specs.Codes.{reason_text}
use Rattle.sct_reason.specs.ReasonLaws.{text_is_read}
use Rattle.sct_reason.specs.Reasons.{reason_of}
use Rattle.sct_reason.specs.declared.reasons.Reason.{Reason}
use Rattle.sct_message.specs.declared.draft.CreditTransfer.{CreditTransfer}
use Rattle.sct_message.specs.declared.draft.StatusReport.{StatusReport}
use Rattle.sct_message.specs.declared.draft.StatusRequest.{StatusRequest}
use Rattle.sct_message.specs.declared.draft.PaymentReturn.{PaymentReturn}
use Rattle.sct_message.specs.declared.draft.Resolution.{Resolution}
use Rattle.sct_message.specs.declared.draft.Head.{Head}
use Rattle.sct_message.specs.declared.draft.Original.{Original}
use Rattle.sct_message.specs.declared.draft.RecallTx.{RecallTx}
use Rattle.sct_message.specs.declared.draft.Draft.{Draft}
use Rattle.sct_message.specs.declared.draft.Draft.TheVariants as draft
use Rattle.sct_message.specs.Recalls.{Recalls}
use Rattle.sct_message.specs.Rules.{first_broken_rule}
use Rattle.sct_json.specs.declared.keys.Key.{Key}
use Rattle.sct_json.specs.declared.keys.Key.TheVariants as key
use Rattle.sct_json.specs.Form.{AreTransactions, Holds, HoldsCreditTransfer, HoldsElements, HoldsHead, HoldsOriginal, HoldsPaymentReturn, HoldsRecalls, HoldsResolution, HoldsStatusReport, HoldsStatusRequest, HoldsTransaction, MayHold}
use Rattle.sct_json.specs.Keys.{key_text}
use Rattle.sct_json.specs.Reading.{items_list, message_in}
use Rattle.sct_json.specs.Writing.{CreditTransferReadsBack, ElementsReadBack, HeadReadsBack, MayReadBack, OriginalReadsBack, PaymentReturnReadsBack, ReadsBack, RecallsReadBack, ResolutionReadsBack, StatusReportReadsBack, StatusRequestReadsBack, TransactionReadsBack, transaction_objects, transaction_rows, with_elements, with_rows, written_object, written_text}
use Rattle.sct_json.proofs.Bytes.{bytes_read, message_in_object}
use Rattle.sct_json.proofs.Forms.{RulesAreKnown}
use Rattle.sct_json.proofs.Ordered.{object_back, written_shallow}
use Rattle.sct_json.proofs.Rows.{IsKept, kept_put, kept_rows, kept_written}
use Rattle.sct_json.proofs.Written.{written_is_read}

-- ---- each element is read back

free_back : (most : ℕ) (s t : List ℕ) → where_read (has_characters most s) s ≡ Some t → where_read (has_characters most t) t ≡ Some t
free_back most = unchanged_settles (has_characters most)

holds_back : {X : Type 0} (reads : List ℕ → Option X) (written : X → List ℕ) → ((s : List ℕ) (x : X) → reads s ≡ Some x → reads (written x) ≡ Some x)
    → (k : Key) (d : Data) (x : X) → Holds reads k d x → ReadsBack reads written x
holds_back reads written back k d x h = back h.0 x h.2

may_back : {X : Type 0} (reads : List ℕ → Option X) (written : X → List ℕ) → ((s : List ℕ) (x : X) → reads s ≡ Some x → reads (written x) ≡ Some x)
    → (k : Key) (d : Data) (o : Option X) → MayHold reads k d o → MayReadBack reads written o
may_back reads written back k d None h = tt
may_back reads written back k d (Some x) h = back h.0 x h.2

reason_back : (s : List ℕ) (r : Reason) → reason_of s ≡ Some r → reason_of (reason_text r) ≡ Some r
reason_back s r is = text_is_read r

head_back : (d : Data) (m : Head) → HoldsHead d m → HeadReadsBack m
head_back d m h = record {
  message_name = identification_settles h.message_name.0 m.message_name h.message_name.2;
  message_id = identification_settles h.message_id.0 m.message_id h.message_id.2;
  creation_time = stamp_settles h.creation_time.0 m.creation_time h.creation_time.2;
  instructing_agent = bic_settles h.instructing_agent.0 m.instructing_agent h.instructing_agent.2;
  instructed_agent = may_back _ (λ s. s) bic_settles key.InstdAgt d m.instructed_agent h.instructed_agent;
}

original_back : (d : Data) (m : Original) → HoldsOriginal d m → OriginalReadsBack m
original_back d m h = record {
  message_id = identification_settles h.message_id.0 m.message_id h.message_id.2;
  message_name = identification_settles h.message_name.0 m.message_name h.message_name.2;
  end_to_end_id = may_back _ (λ s. s) identification_settles key.OrgnlEndToEndId d m.end_to_end_id h.end_to_end_id;
  transaction_id = identification_settles h.transaction_id.0 m.transaction_id h.transaction_id.2;
}

-- an amount that was read is read again from its written form
abbrev pub AmountsSettle : Type 0
AmountsSettle = (text : List ℕ) (cents : ℕ) → cents_of text ≡ Some cents → cents_of (amount_text cents) ≡ Some cents

credit_transfer_back : AmountsSettle → (d : Data) (m : CreditTransfer) → HoldsCreditTransfer d m → CreditTransferReadsBack m
credit_transfer_back cents_back d m h = record {
  head = head_back d m.head h.head;
  settlement_date = day_settles h.settlement_date.0 m.settlement_date h.settlement_date.2;
  service_level = code_settles h.service_level.0 m.service_level h.service_level.2;
  local_instrument = code_settles h.local_instrument.0 m.local_instrument h.local_instrument.2;
  instruction_id = may_back _ (λ s. s) identification_settles key.InstrId d m.instruction_id h.instruction_id;
  end_to_end_id = identification_settles h.end_to_end_id.0 m.end_to_end_id h.end_to_end_id.2;
  transaction_id = identification_settles h.transaction_id.0 m.transaction_id h.transaction_id.2;
  settlement_amount = cents_back h.settlement_amount.0 m.settlement_amount h.settlement_amount.2;
  currency = code_settles h.currency.0 m.currency h.currency.2;
  charge_bearer = code_settles h.charge_bearer.0 m.charge_bearer h.charge_bearer.2;
  acceptance_time = may_back _ (λ s. s) stamp_settles key.AccptncDtTm d m.acceptance_time h.acceptance_time;
  debtor = free_back 70 h.debtor.0 m.debtor h.debtor.2;
  debtor_account = iban_settles h.debtor_account.0 m.debtor_account h.debtor_account.2;
  debtor_agent = bic_settles h.debtor_agent.0 m.debtor_agent h.debtor_agent.2;
  creditor_agent = bic_settles h.creditor_agent.0 m.creditor_agent h.creditor_agent.2;
  creditor = free_back 70 h.creditor.0 m.creditor h.creditor.2;
  creditor_account = iban_settles h.creditor_account.0 m.creditor_account h.creditor_account.2;
  remittance = may_back _ (λ s. s) (free_back 140) key.Ustrd d m.remittance h.remittance;
}

status_report_back : (d : Data) (m : StatusReport) → HoldsStatusReport d m → StatusReportReadsBack m
status_report_back d m h = record {
  head = head_back d m.head h.head;
  original = original_back d m.original h.original;
  status = code_settles h.status.0 m.status h.status.2;
  reason = may_back reason_of reason_text reason_back key.Rsn d m.reason h.reason;
  debtor_agent = bic_settles h.debtor_agent.0 m.debtor_agent h.debtor_agent.2;
}

status_request_back : (d : Data) (m : StatusRequest) → HoldsStatusRequest d m → StatusRequestReadsBack m
status_request_back d m h = record {
  head = head_back d m.head h.head;
  original = original_back d m.original h.original;
  cancellation_id = may_back _ (λ s. s) identification_settles key.OrgnlCxlId d m.cancellation_id h.cancellation_id;
  debtor_agent = bic_settles h.debtor_agent.0 m.debtor_agent h.debtor_agent.2;
}

transaction_back : AmountsSettle → (d : Data) (m : RecallTx) → HoldsTransaction d m → TransactionReadsBack m
transaction_back cents_back d m h = record {
  cancellation_id = identification_settles h.cancellation_id.0 m.cancellation_id h.cancellation_id.2;
  original = original_back d m.original h.original;
  original_amount = cents_back h.original_amount.0 m.original_amount h.original_amount.2;
  currency = code_settles h.currency.0 m.currency h.currency.2;
  original_settlement_date = may_back _ (λ s. s) day_settles key.OrgnlIntrBkSttlmDt d m.original_settlement_date h.original_settlement_date;
  reason = text_is_read m.reason;
  debtor_agent = bic_settles h.debtor_agent.0 m.debtor_agent h.debtor_agent.2;
}

transactions_back : AmountsSettle → (ds : List Data) (txs : List RecallTx) → AreTransactions ds txs → AllByRecursion TransactionReadsBack txs
transactions_back cents_back [] [] are = tt
transactions_back cents_back [] (tx ∷ txs) are = absurd are
transactions_back cents_back (d ∷ ds) [] are = absurd are
transactions_back cents_back (d ∷ ds) (tx ∷ txs) are = (transaction_back cents_back d tx are.0.elements, transactions_back cents_back ds txs are.1)

recalls_back : AmountsSettle → (d : Data) (m : Recalls) → HoldsRecalls d m → RecallsReadBack m
recalls_back cents_back d m (inl one) = record {
  head = head_back d m.head one.head;
  txs = subst (AllByRecursion TransactionReadsBack) (sym one.only) (transaction_back cents_back d one.one one.holds, tt);
}
recalls_back cents_back d m (inr list) = record { head = head_back d m.head list.head; txs = transactions_back cents_back (items_list list.items) m.txs list.each }

payment_return_back : AmountsSettle → (d : Data) (m : PaymentReturn) → HoldsPaymentReturn d m → PaymentReturnReadsBack m
payment_return_back cents_back d m h = record {
  head = head_back d m.head h.head;
  return_id = identification_settles h.return_id.0 m.return_id h.return_id.2;
  cancellation_id = identification_settles h.cancellation_id.0 m.cancellation_id h.cancellation_id.2;
  original = original_back d m.original h.original;
  original_amount = cents_back h.original_amount.0 m.original_amount h.original_amount.2;
  returned_amount = cents_back h.returned_amount.0 m.returned_amount h.returned_amount.2;
  currency = code_settles h.currency.0 m.currency h.currency.2;
  settlement_date = day_settles h.settlement_date.0 m.settlement_date h.settlement_date.2;
  reason = text_is_read m.reason;
  debtor_agent = bic_settles h.debtor_agent.0 m.debtor_agent h.debtor_agent.2;
}

resolution_back : (d : Data) (m : Resolution) → HoldsResolution d m → ResolutionReadsBack m
resolution_back d m h = record {
  head = head_back d m.head h.head;
  resolution_id = identification_settles h.resolution_id.0 m.resolution_id h.resolution_id.2;
  cancellation_id = identification_settles h.cancellation_id.0 m.cancellation_id h.cancellation_id.2;
  original = original_back d m.original h.original;
  confirmation = code_settles h.confirmation.0 m.confirmation h.confirmation.2;
  reason = text_is_read m.reason;
  debtor_agent = bic_settles h.debtor_agent.0 m.debtor_agent h.debtor_agent.2;
}

elements_back : AmountsSettle → (d : Data) (m : Draft) → HoldsElements d m → ElementsReadBack m
elements_back cents_back d (draft.CreditTransfer m) h = credit_transfer_back cents_back d m h
elements_back cents_back d (draft.StatusReport m) h = status_report_back d m h
elements_back cents_back d (draft.StatusRequest m) h = status_request_back d m h
elements_back cents_back d (draft.CancellationRequest m) h = recalls_back cents_back d m h
elements_back cents_back d (draft.PaymentReturn m) h = payment_return_back cents_back d m h
elements_back cents_back d (draft.Resolution m) h = resolution_back d m h

-- ---- the written text is JSON for the written object

abbrev HaveNumbers : Members → Type 0
HaveNumbers ms = tree.MembersHaveNumbers (members_outline ms)

numbers_put : (k : List ℕ) (d : Data) (ms : Members) → tree.HasNumbers (outline d) → HaveNumbers ms → HaveNumbers (put k d ms)
numbers_put k d ms here all =
    kept_put HaveNumbers (λ _ value. tree.HasNumbers (outline value))
    (record { none = tt; both = λ l e ns h rest. (h, rest); parts = λ l e ns h. h; mixed = λ j l e f h there. h }) k d here ms all

kept_numbers : IsKept HaveNumbers
kept_numbers k s ms all = numbers_put k (string s) ms tt all

objects_have_numbers : (txs : List RecallTx) → tree.ItemsHaveNumbers (items_outline (transaction_objects txs))
objects_have_numbers [] = tt
objects_have_numbers (tx ∷ txs) = (kept_rows HaveNumbers kept_numbers (transaction_rows tx) no_members tt, objects_have_numbers txs)

numbers_written : (m : Draft) → HaveNumbers (with_elements m no_members)
numbers_written m =
    kept_written HaveNumbers kept_numbers (λ txs ms all. numbers_put (key_text key.TxInf) (array (transaction_objects txs)) ms (objects_have_numbers txs) all) tt m

abbrev whole : Option (json.Json × List Token) → Option Data
whole found = option_and_then of_json (option_and_then (λ p. json.if_last p.0 p.1) found)

value_is : (m : Draft) → read (written_text m) ≡ Some (written_object m)
unfolding written_text
value_is m =
    let line : json.Json = outline (written_object m) in
    let low = written_shallow m in
    ap read (sym (print-outline (written_object m)))
    ∙ ap (λ (ts : List Token). whole (json.value max_depth ts)) (tokens-print (tree.json_tokens line) (ArePrintable-json_tokens line (numbers_written m)) ∙ sym (append-nil (tree.json_tokens line)))
    ∙ ap whole (value-json_tokens line max_depth [] (omega (arith, low)))
    ∙ object_back m

pub again_if_text : RulesAreKnown → AmountsSettle → (bytes : List ℕ) (m : Draft) → message_in bytes ≡ Ok m → IsUtf8 (written_text m)
    → message_in (written_text m) ≡ Ok m
again_if_text rules cents_back bytes m is utf8 =
    let form = (bytes_read rules bytes m).0 is in
    message_in_object (written_text m) (written_object m) utf8 (value_is m)
    ∙ written_is_read m (elements_back cents_back form.0 m form.2.elements) ((rules m).1 form.2.rules)
