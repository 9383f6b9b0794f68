-- Read by an auditor: the rules of each kind (EPC004-16), when a draft breaks a rule, and
-- the first rule that it breaks.
use Rattle.std.specs.Prelude.{◌≡◌, ◌≢◌, ℕ, ◌<◌, ◌≤◌, ◌&&◌, ◌||◌, ◌⊎◌, List, [], ◌∷◌, length, not, nat_le, Bool, false, Option, Some, None, is_some, is_none, if◌then◌else◌, IsTrue, IsFalse, IsSome, IsSomeAnd, IsNone, codes, ⊤}
use Rattle.std.specs.List.{AllByRecursion, Any, IsDistinct, list_all, list_any}
use Rattle.sct_reason.specs.declared.reasons.Reason.TheVariants.{FOCR}
use Rattle.sct_reason.specs.Codes.{reason_text}
use Rattle.sct_message.specs.declared.draft.CreditTransfer.{CreditTransfer}
use Rattle.sct_message.specs.declared.draft.StatusReport.{StatusReport}
use Rattle.sct_message.specs.declared.draft.RecallTx.{RecallTx}
use Rattle.sct_message.specs.declared.draft.PaymentReturn.{PaymentReturn}
use Rattle.sct_message.specs.declared.draft.Resolution.{Resolution}
use Rattle.sct_message.specs.declared.draft.Draft.{Draft}
use Rattle.sct_message.specs.declared.draft.Draft.TheVariants as draft
use Rattle.sct_message.specs.declared.kinds.Kind.{Kind}
use Rattle.sct_message.specs.declared.kinds.Kind.TheVariants.{Camt056, Pacs008}
use Rattle.sct_message.specs.declared.rules.RuleFault.{RuleFault}
use Rattle.sct_message.specs.declared.rules.RuleFault.TheVariants.{WrongName, WrongCurrency, WrongService, WrongInstrument, WrongCharge, WrongStatus, ReasonMissing, ReasonUnasked, ReturnAboveOriginal, WrongReturnReason, WrongAnswer, WrongOriginalName, RepeatedRecall, WrongCount}
use Rattle.sct_element.specs.Text.{is_text}
use Rattle.sct_message.specs.Kinds.{is_name_of}
use Rattle.sct_message.specs.Drafts.{kind_of, head_of, originals_of, currencies_of, credit_transfer_of, status_report_of, recalls_in, payment_return_of, resolution_of}
use Rattle.sct_message.specs.Recalls.{Recalls, have_same_recall}

abbrev pub rule_number : RuleFault → ℕ
rule_number WrongName = 10
rule_number WrongCurrency = 11
rule_number WrongService = 12
rule_number WrongInstrument = 13
rule_number WrongCharge = 14
rule_number WrongStatus = 15
rule_number ReasonMissing = 16
rule_number ReasonUnasked = 17
rule_number ReturnAboveOriginal = 18
rule_number WrongReturnReason = 19
rule_number WrongAnswer = 20
rule_number WrongOriginalName = 21
rule_number RepeatedRecall = 22
rule_number WrongCount = 23

-- ---- the rules

-- A transfer is in euro, at the service level SEPA, by the instrument INST; each side bears its own charges.
pub record CreditTransferFollowsRules (d : CreditTransfer) : Type 0 where
  pub currency : d.currency ≡ codes "EUR"
  pub service : d.service_level ≡ codes "SEPA"
  pub instrument : d.local_instrument ≡ codes "INST"
  pub charges : d.charge_bearer ≡ codes "SLEV"

-- A status report confirms without a reason or rejects with one.
pub record StatusReportFollowsRules (d : StatusReport) : Type 0 where
  pub confirms : ((d.status ≡ codes "ACCP") × IsNone d.reason) ⊎ ((d.status ≡ codes "RJCT") × IsSome d.reason)

-- A recall message has 1 to 100 transactions, each in euro, and no two of them make the
-- same recall of the same transfer.
pub record CancellationRequestFollowsRules (d : Recalls) : Type 0 where
  pub currency : AllByRecursion (λ tx. tx.currency ≡ codes "EUR") d.txs
  pub recalls : IsDistinct have_same_recall d.txs
  pub some : 1 ≤ length d.txs
  pub most : length d.txs ≤ 100

-- A return is in euro, of at most the original amount, and follows a recall.
pub record PaymentReturnFollowsRules (d : PaymentReturn) : Type 0 where
  pub currency : d.currency ≡ codes "EUR"
  pub amount : d.returned_amount ≤ d.original_amount
  pub reason : d.reason ≡ FOCR

-- The resolution of a recall refuses it.
pub record ResolutionFollowsRules (d : Resolution) : Type 0 where
  pub answer : d.confirmation ≡ codes "RJCR"

abbrev pub FollowsRulesOfKind : Draft → Type 0
FollowsRulesOfKind (draft.CreditTransfer d) = CreditTransferFollowsRules d
FollowsRulesOfKind (draft.StatusReport d) = StatusReportFollowsRules d
FollowsRulesOfKind (draft.StatusRequest d) = ⊤
FollowsRulesOfKind (draft.CancellationRequest d) = CancellationRequestFollowsRules d
FollowsRulesOfKind (draft.PaymentReturn d) = PaymentReturnFollowsRules d
FollowsRulesOfKind (draft.Resolution d) = ResolutionFollowsRules d

-- A status request that names a recall is about the recall; every other later message is about the transfer.
abbrev pub asked_about : Option (List ℕ) → Kind
asked_about None = Pacs008
asked_about (Some recall) = Camt056

abbrev pub kind_it_is_about : Draft → Kind
kind_it_is_about (draft.CreditTransfer d) = Pacs008
kind_it_is_about (draft.StatusReport d) = Pacs008
kind_it_is_about (draft.StatusRequest d) = asked_about d.cancellation_id
kind_it_is_about (draft.CancellationRequest d) = Pacs008
kind_it_is_about (draft.PaymentReturn d) = Pacs008
kind_it_is_about (draft.Resolution d) = Pacs008

-- the name of each original message is a name of that kind; a message without an original is right
abbrev pub names_its_original : Draft → Bool
names_its_original d = list_all (λ o. is_name_of (kind_it_is_about d) o.message_name) (originals_of d)

-- A message names its own kind, follows the rules of that kind, and names the kind of the message that it is about.
pub record FollowsRules (d : Draft) : Type 0 where
  pub name : IsTrue (is_name_of (kind_of d) (head_of d).message_name)
  pub kind : FollowsRulesOfKind d
  pub original : IsTrue (names_its_original d)

-- ---- the rules that a draft breaks

-- the text is not a name of the kind
abbrev pub IsNoName : Kind → List ℕ → Type 0
IsNoName kind s = IsFalse (is_name_of kind s)

abbrev pub IsNeither : List ℕ → List ℕ → List ℕ → Type 0
IsNeither s t u = (s ≢ t) × (s ≢ u)

-- One line for each rule. A draft of a kind without the element does not break the rule.
abbrev pub Breaks : RuleFault → Draft → Type 0
Breaks WrongName d = IsNoName (kind_of d) (head_of d).message_name
Breaks WrongCurrency d = Any (λ currency. currency ≢ codes "EUR") (currencies_of d)
Breaks WrongService d = IsSomeAnd (credit_transfer_of d) (λ m. m.service_level ≢ codes "SEPA")
Breaks WrongInstrument d = IsSomeAnd (credit_transfer_of d) (λ m. m.local_instrument ≢ codes "INST")
Breaks WrongCharge d = IsSomeAnd (credit_transfer_of d) (λ m. m.charge_bearer ≢ codes "SLEV")
Breaks WrongStatus d = IsSomeAnd (status_report_of d) (λ m. IsNeither m.status (codes "ACCP") (codes "RJCT"))
Breaks ReasonMissing d = IsSomeAnd (status_report_of d) (λ m. (m.status ≡ codes "RJCT") × IsNone m.reason)
Breaks ReasonUnasked d = IsSomeAnd (status_report_of d) (λ m. (m.status ≡ codes "ACCP") × IsSome m.reason)
Breaks ReturnAboveOriginal d = IsSomeAnd (payment_return_of d) (λ m. m.original_amount < m.returned_amount)
Breaks WrongReturnReason d = IsSomeAnd (payment_return_of d) (λ m. m.reason ≢ FOCR)
Breaks WrongAnswer d = IsSomeAnd (resolution_of d) (λ m. m.confirmation ≢ codes "RJCR")
Breaks WrongOriginalName d = Any (λ o. IsNoName (kind_it_is_about d) o.message_name) (originals_of d)
Breaks RepeatedRecall d = IsSomeAnd (recalls_in d) (λ m. ¬ IsDistinct have_same_recall m.txs)
Breaks WrongCount d = IsSomeAnd (recalls_in d) (λ m. (length m.txs ≡ 0) ⊎ (100 < length m.txs))

-- the rule is broken, and no broken rule has a smaller number
pub record IsFirstBroken (f : RuleFault) (d : Draft) : Type 0 where
  pub broken : Breaks f d
  pub least : (g : RuleFault) → Breaks g d → rule_number f ≤ rule_number g

-- ---- the first rule that is broken

unfoldable pub broken_in_credit_transfer : CreditTransfer → Option RuleFault
broken_in_credit_transfer d =
    if not (is_text d.currency (codes "EUR")) then Some WrongCurrency
    else (if not (is_text d.service_level (codes "SEPA")) then Some WrongService
    else (if not (is_text d.local_instrument (codes "INST")) then Some WrongInstrument
    else (if not (is_text d.charge_bearer (codes "SLEV")) then Some WrongCharge
    else None)))

unfoldable pub broken_in_status_report : StatusReport → Option RuleFault
broken_in_status_report d =
    if not (is_text d.status (codes "ACCP")) && not (is_text d.status (codes "RJCT")) then Some WrongStatus
    else (if is_text d.status (codes "RJCT") && is_none d.reason then Some ReasonMissing
    else (if is_text d.status (codes "ACCP") && is_some d.reason then Some ReasonUnasked
    else None))

unfoldable pub broken_in_cancellation_request : Recalls → Option RuleFault
broken_in_cancellation_request d =
    if not (list_all (λ tx. is_text tx.currency (codes "EUR")) d.txs) then Some WrongCurrency else None

unfoldable pub broken_in_payment_return : PaymentReturn → Option RuleFault
broken_in_payment_return d =
    if not (is_text d.currency (codes "EUR")) then Some WrongCurrency
    else (if not (nat_le d.returned_amount d.original_amount) then Some ReturnAboveOriginal
    else (if not (is_text (reason_text d.reason) (codes "FOCR")) then Some WrongReturnReason
    else None))

unfoldable pub broken_in_resolution : Resolution → Option RuleFault
broken_in_resolution d = if not (is_text d.confirmation (codes "RJCR")) then Some WrongAnswer else None

abbrev pub broken_in_kind : Draft → Option RuleFault
broken_in_kind (draft.CreditTransfer d) = broken_in_credit_transfer d
broken_in_kind (draft.StatusReport d) = broken_in_status_report d
broken_in_kind (draft.StatusRequest d) = None
broken_in_kind (draft.CancellationRequest d) = broken_in_cancellation_request d
broken_in_kind (draft.PaymentReturn d) = broken_in_payment_return d
broken_in_kind (draft.Resolution d) = broken_in_resolution d

-- two transactions make the same recall of the same transfer
abbrev pub repeats : List RecallTx → Bool
repeats [] = false
repeats (tx ∷ txs) = list_any (have_same_recall tx) txs || repeats txs

-- a recall message may have this number of transactions
abbrev pub is_right_count : ℕ → Bool
is_right_count n = nat_le 1 n && nat_le n 100

unfoldable pub broken_by_transactions : List RecallTx → Option RuleFault
broken_by_transactions txs =
    if repeats txs then Some RepeatedRecall
    else (if not (is_right_count (length txs)) then Some WrongCount
    else None)

-- the rules on the list of a recall message, which come last
abbrev pub broken_in_list : Draft → Option RuleFault
broken_in_list (draft.CancellationRequest d) = broken_by_transactions d.txs
broken_in_list other = None

-- the first of two faults that is not none
abbrev pub broken_first : Option RuleFault → Option RuleFault → Option RuleFault
broken_first None later = later
broken_first (Some broken) later = Some broken

-- the first rule, by number, that a draft breaks
unfoldable pub first_broken_rule : Draft → Option RuleFault
first_broken_rule d = if not (is_name_of (kind_of d) (head_of d).message_name) then Some WrongName
    else broken_first (broken_in_kind d)
    (if not (names_its_original d) then Some WrongOriginalName else broken_in_list d)
