-- Where a message's name is a name of its kind, the rule of the name is not the first that is broken.
use Rattle.std.proofs.Common.{rules, ◌≡◌, ◌≢◌, ◌∙◌, ap, sym, refl, Bool, true, false, cond, List, Option, Some, None}
use Rattle.std.specs.Prelude.{not}
use Rattle.std.proofs.lemmas.Bool.{false≢true}
use Rattle.sct_message.specs.declared.draft.Draft.{Draft}
use Rattle.sct_message.specs.declared.draft.Draft.TheVariants as draft
use Rattle.sct_message.specs.declared.draft.CreditTransfer.{CreditTransfer}
use Rattle.sct_message.specs.declared.draft.StatusReport.{StatusReport}
use Rattle.sct_message.specs.declared.draft.RecallTx.{RecallTx}
use Rattle.sct_message.specs.declared.draft.PaymentReturn.{PaymentReturn}
use Rattle.sct_message.specs.declared.draft.Resolution.{Resolution}
use Rattle.sct_message.specs.declared.rules.RuleFault.{RuleFault}
use Rattle.sct_message.specs.declared.rules.RuleFault.TheVariants.{WrongName, WrongOriginalName}
use Rattle.sct_message.specs.Drafts.{kind_of, head_of}
use Rattle.sct_message.specs.Kinds.{is_name_of}
use Rattle.sct_message.specs.Recalls.{Recalls}
use Rattle.sct_message.specs.Rules.{first_broken_rule, broken_in_credit_transfer, broken_in_status_report, broken_in_cancellation_request, broken_in_payment_return, broken_in_resolution, broken_in_kind, broken_by_transactions, broken_in_list, broken_first, names_its_original}

abbrev is_of_name : RuleFault → Bool
is_of_name WrongName = true
is_of_name broken = false

abbrev tells_name : Option RuleFault → Bool
tells_name None = false
tells_name (Some broken) = is_of_name broken

quiet_credit_transfer : (m : CreditTransfer) → tells_name (broken_in_credit_transfer m) ≡ false
unfolding broken_in_credit_transfer
quiet_credit_transfer m = grind rules

quiet_status_report : (m : StatusReport) → tells_name (broken_in_status_report m) ≡ false
unfolding broken_in_status_report
quiet_status_report m = grind rules

quiet_cancellation_request : (m : Recalls) → tells_name (broken_in_cancellation_request m) ≡ false
unfolding broken_in_cancellation_request
quiet_cancellation_request m = grind rules

quiet_payment_return : (m : PaymentReturn) → tells_name (broken_in_payment_return m) ≡ false
unfolding broken_in_payment_return
quiet_payment_return m = grind rules

quiet_resolution : (m : Resolution) → tells_name (broken_in_resolution m) ≡ false
unfolding broken_in_resolution
quiet_resolution m = grind rules

-- no rule of a kind is that of the name
quiet_in_kind : (m : Draft) → tells_name (broken_in_kind m) ≡ false
quiet_in_kind (draft.CreditTransfer m) = quiet_credit_transfer m
quiet_in_kind (draft.StatusReport m) = quiet_status_report m
quiet_in_kind (draft.StatusRequest m) = refl
quiet_in_kind (draft.CancellationRequest m) = quiet_cancellation_request m
quiet_in_kind (draft.PaymentReturn m) = quiet_payment_return m
quiet_in_kind (draft.Resolution m) = quiet_resolution m

quiet_transactions : (txs : List RecallTx) → tells_name (broken_by_transactions txs) ≡ false
unfolding broken_by_transactions
quiet_transactions txs = grind rules

-- nor is one of the rules on a list
quiet_in_list : (m : Draft) → tells_name (broken_in_list m) ≡ false
quiet_in_list (draft.CreditTransfer m) = refl
quiet_in_list (draft.StatusReport m) = refl
quiet_in_list (draft.StatusRequest m) = refl
quiet_in_list (draft.CancellationRequest m) = quiet_transactions m.txs
quiet_in_list (draft.PaymentReturn m) = refl
quiet_in_list (draft.Resolution m) = refl

quiet_first : (o : Option RuleFault) (b : Bool) (last : Option RuleFault) → tells_name o ≡ false → tells_name last ≡ false → tells_name (broken_first o (cond b (Some WrongOriginalName) last)) ≡ false
quiet_first None true last quiet others = refl
quiet_first None false last quiet others = others
quiet_first (Some broken) b last quiet others = quiet

quiet_where_named : (b : Bool) (later : Option RuleFault) → b ≡ true → tells_name later ≡ false → tells_name (cond (not b) (Some WrongName) later) ≡ false
quiet_where_named true later named quiet = quiet
quiet_where_named false later named quiet = absurd (false≢true named)

pub named_is_not_told : (m : Draft) → is_name_of (kind_of m) (head_of m).message_name ≡ true → first_broken_rule m ≢ Some WrongName
unfolding first_broken_rule
named_is_not_told m named told =
    false≢true (sym (quiet_where_named (is_name_of (kind_of m) (head_of m).message_name) _ named (quiet_first (broken_in_kind m) (not (names_its_original m)) (broken_in_list m) (quiet_in_kind m) (quiet_in_list m))) ∙ ap tells_name told)
