-- No rule is broken exactly where all rules hold.
use Rattle.std.proofs.Common.{arith, ◌≡◌, ap, sym, subst, refl, inl, inr, ℕ, ◌≤◌, Bool, true, false, List, [], ◌∷◌, length, Option, Some, None, if◌then◌else◌}
use Rattle.std.specs.Prelude.{◌&&◌, ◌⊎◌, ◌↔◌, not, is_some, is_none, nat_le, IsSome, IsNone, codes}
use Rattle.std.specs.List.{list_all, AllByRecursion}
use Rattle.std.proofs.lemmas.Bool.{leb-true, le-leb, and_parts, and_from}
use Rattle.std.proofs.lemmas.List.{length-map}
use Rattle.sct_message.specs.declared.draft.CreditTransfer.{CreditTransfer}
use Rattle.sct_message.specs.declared.draft.StatusReport.{StatusReport}
use Rattle.sct_message.specs.declared.draft.RecallTx.{RecallTx}
use Rattle.sct_message.specs.declared.draft.PaymentReturn.{PaymentReturn}
use Rattle.sct_message.specs.declared.draft.Resolution.{Resolution}
use Rattle.sct_message.specs.declared.draft.Draft.{Draft}
use Rattle.sct_message.specs.declared.draft.Draft.TheVariants as draft
use Rattle.sct_message.specs.declared.rules.RuleFault.{RuleFault}
use Rattle.sct_reason.specs.declared.reasons.Reason.{Reason}
use Rattle.sct_reason.specs.declared.reasons.Reason.TheVariants.{FOCR}
use Rattle.sct_reason.specs.Codes.{reason_text}
use Rattle.sct_reason.specs.ReasonLaws.{same_text as same_reason}
use Rattle.sct_element.specs.Text.{is_text}
use Rattle.sct_message.specs.Rules.{FollowsRules, FollowsRulesOfKind, CreditTransferFollowsRules, StatusReportFollowsRules, CancellationRequestFollowsRules, PaymentReturnFollowsRules, ResolutionFollowsRules, broken_in_credit_transfer, broken_in_status_report, broken_in_cancellation_request, broken_in_payment_return, broken_in_resolution, broken_in_kind, broken_by_transactions, broken_in_list, broken_first, first_broken_rule}
use Rattle.sct_message.specs.Recalls.{Recalls, transfer_in}
use Rattle.sct_message.specs.Keys.{transfers_of}
use Rattle.sct_message.proofs.LongLists.{apart_where_none, none_where_apart}
use Rattle.sct_message.proofs.SameValues.{text_is, is_text-from}

-- a rule that is kept is passed over
kept_then : (b : Bool) (f : RuleFault) (rest : Option RuleFault) → ((if not b then Some f else rest) ≡ None) ↔ ((b ≡ true) × (rest ≡ None))
kept_then true f rest = (λ e. (refl, e), λ p. p.1)
kept_then false f rest = (λ e. cc, λ p. cc)

-- a fault that is not met is passed over
unmet_then : (b : Bool) (f : RuleFault) (rest : Option RuleFault) → ((if b then Some f else rest) ≡ None) ↔ ((b ≡ false) × (rest ≡ None))
unmet_then true f rest = (λ e. cc, λ p. cc)
unmet_then false f rest = (λ e. (refl, e), λ p. p.1)

credit_transfer_rules : (d : CreditTransfer) → (broken_in_credit_transfer d ≡ None) ↔ CreditTransferFollowsRules d
unfolding broken_in_credit_transfer
credit_transfer_rules d = (
  λ e.
      let one = (kept_then _ _ _).0 e in
      let two = (kept_then _ _ _).0 one.1 in
      let three = (kept_then _ _ _).0 two.1 in
      let four = (kept_then _ _ _).0 three.1 in
      record {
        currency = text_is _ _ one.0;
        service = text_is _ _ two.0;
        instrument = text_is _ _ three.0;
        charges = text_is _ _ four.0;
      },
  λ r. (kept_then _ _ _).1 (is_text-from _ _ r.currency, (kept_then _ _ _).1 (is_text-from _ _ r.service, (kept_then _ _ _).1 (is_text-from _ _ r.instrument, (kept_then _ _ _).1 (is_text-from _ _ r.charges, refl)))),
)

abbrev Confirms : List ℕ → Option Reason → Type 0
Confirms status reason = ((status ≡ codes "ACCP") × IsNone reason) ⊎ ((status ≡ codes "RJCT") × IsSome reason)

-- what is left once the status is one of the two, a rejection has a reason, and a confirmation has none
confirms_by : (status : List ℕ) (reason : Option Reason) (accepted rejected : Bool) → is_text status (codes "ACCP") ≡ accepted → is_text status (codes "RJCT") ≡ rejected
    → (not accepted && not rejected) ≡ false → (rejected && is_none reason) ≡ false → (accepted && is_some reason) ≡ false → Confirms status reason
confirms_by status reason true rejected a r one two three = inl (text_is _ _ a, three)
confirms_by status None false true a r one two three = cc
confirms_by status (Some code) false true a r one two three = inr (text_is _ _ r, refl)
confirms_by status reason false false a r one two three = cc

none_is_no_some : (reason : Option Reason) → is_some reason ≡ true → is_none reason ≡ false
none_is_no_some None e = cc
none_is_no_some (Some code) e = refl

abbrev Passed : List ℕ → Option Reason → Type 0
Passed status reason = ((not (is_text status (codes "ACCP")) && not (is_text status (codes "RJCT"))) ≡ false)
    × ((is_text status (codes "RJCT") && is_none reason) ≡ false) × ((is_text status (codes "ACCP") && is_some reason) ≡ false)

passed_by : (status : List ℕ) (reason : Option Reason) → Confirms status reason → Passed status reason
passed_by status reason (inl p) = subst (λ (s : List ℕ). Passed s reason) (sym p.0) (refl, refl, p.1)
passed_by status reason (inr p) = subst (λ (s : List ℕ). Passed s reason) (sym p.0) (refl, none_is_no_some reason p.1, refl)

status_report_rules : (d : StatusReport) → (broken_in_status_report d ≡ None) ↔ StatusReportFollowsRules d
unfolding broken_in_status_report
status_report_rules d = (
  λ e.
      let one = (unmet_then _ _ _).0 e in
      let two = (unmet_then _ _ _).0 one.1 in
      let three = (unmet_then _ _ _).0 two.1 in
      record { confirms = confirms_by d.status d.reason _ _ refl refl one.0 two.0 three.0 },
  λ r.
      let passed : Passed d.status d.reason = passed_by d.status d.reason r.confirms in
      (unmet_then _ _ _).1 (passed.0, (unmet_then _ _ _).1 (passed.1, (unmet_then _ _ _).1 (passed.2, refl))),
)

euro_each : (txs : List RecallTx) → list_all (λ tx. is_text tx.currency (codes "EUR")) txs ≡ true → AllByRecursion (λ tx. tx.currency ≡ codes "EUR") txs
euro_each [] e = tt
euro_each (tx ∷ txs) e = let parts = and_parts _ _ e in (text_is _ _ parts.0, euro_each txs parts.1)

each_euro : (txs : List RecallTx) → AllByRecursion (λ tx. tx.currency ≡ codes "EUR") txs → list_all (λ tx. is_text tx.currency (codes "EUR")) txs ≡ true
each_euro [] h = refl
each_euro (tx ∷ txs) h = and_from _ _ (is_text-from _ _ h.0) (each_euro txs h.1)

-- of a recall message the rule on its currencies and those on its list are kept together
cancellation_request_rules : (d : Recalls) → ((broken_in_cancellation_request d ≡ None) × (broken_by_transactions d.txs ≡ None)) ↔ CancellationRequestFollowsRules d
unfolding broken_in_cancellation_request broken_by_transactions
cancellation_request_rules d = (
  λ p.
      let currency = (kept_then _ _ _).0 p.0 in
      let recalls = (unmet_then _ _ _).0 p.1 in
      let count = (kept_then _ _ _).0 recalls.1 in
      let bounds = and_parts (nat_le 1 (length d.txs)) (nat_le (length d.txs) 100) count.0 in
      record {
        currency = euro_each d.txs currency.0;
        recalls = apart_where_none d.txs recalls.0;
        some = leb-true _ _ bounds.0;
        most = leb-true _ _ bounds.1;
      },
  λ r. (
    (kept_then _ _ _).1 (each_euro d.txs r.currency, refl),
    (unmet_then _ _ _).1 (none_where_apart d.txs r.recalls, (kept_then _ _ _).1 (and_from _ _ (le-leb _ _ r.some) (le-leb _ _ r.most), refl)),
  ),
)

payment_return_rules : (d : PaymentReturn) → (broken_in_payment_return d ≡ None) ↔ PaymentReturnFollowsRules d
unfolding broken_in_payment_return
payment_return_rules d = (
  λ e.
      let one = (kept_then _ _ _).0 e in
      let two = (kept_then _ _ _).0 one.1 in
      let three = (kept_then _ _ _).0 two.1 in
      record {
        currency = text_is _ _ one.0;
        amount = leb-true _ _ two.0;
        reason = same_reason d.reason FOCR (text_is _ _ three.0);
      },
  λ r. (kept_then _ _ _).1 (is_text-from _ _ r.currency, (kept_then _ _ _).1 (le-leb _ _ r.amount, (kept_then _ _ _).1 (is_text-from _ _ (ap reason_text r.reason), refl))),
)

resolution_rules : (d : Resolution) → (broken_in_resolution d ≡ None) ↔ ResolutionFollowsRules d
unfolding broken_in_resolution
resolution_rules d = (
  λ e. record { answer = text_is _ _ ((kept_then _ _ _).0 e).0 },
  λ r. (kept_then _ _ _).1 (is_text-from _ _ r.answer, refl),
)

abbrev none_broken : Option RuleFault
none_broken = None

-- where nothing is asked of the list
with_none : {P Q : Type 0} → P ↔ Q → (P × (none_broken ≡ None)) ↔ Q
with_none both = (λ p. both.0 p.0, λ q. (both.1 q, refl))

kind_rules : (d : Draft) → ((broken_in_kind d ≡ None) × (broken_in_list d ≡ None)) ↔ FollowsRulesOfKind d
kind_rules (draft.CreditTransfer d) = with_none (credit_transfer_rules d)
kind_rules (draft.StatusReport d) = with_none (status_report_rules d)
kind_rules (draft.StatusRequest d) = (λ e. tt, λ r. (refl, refl))
kind_rules (draft.CancellationRequest d) = cancellation_request_rules d
kind_rules (draft.PaymentReturn d) = with_none (payment_return_rules d)
kind_rules (draft.Resolution d) = with_none (resolution_rules d)

none_first : (a b : Option RuleFault) → (broken_first a b ≡ None) ↔ ((a ≡ None) × (b ≡ None))
none_first None b = (λ e. (refl, e), λ p. p.1)
none_first (Some f) b = (λ e. cc, λ p. cc)

pub all_rules : (d : Draft) → (first_broken_rule d ≡ None) ↔ FollowsRules d
unfolding first_broken_rule
all_rules d = (
  λ e.
      let named = (kept_then _ _ _).0 e in
      let both = (none_first _ _).0 named.1 in
      let last = (kept_then _ _ _).0 both.1 in
      record { name = named.0; kind = (kind_rules d).0 (both.0, last.1); original = last.0 },
  λ r.
      let kind = (kind_rules d).1 r.kind in
      (kept_then _ _ _).1 (r.name, (none_first _ _).1 (kind.0, (kept_then _ _ _).1 (r.original, kind.1))),
)

few_by : (d : Draft) → FollowsRulesOfKind d → (1 ≤ length (transfers_of d)) × (length (transfers_of d) ≤ 100)
few_by (draft.CreditTransfer d) r = (omega arith, omega arith)
few_by (draft.StatusReport d) r = (omega arith, omega arith)
few_by (draft.StatusRequest d) r = (omega arith, omega arith)
few_by (draft.CancellationRequest d) r = rw (length-map d.txs transfer_in) (r.some, r.most)
few_by (draft.PaymentReturn d) r = (omega arith, omega arith)
few_by (draft.Resolution d) r = (omega arith, omega arith)

-- a draft that breaks no rule is, or is about, 1 to 100 transfers
pub few_transfers : (d : Draft) → first_broken_rule d ≡ None → (1 ≤ length (transfers_of d)) × (length (transfers_of d) ≤ 100)
few_transfers d e = few_by d ((all_rules d).0 e).kind
