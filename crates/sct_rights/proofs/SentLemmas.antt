-- What is allowed is in the name of the banks, and nothing else happens. Proof plumbing.
use Rattle.std.specs.FinSet as set
use Rattle.std.specs.FinSet.{contains-insert}
use Rattle.std.specs.Prelude.{◌↔◌, Contains, if◌then◌else◌, is_some, position}
use Rattle.std.proofs.Common.{◌≡◌, ◌∙◌, refl, sym, ap, ℕ, Bool, true, false, not, ◌&&◌, List, [], ◌∷◌, ◌++◌, Option, None, Some, arith}
use Rattle.std.specs.List.{list_any}
use Rattle.std.proofs.lemmas.Bool.{and_from, and_parts, false_from_ne_true, false≢true}
use Rattle.std.proofs.lemmas.Bool.Decides.{nat_tests}
use Rattle.std.proofs.lemmas.List.Folds.{Any-from_list_any}
use Rattle.sct_message.specs.Keys.{transfer_key, transfers_of}
use Rattle.sct_message.specs.OrderLaws.{message_total, transfer_total, transfers_same}
use Rattle.sct_message.specs.Sets.{MessageSet}
use Rattle.sct_message.specs.Transfers.{is_instruction, is_on}
use Rattle.sct_message.specs.declared.draft.Draft.{Draft}
use Rattle.sct_message.specs.declared.draft.Draft.TheVariants as draft
use Rattle.sct_message.specs.declared.keys.TransferKey.{TransferKey}
use Rattle.sct_message.proofs.Members.{list_any-found}
use Rattle.sct_message.proofs.SameValues.{message_is, transfer_is}
use Rattle.sct_case.proofs.Membership.{any_tie}
use Rattle.sct_view.proofs.TouchedLemmas.{found_held}
use Rattle.sct_parts.proofs.Members.{held_passing}
use Rattle.sct_rights.specs.Rights.{as_beneficiary, as_originators, by_kind, for_originators, has_credit_to, has_instruction, is_credit_to, is_foreign, is_one_of, verdict}
use Rattle.sct_rights.specs.Sent.{Sending, held_after, held_after_all, is_allowed, is_granted}
use Rattle.sct_rights.specs.Laws.{BanksSendInTheirName, IsInTheirName, IsOfBeneficiary, IsOfTheirRole, NothingElseHappens, WasAllowed}
use Rattle.sct_rights.specs.declared.permission.Permission.{Permission}
use Rattle.sct_rights.specs.declared.permission.Permission.TheVariants as permission

allowed_is : (p : Permission) → is_allowed p ≡ true → p ≡ permission.Allowed
allowed_is permission.Allowed e = refl
allowed_is other e = absurd (false≢true e)

-- ---- the first place at which a test passes

some_place : {X : Type 0} (p : X → Bool) (xs : List X) → is_some (position p xs) ≡ list_any p xs
some_place p [] = refl
some_place p (x ∷ xs) = grind (arith, nat_tests, some_place p xs)

no_place : (o : Option ℕ) → is_some o ≡ false → for_originators o ≡ permission.Allowed
no_place None e = refl
no_place (Some place) e = absurd (false≢true (sym e))

none_foreign : (o : Option ℕ) → for_originators o ≡ permission.Allowed → is_some o ≡ false
none_foreign None e = refl
none_foreign (Some place) e = absurd (false≢true (ap is_allowed e))

module _ (banks : List (List ℕ)) where
  ours : (ts : List TransferKey) → list_any (is_foreign banks) ts ≡ false → (t : TransferKey) → Contains ts t → is_one_of banks t.debtor_agent ≡ true
  ours ts none t h =
      elim (is_one_of banks t.debtor_agent) as (λ b. is_one_of banks t.debtor_agent ≡ b → b ≡ true) [
        | true ↦ λ _. refl
        | false ↦ λ e. absurd (false≢true (sym none ∙ list_any-found _ transfer_is (is_foreign banks) t ts (any_tie transfer_total transfers_same ts t h) (ap not e)))
      ] refl

  no_foreign : (ts : List TransferKey) → ((t : TransferKey) → Contains ts t → is_one_of banks t.debtor_agent ≡ true) → list_any (is_foreign banks) ts ≡ false
  no_foreign ts all = false_from_ne_true _ (λ e.
      let w = Any-from_list_any (is_foreign banks) ts e in
      false≢true (sym (ap not (all w.1 (w.0, w.2, w.3))) ∙ w.4))

  of_originators : (ts : List TransferKey) → (as_originators banks ts ≡ permission.Allowed) ↔ ((t : TransferKey) → Contains ts t → is_one_of banks t.debtor_agent ≡ true)
  of_originators ts = (
    λ e. ours ts (sym (some_place (is_foreign banks) ts) ∙ none_foreign _ e),
    λ all. no_place _ (some_place (is_foreign banks) ts ∙ no_foreign ts all),
  )

  -- ---- an answer of the beneficiary bank

  credited : (instructed paid : Bool) (t : TransferKey)
      → (if not instructed then permission.Waits t else if paid then permission.Allowed else permission.NotBeneficiary) ≡ permission.Allowed → paid ≡ true
  credited false paid t e = absurd (false≢true (ap is_allowed e))
  credited true true t e = refl
  credited true false t e = absurd (false≢true (ap is_allowed e))

  credit_instructs : (m : Draft) → is_credit_to banks m ≡ true → is_instruction m ≡ true
  credit_instructs (draft.CreditTransfer d) e = refl
  credit_instructs other e = absurd (false≢true e)

  module _ (held : MessageSet) where
    of_beneficiary : (t : TransferKey) → (as_beneficiary banks held t ≡ permission.Allowed) ↔ IsOfBeneficiary banks held t
    of_beneficiary t = (
      λ e.
          let m = held_passing held (λ d. is_on t d && is_credit_to banks d) (credited (has_instruction held t) (has_credit_to banks held t) t e) in
          let both = and_parts _ _ m.2 in
          record { instruction = m.0; there = m.1; on = both.0; to_them = both.1 },
      λ w.
          let instructed : has_instruction held t ≡ true = found_held held (λ d. is_on t d && is_instruction d) w.instruction w.there (and_from _ _ w.on (credit_instructs w.instruction w.to_them)) in
          let paid : has_credit_to banks held t ≡ true = found_held held (λ d. is_on t d && is_credit_to banks d) w.instruction w.there (and_from _ _ w.on w.to_them) in
          λ i. if not (instructed i) then permission.Waits t else if paid i then permission.Allowed else permission.NotBeneficiary,
    )

    of_role : (m : Draft) → (by_kind banks held m ≡ permission.Allowed) ↔ IsOfTheirRole banks held m
    of_role (draft.CreditTransfer d) = of_originators (transfers_of (draft.CreditTransfer d))
    of_role (draft.CancellationRequest d) = of_originators (transfers_of (draft.CancellationRequest d))
    of_role (draft.StatusRequest d) = of_originators (transfers_of (draft.StatusRequest d))
    of_role (draft.StatusReport d) = of_beneficiary (transfer_key d.debtor_agent d.original.transaction_id)
    of_role (draft.PaymentReturn d) = of_beneficiary (transfer_key d.debtor_agent d.original.transaction_id)
    of_role (draft.Resolution d) = of_beneficiary (transfer_key d.debtor_agent d.original.transaction_id)

    sender_is : (ours : Bool) (role : Permission) → (if not ours then permission.NotSender else role) ≡ permission.Allowed → (ours ≡ true) × (role ≡ permission.Allowed)
    sender_is true role e = (refl, e)
    sender_is false role e = absurd (false≢true (ap is_allowed e))

    in_their_name : (m : Draft) → (verdict banks held m ≡ permission.Allowed) ↔ IsInTheirName banks held m
    unfolding verdict
    in_their_name m = (
      λ e. let both = sender_is _ _ e in record { sent = both.0; role = (of_role m).0 both.1 },
      λ w. (λ i. if not (w.sent i) then permission.NotSender else by_kind banks held m) ∙ (of_role m).1 w.role,
    )

-- ---- sendings, one after another

-- a message that a sending brings is its message, and was allowed
brought : (held : MessageSet) (s : Sending) (m : Draft) → set.contains held m ≡ false → set.contains (held_after held s) m ≡ true
    → (is_granted held s ≡ true) × (s.message ≡ m)
unfolding held_after
brought held s m out there =
    elim (is_granted held s) as (λ b. is_granted held s ≡ b → set.contains (if b then set.insert held s.message else held) m ≡ true → (is_granted held s ≡ true) × (s.message ≡ m)) [
      | true ↦ λ g h. (g, sym (message_is m s.message (grind (arith, h, out, contains-insert message_total held s.message m))))
      | false ↦ λ _ h. absurd (false≢true (sym out ∙ h))
    ] refl there

was_allowed : (held : MessageSet) (sendings : List Sending) (m : Draft) → set.contains held m ≡ false → set.contains (held_after_all held sendings) m ≡ true
    → WasAllowed held sendings m
was_allowed held [] m out there = absurd (false≢true (sym out ∙ there))
was_allowed held (s ∷ later) m out there =
    elim (set.contains (held_after held s) m) as (λ b. set.contains (held_after held s) m ≡ b → WasAllowed held (s ∷ later) m) [
      | true ↦ λ e.
          let by = brought held s m out e in
          record { before = []; sending = s; later = later; all = refl; brought = by.1; allowed = allowed_is _ by.0 }
      | false ↦ λ e.
          let w = was_allowed (held_after held s) later m e there in
          record { before = s ∷ w.before; sending = w.sending; later = w.later; all = ap (λ (ss : List Sending). s ∷ ss) w.all; brought = w.brought; allowed = w.allowed }
    ] refl

pub send_in_their_name : BanksSendInTheirName
send_in_their_name = record {
  exact = in_their_name;
  each = was_allowed;
}

joined : (held : MessageSet) (before later : List Sending) → held_after_all held (before ++ later) ≡ held_after_all (held_after_all held before) later
joined held [] later = refl
joined held (s ∷ before) later = joined (held_after held s) before later

unchanged : (held : MessageSet) (s : Sending) → is_granted held s ≡ false → held_after held s ≡ held
unfolding held_after
unchanged held s e = ap (λ (b : Bool). if b then set.insert held s.message else held) e

pub nothing_else : NothingElseHappens
nothing_else held before s later e =
    joined held before (s ∷ later)
    ∙ ap (λ (h : MessageSet). held_after_all h later) (unchanged (held_after_all held before) s e)
    ∙ sym (joined held before later)
