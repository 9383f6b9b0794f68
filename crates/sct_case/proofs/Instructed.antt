-- How often a transfer is instructed, by the list of what its messages say of it.
use Rattle.std.proofs.Common.{◌≡◌, ◌∙◌, refl, sym, ap, subst, arith, Bool, true, false, cond, not, List, [], ◌∷◌, length, map, filter}
use Rattle.std.specs.Prelude.{◌≢◌, ◌==◌, nat_lt, Contains}
use Rattle.std.specs.Bool.{Decides}
use Rattle.std.specs.List.{flat_map}
use Rattle.std.proofs.lemmas.Bool.{false≢true, lt-ltb}
use Rattle.std.proofs.lemmas.Bool.Decides.{Decides-at, Decides-eqb, Decides-like, Decides-not}
use Rattle.std.proofs.lemmas.List.{length-map}
use Rattle.sct_message.specs.Keys.{identity_of}
use Rattle.sct_message.specs.Transfers.{is_instruction}
use Rattle.sct_message.specs.declared.draft.Draft.{Draft}
use Rattle.sct_message.specs.declared.draft.Draft.TheVariants.{CreditTransfer}
use Rattle.sct_message.specs.declared.keys.TransferKey.{TransferKey}
use Rattle.sct_case.specs.declared.said.InstructedAmount.{InstructedAmount}
use Rattle.sct_case.specs.declared.said.OriginalAmount.{OriginalAmount}
use Rattle.sct_case.specs.Said.{IsSaid, amounts_by, instructions_by}
use Rattle.sct_case.specs.Told.{does_amount_differ, has_some, has_two_instructions, names_another}
use Rattle.sct_case.specs.Findings.{DoesAmountDiffer, HasTwoInstructions}
use Rattle.sct_case.specs.Sentences.{IsInstructed}
use Rattle.sct_case.specs.Laws.{HaveDistinctIdentities}
use Rattle.sct_case.proofs.Membership.{any_said-Decides, filtered_in, here, in_filter, later, nothing, only, some-Decides}

-- ---- the amounts that are instructed are those of the instructions

abbrev instructed_amount : Draft → InstructedAmount
instructed_amount (CreditTransfer d) = record { amount = d.settlement_amount }
instructed_amount other = record { amount = 0 }

said_by_instructions : (clean : List Draft) → flat_map instructions_by clean ≡ map instructed_amount (filter is_instruction clean)
said_by_instructions [] = refl
said_by_instructions (CreditTransfer d ∷ ms) = ap (λ (xs : List InstructedAmount). record { amount = d.settlement_amount } ∷ xs) (said_by_instructions ms)
said_by_instructions (m ∷ ms) = said_by_instructions ms

says_amount : (m : Draft) → is_instruction m ≡ true → Contains (instructions_by m) (instructed_amount m)
says_amount (CreditTransfer d) i = here _ []
says_amount m i = absurd (false≢true i)

amount_said : (m : Draft) (a : InstructedAmount) → Contains (instructions_by m) a → instructed_amount m ≡ a
amount_said (CreditTransfer d) a h = only _ a h
amount_said m a h = absurd (nothing a h)

apart-filter : (p : Draft → Bool) (ms : List Draft) → HaveDistinctIdentities ms → HaveDistinctIdentities (filter p ms)
apart-filter p [] apart = tt
apart-filter p (m ∷ ms) apart = elim (p m) as (λ b. HaveDistinctIdentities (cond b (m ∷ filter p ms) (filter p ms))) [
  | true ↦ ((λ n h. apart.0 n (in_filter p ms n h).0), apart-filter p ms apart.1)
  | false ↦ apart-filter p ms apart.1
]

-- ---- by how many instructions there are

abbrev AreTwo : List Draft → Type 0
AreTwo is = (m : Draft) × (n : Draft) × Contains is m × Contains is n × (m ≢ n)

are_two-Decides : (is : List Draft) → HaveDistinctIdentities is → Decides (nat_lt 1 (length (map instructed_amount is))) (AreTwo is)
are_two-Decides [] apart = ((λ h. absurd (false≢true h)), λ s. absurd (nothing s.0 s.2))
are_two-Decides (m ∷ []) apart = ((λ h. absurd (false≢true h)), λ s. absurd (s.4 (sym (only m s.0 s.2) ∙ only m s.1 s.3)))
are_two-Decides (m ∷ (n ∷ is)) apart = (
  (λ _. (m, n, here m (n ∷ is), later m (n ∷ is) n (here n is), λ e. apart.0 n (here n is) (ap identity_of e))),
  λ _. lt-ltb _ _ (omega arith),
)

-- one of the instructions is the only one, and the other amount differs from its own
abbrev DiffersFromSole : TransferKey → List Draft → List Draft → Type 0
DiffersFromSole t clean is =
    (m : Draft) × Contains is m × ((n : Draft) → Contains is n → n ≡ m)
    × ((o : OriginalAmount) × IsSaid (amounts_by t) clean o × (o.amount ≢ (instructed_amount m).amount))

module _ (t : TransferKey) (clean : List Draft) where
  differs-Decides : (is : List Draft) → HaveDistinctIdentities is → Decides (names_another (map instructed_amount is) (flat_map (amounts_by t) clean)) (DiffersFromSole t clean is)
  differs-Decides [] apart = ((λ h. absurd (false≢true h)), λ s. absurd (nothing s.0 s.1))
  differs-Decides (m ∷ []) apart = Decides-like _
      (λ o. (m, here m [], (λ n h. sym (only m n h)), o))
      (λ s. (s.3.0, s.3.1, subst (λ x. s.3.0.amount ≢ (instructed_amount x).amount) (sym (only m s.0 s.1)) s.3.2))
      (any_said-Decides (amounts_by t) clean _ (λ o. o.amount ≢ (instructed_amount m).amount) (λ o. Decides-not _ (Decides-eqb o.amount (instructed_amount m).amount)))
  differs-Decides (m ∷ (n ∷ is)) apart = (
    (λ h. absurd (false≢true h)),
    λ s. absurd (apart.0 n (here n is) (ap identity_of (s.2 m (here m (n ∷ is)) ∙ sym (s.2 n (later m (n ∷ is) n (here n is)))))),
  )

module _ (clean : List Draft) where
  abbrev instructions : List Draft
  instructions = filter is_instruction clean

  pub instructed-Decides : Decides (has_some (flat_map instructions_by clean)) (IsInstructed clean)
  instructed-Decides =
      Decides-at _ _ (ap has_some (said_by_instructions clean) ∙ ap (λ n. not (n == 0)) (length-map instructions instructed_amount))
      (Decides-like _ (λ s. let one = in_filter is_instruction clean s.0 s.1 in (s.0, one.0, one.1)) (λ s. (s.0, filtered_in is_instruction clean s.0 s.1 s.2)) (some-Decides instructions))

  pub two-Decides : HaveDistinctIdentities clean → Decides (has_two_instructions clean) (HasTwoInstructions clean)
  two-Decides apart =
      Decides-at _ _ (ap (λ (xs : List InstructedAmount). nat_lt 1 (length xs)) (said_by_instructions clean))
      (Decides-like _
      (λ s.
      let one = in_filter is_instruction clean s.0 s.2 in
      let other = in_filter is_instruction clean s.1 s.3 in
      record { one = s.0; other = s.1; one_held = one.0; other_held = other.0; one_instructs = one.1; other_instructs = other.1; different = s.4 })
      (λ h. (h.one, h.other, filtered_in is_instruction clean h.one h.one_held h.one_instructs, filtered_in is_instruction clean h.other h.other_held h.other_instructs, h.different))
      (are_two-Decides instructions (apart-filter is_instruction clean apart)))

  pub amount-Decides : (t : TransferKey) → HaveDistinctIdentities clean → Decides (does_amount_differ t clean) (DoesAmountDiffer t clean)
  amount-Decides t apart =
      Decides-at _ _ (ap (λ (xs : List InstructedAmount). names_another xs (flat_map (amounts_by t) clean)) (said_by_instructions clean))
      (Decides-like _
      (λ s.
      let one = in_filter is_instruction clean s.0 s.1 in
      record {
        instruction = s.0;
        sole = record { held = one.0; instructs = one.1; sole = λ n h i. s.2 n (filtered_in is_instruction clean n h i) };
        instructed = instructed_amount s.0;
        of_instruction = says_amount s.0 one.1;
        named = s.3.0;
        is_named = s.3.1;
        different = s.3.2;
      })
      (λ d. (
        d.instruction,
        filtered_in is_instruction clean d.instruction d.sole.held d.sole.instructs,
        (λ n h. let one = in_filter is_instruction clean n h in d.sole.sole n one.0 one.1),
        (d.named, d.is_named, subst (λ a. d.named.amount ≢ a.amount) (sym (amount_said d.instruction d.instructed d.of_instruction)) d.different),
      ))
      (differs-Decides t clean instructions (apart-filter is_instruction clean apart)))
