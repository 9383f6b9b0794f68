-- The laws of the answers. Proof plumbing.
use Rattle.std.proofs.Common.{◌≡◌, ℕ, ◌+◌, Bool, true, false, List, length, refl, sym, ap, ◌∙◌, filter, Option, Some, arith, rules}
use Rattle.std.specs.FinSet.{members}
use Rattle.std.specs.Prelude.{if◌then◌else◌}
use Rattle.std.specs.List.{list_any, sum_by}
use Rattle.std.specs.Cmp.{eq_by_cmp_equiv}
use Rattle.std.proofs.lemmas.Bool.{false_from_ne_true, false≢true, not-false}
use Rattle.std.proofs.lemmas.List.Sums.{length-filter}
use Rattle.std.proofs.lemmas.Map.Views.{list_any-from_Contains}
use Rattle.sct_element.specs.Text.{is_text}
use Rattle.sct_message.specs.Order.{same_transfer}
use Rattle.sct_message.specs.OrderLaws.{message_total, transfer_total}
use Rattle.sct_message.specs.Sets.{MessageSet}
use Rattle.sct_message.specs.Transfers.{instruction_of, keys_of}
use Rattle.sct_message.specs.declared.draft.Draft.{Draft}
use Rattle.sct_message.specs.declared.draft.Draft.TheVariants.{CreditTransfer}
use Rattle.sct_message.specs.declared.keys.TransferKey.{TransferKey}
use Rattle.sct_message.proofs.Members.{list_any-found}
use Rattle.sct_case.specs.Statuses.{Standing}
use Rattle.sct_set.proofs.ContentsLemmas.{same_contents}
use Rattle.sct_view.specs.Answers.{is_beneficiary, is_originator, status_of}
use Rattle.sct_view.specs.Laws.{EachTransferIsCountedOnce, counted_in, EqualSetsHaveEqualTexts, MoneyIsConserved, OrderOfBatchesDoesNotMatter, over_all_banks}
use Rattle.sct_view.specs.StatusText.{status_text_of}
use Rattle.sct_view.specs.Totals.{banks_of, banks_on, beneficiary_in, cents_in, share, share_of, share_of_originator, totals_of, totals_over}
use Rattle.sct_view.specs.TotalsText.{totals_text_of}
use Rattle.sct_view.specs.declared.totals.Totals.{Totals}
use Rattle.sct_message.proofs.SameValues.{text_is, text_itself, transfer_is, transfer_itself}
use Rattle.sct_view.proofs.SetKeys.{banks_apart, key-is_on}
use Rattle.sct_view.proofs.StandingLemmas.{is_instructed, is_known, is_settled, key_known, settled_instructed}
use Rattle.sct_view.proofs.BankLemmas.{any_candidate, candidates, has_totals_told, is_nothing-is, number_of}
use Rattle.sct_view.proofs.SumLemmas.{AreApart, sum_alike_on, sum_at_one, sum_both, sum_exchanged, sum_kept, sum_none}
use Rattle.sct_view.proofs.TotalsLemmas.{IsNumber}

-- ---- equal sets, and the order of batches

pub equal_texts : EqualSetsHaveEqualTexts
equal_texts = record {
  status = λ a b same. ap status_text_of (same_contents a b same);
  totals = λ a b same. ap totals_text_of (same_contents a b same);
}

pub any_order : OrderOfBatchesDoesNotMatter
any_order held one other = same_contents _ _ (λ d. grind (arith, members, message_total))

-- ---- a number summed over all banks

abbrev is_key : MessageSet → TransferKey → Bool
is_key held t = list_any (same_transfer t) (keys_of held)

-- it is the sum over all transfers of what the shares of each come to
over_transfers : (n : Totals → ℕ) → IsNumber n → (held : MessageSet) (count : TransferKey → ℕ)
    → ((t : TransferKey) → is_key held t ≡ true → sum_by (λ bank. n (share_of held bank t)) (candidates held) ≡ count t)
    → over_all_banks n held ≡ sum_by count (keys_of held)
unfolding banks_of
over_transfers n is held count each =
    sum_kept (λ bank. n (totals_of held bank)) (has_totals_told held) (λ bank e. ap n (is_nothing-is (totals_of held bank) (not-false _ e)) ∙ is.none) (candidates held)
    ∙ (λ i. sum_by (λ bank. number_of n is held bank i) (candidates held))
    ∙ sum_exchanged (λ bank t. n (share_of held bank t)) (candidates held) (keys_of held)
    ∙ sum_alike_on same_transfer transfer_itself _ count (keys_of held) each

-- each bank of a transfer of the set is a candidate
is_candidate : (held : MessageSet) (t : TransferKey) → is_key held t ≡ true → (bank : List ℕ)
    → list_any (is_text bank) (banks_on held t) ≡ true → list_any (is_text bank) (candidates held) ≡ true
is_candidate held t h bank among =
    any_candidate (is_text bank) held
    ∙ list_any-found same_transfer transfer_is (λ k. list_any (is_text bank) (banks_on held k)) t (keys_of held) h among

-- ---- what is sent is received

-- A number of the sending side, and its like of the receiving side: a transfer counts as much on both, and nothing
-- before it was accepted.
record AreOpposite (n m : Totals → ℕ) : Type 0 where
  sending : IsNumber n
  receiving : IsNumber m
  count : Standing → ℕ → ℕ
  sent : (bank : List ℕ) (t : TransferKey) (stands : Standing) (instruction : Option Draft)
      → n (share bank t stands instruction) ≡ (if is_originator bank t then count stands (cents_in instruction) else 0)
  received : (bank : List ℕ) (t : TransferKey) (stands : Standing) (instruction : Option Draft)
      → m (share bank t stands instruction) ≡ (if is_beneficiary bank instruction then count stands (cents_in instruction) else 0)
  unsettled : (stands : Standing) (cents : ℕ) → is_settled stands ≡ false → count stands cents ≡ 0

counts : AreOpposite (λ t. t.sent) (λ t. t.received)
unfolding share
counts = record {
  sending = search rules;
  receiving = search rules;
  count = λ stands cents. (share_of_originator stands cents).sent;
  sent = λ bank t stands instruction. grind arith;
  received = λ bank t stands instruction. grind arith;
  unsettled = λ stands cents e. grind arith;
}

amounts : AreOpposite (λ t. t.sent_cents) (λ t. t.received_cents)
unfolding share
amounts = record {
  sending = search rules;
  receiving = search rules;
  count = λ stands cents. (share_of_originator stands cents).sent_cents;
  sent = λ bank t stands instruction. grind arith;
  received = λ bank t stands instruction. grind arith;
  unsettled = λ stands cents e. grind arith;
}

amounts_back : AreOpposite (λ t. t.returned_in) (λ t. t.returned_out)
unfolding share
amounts_back = record {
  sending = search rules;
  receiving = search rules;
  count = λ stands cents. (share_of_originator stands cents).returned_in;
  sent = λ bank t stands instruction. grind arith;
  received = λ bank t stands instruction. grind arith;
  unsettled = λ stands cents e. grind arith;
}

-- the beneficiary bank is named just once, if there is an instruction
received_once : (instruction : Option Draft) (n : ℕ) (banks : List (List ℕ)) → AreApart is_text banks
    → ((bank : List ℕ) → list_any (is_text bank) (beneficiary_in instruction) ≡ true → list_any (is_text bank) banks ≡ true)
    → (is_instructed instruction ≡ false → n ≡ 0) → sum_by (λ bank. if is_beneficiary bank instruction then n else 0) banks ≡ n
received_once (Some (CreditTransfer d)) n banks apart among none =
    sum_at_one is_text text_is text_itself d.creditor_agent n banks apart (among d.creditor_agent (grind (arith, text_itself d.creditor_agent)))
received_once other n banks apart among none = sum_none (λ bank. 0) (λ bank. refl) banks ∙ sym (none refl)

conserved : (n m : Totals → ℕ) → AreOpposite n m → (held : MessageSet) → over_all_banks n held ≡ over_all_banks m held
conserved n m o held =
    let stands = status_of held in
    let instruction = instruction_of held in
    let count = λ (t : TransferKey). o.count (stands t) (cents_in (instruction t)) in
    over_transfers n o.sending held count (λ t h.
    (λ i. sum_by (λ bank. o.sent bank t (stands t) (instruction t) i) (candidates held))
    ∙ sum_at_one is_text text_is text_itself t.debtor_agent (count t) (candidates held) (banks_apart _) (is_candidate held t h t.debtor_agent (grind (arith, text_itself t.debtor_agent))))
    ∙ sym (over_transfers m o.receiving held count (λ t h.
    (λ i. sum_by (λ bank. o.received bank t (stands t) (instruction t) i) (candidates held))
    ∙ received_once (instruction t) (count t) (candidates held) (banks_apart _) (λ bank among. is_candidate held t h bank (grind arith))
    (λ e. o.unsettled (stands t) _ (false_from_ne_true _ (λ settled. false≢true (sym e ∙ settled_instructed held t settled))))))

pub money_is_conserved : MoneyIsConserved
money_is_conserved = record {
  count = conserved (λ t. t.sent) (λ t. t.received) counts;
  cents = conserved (λ t. t.sent_cents) (λ t. t.received_cents) amounts;
  returned = conserved (λ t. t.returned_in) (λ t. t.returned_out) amounts_back;
}

-- ---- each transfer is counted once

counted_over : (f : TransferKey → Totals) (ts : List TransferKey) → counted_in (totals_over f ts) ≡ sum_by (λ t. counted_in (f t)) ts
counted_over f ts =
    omega (
      arith,
      sum_both (λ t. (f t).sent) (λ t. (f t).rejected) ts,
      sum_both (λ t. (f t).sent + (f t).rejected) (λ t. (f t).waiting) ts,
      sum_both (λ t. (f t).sent + (f t).rejected + (f t).waiting) (λ t. (f t).missing) ts,
      sum_both (λ t. (f t).sent + (f t).rejected + (f t).waiting + (f t).missing) (λ t. (f t).contradicted) ts,
    )

share_counted : (bank : List ℕ) (t : TransferKey) (stands : Standing) (instruction : Option Draft) → is_known stands ≡ true
    → counted_in (share bank t stands instruction) ≡ (if is_originator bank t then 1 else 0)
unfolding share
share_counted bank t stands instruction known = grind arith

counted : (held : MessageSet) (bank : List ℕ) (t : TransferKey) → is_key held t ≡ true
    → counted_in (share_of held bank t) ≡ (if is_originator bank t then 1 else 0)
counted held bank t h = share_counted bank t (status_of held t) (instruction_of held t) (key_known held t (sym (key-is_on held t) ∙ h))

add_up : (held : MessageSet) (bank : List ℕ) → counted_in (totals_of held bank) ≡ length (filter (is_originator bank) (keys_of held))
unfolding totals_of
add_up held bank =
    counted_over (share_of held bank) (keys_of held)
    ∙ sum_alike_on same_transfer transfer_itself _ (λ t. if is_originator bank t then 1 else 0) (keys_of held) (counted held bank)
    ∙ sym (length-filter (is_originator bank) (keys_of held))

pub counted_once : EachTransferIsCountedOnce
counted_once = record {
  all = add_up;
  each = λ held t h.
      counted held t.debtor_agent t (list_any-from_Contains (eq_by_cmp_equiv transfer_total) t (keys_of held) h)
      ∙ ap (λ b. if b then 1 else 0) (text_itself t.debtor_agent);
}
