-- Transfers that a batch does not touch. Proof plumbing.
use Rattle.std.proofs.Common.{◌≡◌, Bool, true, false, not, ◌&&◌, List, [], ◌∷◌, ◌++◌, map, refl, sym, ap, subst, ◌∙◌, filter, arith}
use Rattle.std.specs.FinSet as set
use Rattle.std.specs.FinSet.{contains-items, members}
use Rattle.std.specs.List.{flat_map, list_any}
use Rattle.std.proofs.lemmas.Bool.{and_from, false_from_ne_true, false≢true, or_parts}
use Rattle.std.proofs.lemmas.List.Folds.{list_any-append}
use Rattle.std.proofs.lemmas.Map.Views.{Contains-from_any}
use Rattle.sct_message.specs.Ascending.{ascending}
use Rattle.sct_message.specs.Keys.{identity_of, transfers_of}
use Rattle.sct_message.specs.Order.{identity_order, same_message, same_transfer}
use Rattle.sct_message.specs.OrderLaws.{message_total, message_same, transfer_total, transfers_same}
use Rattle.sct_message.specs.Sets.{MessageSet, in_order, is_contradicted}
use Rattle.sct_message.specs.Transfers.{asides_of, instruction_of, is_instruction, is_on, messages_on, sole}
use Rattle.sct_message.specs.declared.draft.Draft.{Draft}
use Rattle.sct_message.specs.declared.keys.TransferKey.{TransferKey}
use Rattle.sct_message.proofs.AscendingLemmas.{any_ascending, ascending-filter, ascending-same}
use Rattle.sct_message.proofs.Members.{list_any-filter, list_any-found, tie_is}
use Rattle.sct_case.specs.Statuses.{recall_status_of, transfer_status_of}
use Rattle.sct_case.specs.Told.{findings_of}
use Rattle.sct_set.proofs.ContentsLemmas.{same_contents}
use Rattle.sct_view.specs.Answers.{found_on, recall_of, status_of}
use Rattle.sct_view.specs.Kept.{case_of, contradicted_on}
use Rattle.sct_view.specs.Listed.{recalls_in_case}
use Rattle.sct_view.specs.Totals.{share}
use Rattle.sct_view.specs.Touched.{IsToldAlike, UntouchedTransfersStay, fresh_of, is_newly_contradicted, touched_by}
use Rattle.sct_view.proofs.EvaluationLemmas.{among_picked, contradicted_in_union}
use Rattle.sct_message.proofs.Tests.{any_flat_map}
use Rattle.sct_message.proofs.SameValues.{transfer_is}
use Rattle.sct_view.proofs.SetKeys.{on_is}
use Rattle.sct_view.proofs.ToldLemmas.{recalls_kept}

-- ---- messages that pass a test, in order

filter_filter : {X : Type 0} (p q : X → Bool) (xs : List X) → filter p (filter q xs) ≡ filter (λ x. q x && p x) xs
filter_filter p q [] = refl
filter_filter p q (x ∷ xs) = grind (arith, filter_filter p q xs)

-- the messages of two sets that pass a test each, where the same messages do
picked_alike : (s t : MessageSet) (p r : Draft → Bool)
    → ((q : Draft) → (p q && set.contains s q) ≡ (r q && set.contains t q)) → filter p (in_order s) ≡ filter r (in_order t)
picked_alike s t p r alike =
    sym (ascending-filter message_total message_same p (set.items s))
    ∙ ascending-same message_total message_same (filter p (set.items s)) (filter r (set.items t)) (λ q.
    grind (arith, alike q, among_picked p q (set.items s), among_picked r q (set.items t), contains-items s q, contains-items t q))
    ∙ ascending-filter message_total message_same r (set.items t)

-- ---- what is not touched

-- Nothing of a transfer is fresh, and nothing that was held of it is newly contradicted.
pub record IsUntouched (s f : MessageSet) (t : TransferKey) : Type 0 where
  pub not_fresh : (m : Draft) → is_on t m ≡ true → set.contains f m ≡ false
  pub not_newly : (m : Draft) → is_on t m ≡ true → set.contains s m ≡ true → is_newly_contradicted s f m ≡ false

pub found_held : (s : MessageSet) (p : Draft → Bool) (m : Draft) → set.contains s m ≡ true → p m ≡ true → list_any p (set.items s) ≡ true
found_held s p m held = list_any-found same_message (tie_is message_total message_same) p m (set.items s) (sym (contains-items s m) ∙ held)

pub untouched_where : (s f : MessageSet) (t : TransferKey) → list_any (same_transfer t) (touched_by s f) ≡ false → IsUntouched s f t
unfolding touched_by
untouched_where s f t h =
    let fresh = flat_map transfers_of (set.items f) in
    let newly = flat_map transfers_of (filter (is_newly_contradicted s f) (set.items s)) in
    let at = λ (m : Draft). list_any (same_transfer t) (transfers_of m) in
    let both = or_parts (list_any (same_transfer t) fresh) (list_any (same_transfer t) newly)
    (sym (list_any-append (same_transfer t) fresh newly) ∙ sym (any_ascending transfer_total transfers_same (same_transfer t) (fresh ++ newly)) ∙ h) in
    let no_fresh = sym (any_flat_map (same_transfer t) transfers_of (set.items f)) ∙ both.0 in
    let no_newly = sym (list_any-filter at (is_newly_contradicted s f) (set.items s))
    ∙ sym (any_flat_map (same_transfer t) transfers_of (filter (is_newly_contradicted s f) (set.items s))) ∙ both.1 in
    record {
      not_fresh = λ m on. false_from_ne_true _ (λ held. false≢true (sym no_fresh ∙ found_held f at m held (sym (on_is t m) ∙ on)));
      not_newly = λ m on held.
          false_from_ne_true _ (λ e. false≢true (sym no_newly ∙ found_held s (λ n. is_newly_contradicted s f n && at n) m held (and_from _ _ e (sym (on_is t m) ∙ on))));
    }

module _ (s f : MessageSet) (t : TransferKey) (untouched : IsUntouched s f t) where
  -- the messages of a transfer that is not touched, clean or contradicted, are those that were there
  parted_alike : (a : Bool → Bool)
      → filter (is_on t) (filter (λ m. a (is_contradicted (set.union s f) m)) (in_order (set.union s f)))
      ≡ filter (is_on t) (filter (λ m. a (is_contradicted s m)) (in_order s))
  parted_alike a =
      filter_filter (is_on t) (λ m. a (is_contradicted (set.union s f) m)) (in_order (set.union s f))
      ∙ picked_alike (set.union s f) s (λ m. a (is_contradicted (set.union s f) m) && is_on t m) (λ m. a (is_contradicted s m) && is_on t m)
      (λ m. grind (arith, members, message_total, untouched.not_fresh m, untouched.not_newly m, contradicted_in_union s f m))
      ∙ sym (filter_filter (is_on t) (λ m. a (is_contradicted s m)) (in_order s))

  same_messages : messages_on (set.union s f) t ≡ messages_on s t
  same_messages = parted_alike not

  same_contradicted : contradicted_on (set.union s f) t ≡ contradicted_on s t
  same_contradicted = parted_alike (λ b. b)

  same_asides : asides_of (set.union s f) t ≡ asides_of s t
  same_asides = ap (λ (ms : List Draft). ascending identity_order (map identity_of ms)) same_contradicted

  same_status : status_of (set.union s f) t ≡ status_of s t
  unfolding status_of
  same_status = λ i. transfer_status_of t (same_messages i) (same_asides i)

  -- and so what is kept of it
  pub same_case : case_of (set.union s f) t ≡ case_of s t
  unfolding case_of
  same_case = λ i. record { clean = same_messages i; contradicted = same_contradicted i; stands = same_status i }

  same_instruction : instruction_of (set.union s f) t ≡ instruction_of s t
  same_instruction = ap (λ (ms : List Draft). sole (filter is_instruction ms)) same_messages

  told_alike : IsToldAlike s (set.union s f) t
  unfolding found_on recall_of
  told_alike = record {
    messages = same_messages;
    asides = same_asides;
    instruction = same_instruction;
    status = same_status;
    findings = λ i. findings_of t (same_messages i) (same_asides i);
    recalls = sym (recalls_kept (set.union s f) t _ refl) ∙ ap (recalls_in_case t) same_case ∙ recalls_kept s t _ refl;
    recall = λ cxl i. recall_status_of t (same_messages i) (same_asides i) cxl;
    shares = λ bank i. share bank t (same_status i) (same_instruction i);
  }

-- ---- batches

-- to join the fresh messages of a batch is to join the batch
pub union-fresh : (held batch : MessageSet) → set.union held (fresh_of held batch) ≡ set.union held batch
union-fresh held batch = same_contents _ _ (λ d. grind (arith, members, message_total))

pub untouched_stay : UntouchedTransfersStay
untouched_stay held batch t away =
    let fresh = fresh_of held batch in
    let not_among = false_from_ne_true _ (λ among. away (Contains-from_any transfer_is t (touched_by held fresh) among)) in
    subst (λ (later : MessageSet). IsToldAlike held later t) (union-fresh held batch) (told_alike held fresh t (untouched_where held fresh t not_among))
