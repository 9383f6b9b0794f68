-- What is visible to banks: it has all messages on each transfer of theirs, and contradicts the same ones. Proof plumbing.
use Rattle.std.specs.FinSet as set
use Rattle.std.proofs.Common.{◌≡◌, ◌∙◌, refl, sym, ap, ℕ, Bool, true, false, not, ◌&&◌, List, map, filter, arith}
use Rattle.std.specs.List.{list_any}
use Rattle.std.proofs.lemmas.Bool.{and_from}
use Rattle.sct_message.specs.Ascending.{ascending}
use Rattle.sct_message.specs.Keys.{identity_of, transfers_of}
use Rattle.sct_message.specs.Order.{identity_order, same_identity, same_message}
use Rattle.sct_message.specs.Sets.{MessageSet, in_order, is_contradicted}
use Rattle.sct_message.specs.Transfers.{asides_of, instruction_of, is_instruction, is_on, messages_on, sole}
use Rattle.sct_message.specs.declared.draft.Draft.{Draft}
use Rattle.sct_message.specs.declared.keys.Identity.{Identity}
use Rattle.sct_message.specs.declared.keys.TransferKey.{TransferKey}
use Rattle.sct_message.proofs.Members.{list_any-found}
use Rattle.sct_message.proofs.SameValues.{identity_is, identity_itself, transfer_is}
use Rattle.sct_case.specs.Statuses.{recall_status_of, transfer_status_of}
use Rattle.sct_case.specs.Told.{findings_of}
use Rattle.sct_view.specs.Answers.{found_on, recall_of, status_of}
use Rattle.sct_view.specs.Kept.{case_of, contradicted_on}
use Rattle.sct_view.specs.Listed.{recalls_in_case}
use Rattle.sct_view.specs.Totals.{share}
use Rattle.sct_view.specs.Touched.{IsToldAlike}
use Rattle.sct_view.proofs.SetKeys.{on_is}
use Rattle.sct_view.proofs.ToldLemmas.{recalls_kept}
use Rattle.sct_view.proofs.TouchedLemmas.{found_held}
use Rattle.sct_rights.specs.Rights.{is_theirs}
use Rattle.sct_rights.specs.Shown.{is_on_theirs, is_visible, visible}
use Rattle.sct_rights.proofs.PickedLemmas.{filter_filter, picked_alike, picked_any, picked_held}

and_no : (b : Bool) → (b && false) ≡ false
and_no true = refl
and_no false = refl

module _ (banks : List (List ℕ)) (s : MessageSet) where
  pub visible_held : (m : Draft) → set.contains (visible banks s) m ≡ (is_visible banks s m && set.contains s m)
  unfolding visible
  visible_held m = picked_held s (is_visible banks s) m

  -- a message on a transfer that is theirs is visible
  pub on_theirs : (t : TransferKey) (m : Draft) → is_theirs banks s t ≡ true → is_on t m ≡ true → is_on_theirs banks s m ≡ true
  on_theirs t m theirs on = list_any-found _ transfer_is (is_theirs banks s) t (transfers_of m) (sym (on_is t m) ∙ on) theirs

  pub theirs_visible : (t : TransferKey) → is_theirs banks s t ≡ true → (m : Draft) → is_on t m ≡ true → set.contains s m ≡ true
      → is_visible banks s m ≡ true
  theirs_visible t theirs m on held =
      found_held s (λ other. same_identity (identity_of other) (identity_of m) && is_on_theirs banks s other) m held
      (and_from _ _ (identity_itself (identity_of m)) (on_theirs t m theirs on))

  -- whether a message is visible depends on its identity alone
  visible_alike : (m other : Draft) → identity_of other ≡ identity_of m → is_visible banks s other ≡ is_visible banks s m
  visible_alike m other e =
      ap (λ (i : Identity). list_any (λ x. same_identity (identity_of x) i && is_on_theirs banks s x) (set.items s)) e

  rivals_visible : (m : Draft) → is_visible banks s m ≡ true → (other : Draft)
      → (is_visible banks s other && (same_identity (identity_of other) (identity_of m) && not (same_message other m)))
      ≡ (same_identity (identity_of other) (identity_of m) && not (same_message other m))
  rivals_visible m seen other =
      elim (same_identity (identity_of other) (identity_of m))
      as (λ b. same_identity (identity_of other) (identity_of m) ≡ b → (is_visible banks s other && (b && not (same_message other m))) ≡ (b && not (same_message other m))) [
        | true ↦ λ e. ap (λ (b : Bool). b && (true && not (same_message other m))) (visible_alike m other (identity_is _ _ e) ∙ seen)
        | false ↦ λ _. and_no (is_visible banks s other)
      ] refl

  -- and so it is contradicted as it is in the whole
  pub same_contradicted : (m : Draft) → is_visible banks s m ≡ true → is_contradicted (visible banks s) m ≡ is_contradicted s m
  unfolding visible
  same_contradicted m seen =
      picked_any s (is_visible banks s) (λ other. same_identity (identity_of other) (identity_of m) && not (same_message other m))
      ∙ ap (λ (p : Draft → Bool). list_any p (set.items s)) (λ i other. rivals_visible m seen other i)

module _ (banks : List (List ℕ)) (s : MessageSet) (t : TransferKey) (theirs : is_theirs banks s t ≡ true) where
  abbrev seen : MessageSet
  seen = visible banks s

  -- the messages on a transfer that is theirs are all there, clean or contradicted
  parted_alike : (a : Bool → Bool)
      → filter (is_on t) (filter (λ m. a (is_contradicted seen m)) (in_order seen))
      ≡ filter (is_on t) (filter (λ m. a (is_contradicted s m)) (in_order s))
  parted_alike a =
      filter_filter (is_on t) (λ m. a (is_contradicted seen m)) (in_order seen)
      ∙ picked_alike seen s (λ m. a (is_contradicted seen m) && is_on t m) (λ m. a (is_contradicted s m) && is_on t m)
      (λ m. grind (arith, theirs_visible banks s t theirs m, same_contradicted banks s m, visible_held banks s m))
      ∙ sym (filter_filter (is_on t) (λ m. a (is_contradicted s m)) (in_order s))

  pub all_alike : filter (is_on t) (in_order seen) ≡ filter (is_on t) (in_order s)
  all_alike =
      picked_alike seen s (is_on t) (is_on t) (λ m. grind (arith, theirs_visible banks s t theirs m, visible_held banks s m))

  same_messages : messages_on seen t ≡ messages_on s t
  same_messages = parted_alike not

  same_disputed : contradicted_on seen t ≡ contradicted_on s t
  same_disputed = parted_alike (λ b. b)

  same_asides : asides_of seen t ≡ asides_of s t
  same_asides = ap (λ (ms : List Draft). ascending identity_order (map identity_of ms)) same_disputed

  same_status : status_of seen t ≡ status_of s t
  unfolding status_of
  same_status = λ i. transfer_status_of t (same_messages i) (same_asides i)

  same_case : case_of seen t ≡ case_of s t
  unfolding case_of
  same_case = λ i. record { clean = same_messages i; contradicted = same_disputed i; stands = same_status i }

  same_instruction : instruction_of seen t ≡ instruction_of s t
  same_instruction = ap (λ (ms : List Draft). sole (filter is_instruction ms)) same_messages

  pub told_alike : IsToldAlike s seen t
  unfolding found_on recall_of
  told_alike = record {
    messages = same_messages;
    asides = same_asides;
    instruction = same_instruction;
    status = same_status;
    findings = λ i. findings_of t (same_messages i) (same_asides i);
    recalls = sym (recalls_kept seen t _ refl) ∙ ap (recalls_in_case t) same_case ∙ recalls_kept s t _ refl;
    recall = λ cxl i. recall_status_of t (same_messages i) (same_asides i) cxl;
    shares = λ bank i. share bank t (same_status i) (same_instruction i);
  }
