-- The cases of a set of messages before and after a batch. Proof plumbing.
use Rattle.std.proofs.Common.{◌≡◌, Bool, true, false, ◌||◌, List, [], ◌∷◌, map, refl, sym, ap, ◌∙◌, filter, not}
use Rattle.std.specs.FinSet as set
use Rattle.std.specs.Prelude.{if◌then◌else◌}
use Rattle.std.specs.List.{list_any}
use Rattle.std.specs.List.Sorted.{IsStrictlySortedBy}
use Rattle.sct_message.specs.Ascending.{ascending}
use Rattle.sct_message.specs.Keys.{identity_of}
use Rattle.sct_message.specs.Order.{identity_order}
use Rattle.sct_message.specs.OrderLaws.{identity_total, identities_same, message_total, message_same}
use Rattle.sct_message.specs.Sets.{MessageSet, in_order, is_contradicted}
use Rattle.sct_message.specs.Transfers.{asides_of, is_on, keys_of, messages_on}
use Rattle.sct_message.specs.declared.draft.Draft.{Draft}
use Rattle.sct_message.specs.declared.keys.TransferKey.{TransferKey}
use Rattle.sct_message.proofs.AscendingLemmas.{any_ascending, ascending-sorted}
use Rattle.sct_case.specs.Statuses.{Unknown, transfer_status_of}
use Rattle.sct_case.proofs.Judged.{found_of_asides, unknown}
use Rattle.sct_view.specs.Answers.{status_of}
use Rattle.sct_view.specs.Changes.{Change, case_after, change_in, changes_of}
use Rattle.sct_view.specs.Kept.{Kept, ListsAll, case_of, contradicted_on, kept_in, no_messages, same_key}
use Rattle.sct_view.specs.Touched.{touched_by}
use Rattle.sct_view.specs.declared.case.Planned.{Planned}
use Rattle.sct_message.proofs.Tests.{none_kept}
use Rattle.sct_view.proofs.EvaluationLemmas.{filter_swap}
use Rattle.sct_view.proofs.GatheredLemmas.{case_after-alike}
use Rattle.sct_view.proofs.KeyLemmas.{key_swap, keys_apart, same_key_is}
use Rattle.sct_view.proofs.SetKeys.{key-is_on}
use Rattle.sct_view.proofs.TotalsLemmas.{Cases}
use Rattle.sct_view.proofs.TouchedLemmas.{same_case, untouched_where}

-- ---- a transfer of which the set has no message

no_asides : ascending identity_order [] ≡ []
unfolding IsStrictlySortedBy
no_asides = ascending-sorted identity_total identities_same [] tt

-- nothing is kept of a transfer that no message of the set is on
pub nothing_on : (s : MessageSet) (t : TransferKey) → filter (is_on t) (in_order s) ≡ [] → case_of s t ≡ no_messages
unfolding case_of status_of
nothing_on s t none_on =
    let none = λ (q : Draft → Bool). filter_swap (is_on t) q (in_order s) ∙ ap (filter q) none_on in
    let clean : messages_on s t ≡ [] = none (λ m. not (is_contradicted s m)) in
    let contradicted : contradicted_on s t ≡ [] = none (is_contradicted s) in
    let asides : asides_of s t ≡ [] = ap (λ (ms : List Draft). ascending identity_order (map identity_of ms)) contradicted ∙ no_asides in
    let stands : transfer_status_of t (messages_on s t) (asides_of s t) ≡ Unknown =
    (λ i. transfer_status_of t (clean i) (asides i)) ∙ sym (unknown t [] [] [] (found_of_asides t [] [] refl) refl refl) in
    λ i. record { clean = clean i; contradicted = contradicted i; stands = stands i }

-- nothing is kept of a transfer that is no key of the set
pub nothing_kept : (s : MessageSet) (t : TransferKey) → list_any (same_key t) (keys_of s) ≡ false → case_of s t ≡ no_messages
nothing_kept s t e =
    nothing_on s t (none_kept (is_on t) (in_order s)
    (any_ascending message_total message_same (is_on t) (set.items s)
    ∙ sym (key-is_on s t)
    ∙ ap (λ (E : TransferKey → TransferKey → Bool). list_any (E t) (keys_of s)) (sym same_key_is)
    ∙ e))

-- ---- changes, one after the other

either : (b : Bool) (x : Kept) → x ≡ (if b then x else x)
either true x = refl
either false x = refl

-- what is kept of a transfer after the changes: the new case where it is among them
after_changes : (later : MessageSet) (ts : List TransferKey) (cases : Cases) (t : TransferKey)
    → case_after (changes_of later ts) cases t ≡ (if list_any (same_key t) ts then case_of later t else cases t)
after_changes later [] cases t = refl
after_changes later (k ∷ ts) cases t =
    let among = list_any (same_key t) ts in
    after_changes later ts (λ j. if same_key k j then case_of later k else cases j) t
    ∙ ap (λ (b : Bool). if among then case_of later t else (if b then case_of later k else cases t)) (key_swap k t)
    ∙ elim (same_key t k) as (λ b. same_key t k ≡ b → (if among then case_of later t else (if b then case_of later k else cases t)) ≡ (if b || among then case_of later t else cases t)) [
      | true ↦ λ e. ap (λ (j : TransferKey). if among then case_of later t else case_of later j) (sym (keys_apart t k e)) ∙ sym (either among (case_of later t))
      | false ↦ λ _. refl
    ] refl

-- changes of transfers that have all keys of a set make the cases of the set of cases without messages
pub cases_built : (s : MessageSet) (ts : List TransferKey) → ListsAll ts (case_of s) → (changes : List Change) → changes ≡ changes_of s ts → (t : TransferKey)
    → case_after changes (λ t. no_messages) t ≡ case_of s t
cases_built s ts all changes are t =
    ap (λ (cs : List Change). case_after cs (λ t. no_messages) t) are
    ∙ after_changes s ts (λ t. no_messages) t
    ∙ elim (list_any (same_key t) ts) as (λ b. list_any (same_key t) ts ≡ b → (if b then case_of s t else no_messages) ≡ case_of s t) [
      | true ↦ λ _. refl
      | false ↦ λ e. sym (all t e)
    ] refl

-- tables that kept what a set has of each transfer keep after the changes what the larger set has of it
pub cases_after : (s f : MessageSet) (cases : Cases) → ((t : TransferKey) → cases t ≡ case_of s t) → (changes : List Change)
    → changes ≡ changes_of (set.union s f) (touched_by s f) → (t : TransferKey) → case_after changes cases t ≡ case_of (set.union s f) t
cases_after s f cases kept changes are t =
    let among = λ (E : TransferKey → TransferKey → Bool). list_any (E t) (touched_by s f) in
    ap (λ (cs : List Change). case_after cs cases t) are
    ∙ after_changes (set.union s f) (touched_by s f) cases t
    ∙ elim (among same_key) as (λ b. among same_key ≡ b → (if b then case_of (set.union s f) t else cases t) ≡ case_of (set.union s f) t) [
      | true ↦ λ _. refl
      | false ↦ λ e. kept t ∙ sym (same_case s f t (untouched_where s f t (ap among (sym same_key_is) ∙ e)))
    ] refl

-- once the first change is made, the others are left
pub one_less : (all : List Planned) (one : Planned) (rest : List Planned) (cases later : Cases) → all ≡ one ∷ rest
    → ((t : TransferKey) → later t ≡ (if same_key one.transfer t then kept_in one.case else cases t)) → (t : TransferKey)
    → case_after (map change_in rest) later t ≡ case_after (map change_in all) cases t
one_less all one rest cases later is made t =
    case_after-alike (map change_in rest) (λ k. if same_key one.transfer k then kept_in one.case else cases k) later made t
    ∙ ap (λ (ps : List Planned). case_after (map change_in ps) cases t) (sym is)
