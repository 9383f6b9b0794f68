-- Members of sets, of their unions and of their keys. Proof plumbing.
use Rattle.std.specs.FinSet as set
use Rattle.std.specs.FinSet.{IsAntisymmetric, contains-items, contains-union}
use Rattle.std.specs.Prelude.{◌⊎◌, Contains}
use Rattle.std.proofs.Common.{◌≡◌, ◌∙◌, refl, sym, ap, inl, inr, Bool, true, false, ◌||◌, List, ◌++◌, Ordering}
use Rattle.std.specs.Cmp.{IsTotalOrder, both_ways}
use Rattle.std.specs.List.{list_any}
use Rattle.std.proofs.lemmas.Bool.{false≢true}
use Rattle.std.proofs.lemmas.List.Elements.{Contains-append_cases, Contains-append_left, Contains-append_right}
use Rattle.std.proofs.lemmas.List.Folds.{Any-from_list_any}
use Rattle.std.proofs.lemmas.Map.Views.{Contains-from_any}
use Rattle.sct_message.specs.Ascending.{ascending}
use Rattle.sct_message.specs.Keys.{identity_of, transfers_of}
use Rattle.sct_message.specs.Order.{same_identity}
use Rattle.sct_message.specs.OrderLaws.{message_total, message_same, transfer_total, transfers_same}
use Rattle.sct_message.specs.Sets.{MessageSet}
use Rattle.sct_message.specs.Transfers.{is_on, keys_of}
use Rattle.sct_message.specs.declared.draft.Draft.{Draft}
use Rattle.sct_message.specs.declared.keys.Identity.{Identity}
use Rattle.sct_message.specs.declared.keys.TransferKey.{TransferKey}
use Rattle.sct_message.proofs.AscendingLemmas.{ascending_rises, ascending-same, ascending-sorted}
use Rattle.sct_message.proofs.Members.{tie_is}
use Rattle.sct_message.proofs.SameValues.{identity_itself, transfer_is}
use Rattle.sct_case.proofs.Membership.{any_tie, ascending_in, flat_mapped_in, in_ascending, in_flat_map}
use Rattle.sct_case.proofs.Stays.{held_from, in_items}
use Rattle.sct_set.specs.Archive.{has_identity}
use Rattle.sct_set.proofs.LawLemmas.{commutative}
use Rattle.sct_view.proofs.SetKeys.{on_is}
use Rattle.sct_view.proofs.TouchedLemmas.{found_held}
use Rattle.sct_parts.specs.Parts.{has_key, keys_of_both}

-- lists with the same members give one ascending list
pub same_members : {K : Type 0} {R : K → K → Ordering} → IsTotalOrder R → IsAntisymmetric R → (ks js : List K)
    → ((q : K) → Contains ks q → Contains js q) → ((q : K) → Contains js q → Contains ks q) → ascending R ks ≡ ascending R js
same_members o same ks js to from =
    ascending-same o same ks js (λ q.
    both_ways _ _
    (λ e. any_tie o same js q (to q (Contains-from_any (tie_is o same) q ks e)))
    (λ e. any_tie o same ks q (from q (Contains-from_any (tie_is o same) q js e))))

-- a message of the set that passes a test
pub held_passing : (s : MessageSet) (p : Draft → Bool) → list_any p (set.items s) ≡ true → (m : Draft) × (set.contains s m ≡ true) × (p m ≡ true)
held_passing s p e = let w = Any-from_list_any p (set.items s) e in (w.1, held_from s w.1 (w.0, w.2, w.3), w.4)

-- a message of the union is of one of the parts, and one of a part is of the union
pub of_either : (a b : MessageSet) (m : Draft) → set.contains (set.union a b) m ≡ true → (set.contains a m ≡ true) ⊎ (set.contains b m ≡ true)
of_either a b m h =
    elim (set.contains a m) as (λ x. set.contains a m ≡ x → (x || set.contains b m) ≡ true → (set.contains a m ≡ true) ⊎ (set.contains b m ≡ true)) [
      | true ↦ λ e _. inl e
      | false ↦ λ _ e. inr e
    ] refl (sym (contains-union message_total a b m) ∙ h)

pub of_first : (a b : MessageSet) (m : Draft) → set.contains a m ≡ true → set.contains (set.union a b) m ≡ true
of_first a b m h = contains-union message_total a b m ∙ ap (λ (x : Bool). x || set.contains b m) h

pub of_second : (a b : MessageSet) (m : Draft) → set.contains b m ≡ true → set.contains (set.union a b) m ≡ true
of_second a b m h = ap (λ (s : MessageSet). set.contains s m) (commutative a b) ∙ of_first b a m h

-- a key of the set is a transfer of a message of the set
pub key_held : (s : MessageSet) (t : TransferKey) → Contains (keys_of s) t → (m : Draft) × (set.contains s m ≡ true) × Contains (transfers_of m) t
key_held s t h =
    let r = in_flat_map transfers_of (set.items s) t (in_ascending transfer_total transfers_same _ t h) in
    (r.0, held_from s r.0 r.1, r.2)

pub held_key : (s : MessageSet) (t : TransferKey) (m : Draft) → set.contains s m ≡ true → Contains (transfers_of m) t → Contains (keys_of s) t
held_key s t m h on = ascending_in transfer_total transfers_same _ t (flat_mapped_in transfers_of (set.items s) m t (in_items s m h) on)

pub among : (m : Draft) (t : TransferKey) → is_on t m ≡ true → Contains (transfers_of m) t
among m t on = Contains-from_any transfer_is t (transfers_of m) (sym (on_is t m) ∙ on)

-- a set has the identity of each of its messages
pub has_it : (s : MessageSet) (m : Draft) (i : Identity) → set.contains s m ≡ true → identity_of m ≡ i → has_identity s i ≡ true
has_it s m i held e = found_held s (λ d. same_identity (identity_of d) i) m held (ap (λ (j : Identity). same_identity j i) e ∙ identity_itself i)

-- the test for a key
pub key_there : (s : MessageSet) (t : TransferKey) → has_key s t ≡ true → Contains (keys_of s) t
key_there s t e = Contains-from_any transfer_is t (keys_of s) e

pub key_away : (s : MessageSet) (t : TransferKey) → has_key s t ≡ false → Contains (keys_of s) t → ⊥
key_away s t e h = false≢true (sym e ∙ any_tie transfer_total transfers_same (keys_of s) t h)

-- the keys of the union
pub from_either : (a b : MessageSet) (t : TransferKey) → Contains (keys_of a) t ⊎ Contains (keys_of b) t → Contains (keys_of (set.union a b)) t
from_either a b t (inl h) = let m = key_held a t h in held_key (set.union a b) t m.0 (of_first a b m.0 m.1) m.2
from_either a b t (inr h) = let m = key_held b t h in held_key (set.union a b) t m.0 (of_second a b m.0 m.1) m.2

pub to_either : (a b : MessageSet) (t : TransferKey) → Contains (keys_of (set.union a b)) t → Contains (keys_of a ++ keys_of b) t
to_either a b t h =
    let m = key_held (set.union a b) t h in
    elim (of_either a b m.0 m.1) as (λ _. Contains (keys_of a ++ keys_of b) t) [
      | inl p ↦ Contains-append_left (keys_of a) (keys_of b) t (held_key a t m.0 p m.2)
      | inr p ↦ Contains-append_right (keys_of a) (keys_of b) t (held_key b t m.0 p m.2)
    ]

pub keys_of_union : (a b : MessageSet) → keys_of (set.union a b) ≡ keys_of_both a b
keys_of_union a b =
    let u = set.union a b in
    sym (ascending-sorted transfer_total transfers_same (keys_of u) (ascending_rises transfer_total transfers_same _))
    ∙ same_members transfer_total transfers_same (keys_of u) (keys_of a ++ keys_of b) (to_either a b)
    (λ t h. from_either a b t (Contains-append_cases (keys_of a) (keys_of b) t h))
