-- Sets that are apart, by their keys and message by message. Proof plumbing.
use Rattle.std.specs.FinSet as set
use Rattle.std.specs.Prelude.{Contains}
use Rattle.std.proofs.Common.{◌≡◌, ◌∙◌, refl, sym, inl, inr, true, false}
use Rattle.std.proofs.lemmas.Bool.{and_parts, false_from_ne_true}
use Rattle.sct_message.specs.Keys.{identity_of}
use Rattle.sct_message.specs.Sets.{MessageSet, is_contradicted}
use Rattle.sct_message.specs.Transfers.{keys_of}
use Rattle.sct_message.specs.declared.draft.Draft.{Draft}
use Rattle.sct_message.specs.declared.keys.TransferKey.{TransferKey}
use Rattle.sct_message.proofs.SameValues.{identity_is}
use Rattle.sct_parts.specs.PartsLaws.{ApartFromAll, ApartSetsShareNothing}
use Rattle.sct_parts.specs.Parts.{AreApart, HaveNothingInCommon, ShareNothing}
use Rattle.sct_parts.proofs.Members.{held_passing, of_either, key_held, held_key, has_it}

pub swapped : (a b : MessageSet) → ShareNothing a b → ShareNothing b a
swapped a b apart one other held there =
    let away = apart other one there held in
    record { identities = λ e. away.identities (sym e); transfers = λ t on and_on. away.transfers t and_on on }

-- no transfer is a key of both
pub of_one : (a b : MessageSet) → ShareNothing a b → (t : TransferKey) → Contains (keys_of a) t → Contains (keys_of b) t → ⊥
of_one a b apart t here there =
    let one = key_held a t here in
    let other = key_held b t there in
    (apart one.0 other.0 one.1 other.1).transfers t one.2 other.2

-- the other part contradicts no message
pub not_contradicted : (a b : MessageSet) → ShareNothing a b → (m : Draft) → set.contains a m ≡ true → is_contradicted b m ≡ false
not_contradicted a b apart m held =
    false_from_ne_true _ (λ e.
    let other = held_passing b _ e in
    (apart m other.0 held other.1).identities (sym (identity_is (identity_of other.0) (identity_of m) (and_parts _ _ other.2).0)))

-- ---- by keys and message by message

pub by_messages : (a b : MessageSet) → AreApart a b → ShareNothing a b
by_messages a b apart one other here there = record {
  identities = λ e. apart.identities (identity_of one) (has_it a one (identity_of one) here refl) (has_it b other (identity_of one) there (sym e));
  transfers = λ t on and_on. apart.transfers t (held_key a t one here on) (held_key b t other there and_on);
}

pub by_keys : (a b : MessageSet) → ShareNothing a b → AreApart a b
by_keys a b apart = record {
  identities = λ i here there.
      let one = held_passing a _ here in
      let other = held_passing b _ there in
      (apart one.0 other.0 one.1 other.1).identities (identity_is (identity_of one.0) i one.2 ∙ sym (identity_is (identity_of other.0) i other.2));
  transfers = of_one a b apart;
}

pub apart_sets_share_nothing : ApartSetsShareNothing
apart_sets_share_nothing a b = (by_messages a b, by_keys a b)

-- ---- more than two sets

pub from_both : (a b c : MessageSet) → ShareNothing a b → ShareNothing a c → ShareNothing a (set.union b c)
from_both a b c first second one other here there = elim (of_either b c other there) as (λ _. HaveNothingInCommon one other) [
  | inl h ↦ first one other here h
  | inr h ↦ second one other here h
]

pub apart_from_all : ApartFromAll
apart_from_all = record {
  both = λ a b c first second. by_keys a (set.union b c) (from_both a b c (by_messages a b first) (by_messages a c second));
  sides = λ a b apart. by_keys b a (swapped a b (by_messages a b apart));
}
