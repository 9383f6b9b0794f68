-- A transfer is done in a whole as in its part. Proof plumbing.
use Rattle.std.specs.FinSet as set
use Rattle.std.specs.Prelude.{◌⊎◌, Contains}
use Rattle.std.proofs.Common.{◌≡◌, ◌∙◌, refl, sym, ap, inl, inr, ℕ, Bool, true, false, ◌&&◌, List, [], ◌∷◌, filter, map}
use Rattle.std.specs.Cmp.{both_ways}
use Rattle.std.specs.List.{list_all}
use Rattle.std.proofs.lemmas.Bool.{and_parts, false_from_ne_true, false≢true, true_from_ne_false}
use Rattle.std.proofs.lemmas.List.Elements.{All-contains}
use Rattle.std.proofs.lemmas.List.Folds.{list_all-map}
use Rattle.std.proofs.lemmas.List.Sums.{AllPass-from_list_all}
use Rattle.sct_message.specs.Keys.{transfers_of}
use Rattle.sct_message.specs.OrderLaws.{message_total, message_same, transfer_total, transfers_same}
use Rattle.sct_message.specs.Sets.{MessageSet, in_order}
use Rattle.sct_message.specs.Transfers.{is_on, keys_of}
use Rattle.sct_message.specs.declared.draft.Draft.{Draft}
use Rattle.sct_message.specs.declared.keys.TransferKey.{TransferKey}
use Rattle.sct_case.proofs.Membership.{any_tie, ascending_in, filtered_in, here, in_ascending, in_filter, later}
use Rattle.sct_case.specs.declared.status.RecallStatus.{RecallStatus}
use Rattle.sct_set.proofs.LawLemmas.{commutative}
use Rattle.sct_view.specs.Answers.{recall_of, recalls_on, status_of}
use Rattle.sct_view.proofs.SetKeys.{on_is}
use Rattle.sct_view.specs.Touched.{IsToldAlike}
use Rattle.sct_parts.specs.Parts.{ShareNothing}
use Rattle.sct_parts.proofs.ApartLemmas.{of_one, swapped}
use Rattle.sct_parts.proofs.Members.{among, held_key, of_either, of_first}
use Rattle.sct_case.proofs.Stays.{held_from, in_items}
use Rattle.sct_parts.proofs.TransferLemmas.{of_first_part}
use Rattle.sct_keep.specs.Done.{are_before, is_answered, is_answered_in, is_before, is_done, is_final, is_settled}

-- ---- the recalls of a transfer, each with its status

all_answered : (held : MessageSet) (t : TransferKey) (recalls : List (List ℕ × RecallStatus))
    → recalls ≡ map (λ cxl. (cxl, recall_of held (record { transfer = t; cxl = cxl }))) (recalls_on held t)
    → list_all (λ recall. is_answered recall.1) recalls ≡ list_all (is_answered_in held t) (recalls_on held t)
all_answered held t recalls is =
    ap (list_all (λ recall. is_answered recall.1)) is
    ∙ list_all-map (λ recall. is_answered recall.1) (λ cxl. (cxl, recall_of held (record { transfer = t; cxl = cxl }))) (recalls_on held t)

pub all_settled : (held : MessageSet) (t : TransferKey) (recalls : List (List ℕ × RecallStatus)) → is_final (status_of held t) ≡ true
    → recalls ≡ map (λ cxl. (cxl, recall_of held (record { transfer = t; cxl = cxl }))) (recalls_on held t)
    → list_all (λ recall. is_answered recall.1) recalls ≡ is_settled held t
all_settled held t recalls final is =
    all_answered held t recalls is ∙ ap (λ (b : Bool). b && list_all (is_answered_in held t) (recalls_on held t)) (sym final)

-- ---- the messages on a transfer, all from before the day

not_all : {X : Type 0} (p : X → Bool) (xs : List X) → list_all p xs ≡ false → (x : X) × Contains xs x × (p x ≡ false)
not_all p [] e = absurd (false≢true (sym e))
not_all p (y ∷ ys) e = elim (p y) as (λ b. p y ≡ b → (b && list_all p ys) ≡ false → (x : _) × Contains (y ∷ ys) x × (p x ≡ false)) [
  | true ↦ λ _ rest. let r = not_all p ys rest in (r.0, later y ys r.0 r.1, r.2)
  | false ↦ λ here_not _. (y, here y ys, here_not)
] refl e

module _ (day : List ℕ) (held : MessageSet) (t : TransferKey) where
  abbrev those : List Draft
  those = filter (is_on t) (in_order held)

  before_each : are_before day held t ≡ true → (m : Draft) → set.contains held m ≡ true → Contains (transfers_of m) t → is_before day m ≡ true
  before_each all m h on =
      All-contains (λ x. is_before day x ≡ true) those m (AllPass-from_list_all (is_before day) those all)
      (filtered_in (is_on t) (in_order held) m (ascending_in message_total message_same (set.items held) m (in_items held m h))
      (on_is t m ∙ any_tie transfer_total transfers_same (transfers_of m) t on))

  pub late_one : are_before day held t ≡ false → (m : Draft) × (set.contains held m ≡ true) × Contains (transfers_of m) t × (is_before day m ≡ false)
  late_one e =
      let r = not_all (is_before day) those e in
      let i = in_filter (is_on t) (in_order held) r.0 r.1 in
      (r.0, held_from held r.0 (in_ascending message_total message_same (set.items held) r.0 i.0), among r.0 t i.1, r.2)

  pub late_not_done : (m : Draft) → set.contains held m ≡ true → Contains (transfers_of m) t → is_before day m ≡ false → is_done day held t ≡ false
  unfolding is_done
  late_not_done m h on late = false_from_ne_true _ (λ e. false≢true (sym late ∙ before_each (and_parts _ _ e).1 m h on))

  pub unsettled_not_done : is_settled held t ≡ false → is_done day held t ≡ false
  unfolding is_done
  unsettled_not_done e = ap (λ (b : Bool). b && are_before day held t) e

  pub why_not_done : is_done day held t ≡ false → (is_settled held t ≡ false) ⊎ (are_before day held t ≡ false)
  unfolding is_done
  why_not_done e = either (is_settled held t) (are_before day held t) e
    where
      either : (a b : Bool) → (a && b) ≡ false → (a ≡ false) ⊎ (b ≡ false)
      either true b e = inr e
      either false b e = inl refl

-- the messages on a transfer that one set has are in another
before_in : (day : List ℕ) (one other : MessageSet) (t : TransferKey)
    → ((m : Draft) → set.contains one m ≡ true → Contains (transfers_of m) t → set.contains other m ≡ true)
    → are_before day other t ≡ true → are_before day one t ≡ true
before_in day one other t also e =
    true_from_ne_false _ (λ n. let l = late_one day one t n in false≢true (sym l.3 ∙ before_each day other t e l.0 (also l.0 l.1 l.2) l.2))

-- ---- the part that a transfer is of

settled_alike : (part whole : MessageSet) (t : TransferKey) → IsToldAlike part whole t → is_settled whole t ≡ is_settled part t
settled_alike part whole t same = λ i. is_final (same.status i) && list_all (λ cxl. is_answered (same.recall cxl i)) (same.recalls i)

module _ (a b : MessageSet) (apart : ShareNothing a b) (t : TransferKey) (here_it_is : Contains (keys_of a) t) where
  in_first : (m : Draft) → set.contains (set.union a b) m ≡ true → Contains (transfers_of m) t → set.contains a m ≡ true
  in_first m h on = elim (of_either a b m h) as (λ _. set.contains a m ≡ true) [
    | inl first ↦ first
    | inr second ↦ absurd (of_one a b apart t here_it_is (held_key b t m second on))
  ]

  before_alike : (day : List ℕ) → are_before day (set.union a b) t ≡ are_before day a t
  before_alike day = both_ways _ _ (before_in day a (set.union a b) t (λ m h on. of_first a b m h)) (before_in day (set.union a b) a t in_first)

  pub done_in_first : (day : List ℕ) → is_done day (set.union a b) t ≡ is_done day a t
  unfolding is_done
  done_in_first day = λ i. settled_alike a (set.union a b) t (of_first_part a b t apart here_it_is).answers i && before_alike day i

pub done_in_second : (a b : MessageSet) → ShareNothing a b → (t : TransferKey) → Contains (keys_of b) t → (day : List ℕ)
    → is_done day (set.union a b) t ≡ is_done day b t
done_in_second a b apart t there day =
    ap (λ (u : MessageSet). is_done day u t) (commutative a b) ∙ done_in_first b a (swapped a b apart) t there day
