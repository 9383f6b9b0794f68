-- Labels are marked one after another. Proof plumbing.
use Rattle.std.specs.FinSet as set
use Rattle.std.specs.FinSet.{contains-from_list}
use Rattle.std.specs.Prelude.{◌⊎◌, Contains, slice_index, slice_set, take}
use Rattle.std.specs.List.{slice_get}
use Rattle.std.proofs.Common.{◌≡◌, ◌∙◌, ◌<◌, ◌≤◌, ◌+◌, refl, sym, ap, subst, ℕ, zero, suc, Bool, true, false, List, [], ◌∷◌, length, arith, Some, inl, inr}
use Rattle.std.proofs.Math.ListN.{replicate}
use Rattle.std.proofs.lemmas.Bool.{cases_eq, false≢true}
use Rattle.std.proofs.lemmas.List.{get_or-set_same, get_or-set_other, length-set}
use Rattle.std.proofs.lemmas.List.Elements.{Contains-append_cases, Contains-append_left, Contains-append_right}
use Rattle.std.proofs.lemmas.Map.Views.{Contains-from_any}
use Rattle.std.proofs.lemmas.Option.{slice_get-get_or, slice_get_cases, slice_get_within}
use Rattle.indexmap.specs.IndexMap.{IndexMap}
use Rattle.sct_message.specs.Keys.{transfers_of}
use Rattle.sct_message.specs.OrderLaws.{message_total, message_same}
use Rattle.sct_message.specs.Sets.{MessageSet}
use Rattle.sct_message.specs.Transfers.{keys_of}
use Rattle.sct_message.specs.declared.draft.Draft.{Draft}
use Rattle.sct_message.specs.declared.keys.TransferKey.{TransferKey}
use Rattle.sct_message.proofs.Members.{tie_is}
use Rattle.sct_case.proofs.Membership.{any_tie, here, nothing, only}
use Rattle.sct_set.specs.Contents.{contents_of}
use Rattle.sct_view.specs.Kept.{same_key}
use Rattle.sct_view.proofs.SlotLemmas.{one_read}
use Rattle.sct_parts.proofs.Members.{held_key}
use Rattle.sct_keep.specs.Done.{is_before, is_settled}
use Rattle.sct_keep.specs.Marks.{AreMarkedMore, AreMarks, IsLate, IsOpenAt, IsUnsettled, is_marked}
use Rattle.sct_keep.specs.Ties.{AreFirsts, AreGroups, HasFirst}
use Rattle.sct_keep.proofs.DoneLemmas.{late_not_done, late_one, unsettled_not_done, why_not_done}
use Rattle.sct_keep.proofs.TieLemmas.{got_in, less_or, one_item}

-- ---- the set of a list

pub held_in : (ms : List Draft) (m : Draft) → Contains ms m → set.contains (contents_of ms) m ≡ true
held_in ms m h = contains-from_list message_total ms m ∙ any_tie message_total message_same ms m h

pub in_list : (ms : List Draft) (m : Draft) → set.contains (contents_of ms) m ≡ true → Contains ms m
in_list ms m h = Contains-from_any (tie_is message_total message_same) m ms (sym (contains-from_list message_total ms m) ∙ h)

pub numbered : (ms : List Draft) (m : Draft) → set.contains (contents_of ms) m ≡ true → (i : ℕ) × (slice_get ms i ≡ Some m)
numbered ms m h = let k = in_list ms m h in (k.0, slice_get-get_or ms k.0 m k.1 ∙ ap (λ (x : Draft). Some x) k.2)

-- ---- marks

-- no mark is set at first
pub unmarked : (n l : ℕ) → is_marked (replicate n false) l ≡ true → ⊥
unmarked zero l e = false≢true e
unmarked (suc n) zero e = false≢true e
unmarked (suc n) (suc l) e = unmarked n l e

pub marked_one : (labels : List ℕ) (marks : List Bool) (n : ℕ) → slice_index labels n < length marks
    → AreMarkedMore (λ i. i ≡ n) labels marks (slice_set marks (slice_index labels n) true)
marked_one labels marks n within =
    let a = slice_index labels n in
    let new = slice_set marks a true in
    record {
      count = length-set marks a true;
      each = λ i e. ap (λ k. is_marked new (slice_index labels k)) e ∙ get_or-set_same marks a true false within;
      stay = λ l h. elim (cases_eq l a) as (λ _. is_marked new l ≡ true) [
        | inl e ↦ ap (is_marked new) e ∙ get_or-set_same marks a true false within
        | inr ne ↦ get_or-set_other marks a l true false ne ∙ h
      ];
      only = λ l h. elim (cases_eq l a) as (λ _. (is_marked marks l ≡ true) ⊎ ((i : ℕ) × (i ≡ n) × (slice_index labels i ≡ l))) [
        | inl e ↦ inr (n, refl, sym e)
        | inr ne ↦ inl (sym (get_or-set_other marks a l true false ne) ∙ h)
      ];
    }

module _ (labels : List ℕ) where
  pub marked_nothing : (P : ℕ → Type 0) (marks : List Bool) → ((i : ℕ) → P i → ⊥) → AreMarkedMore P labels marks marks
  marked_nothing P marks none = record { count = refl; each = λ i h. absurd (none i h); stay = λ l h. h; only = λ l h. inl h }

  -- some numbers, and then others
  pub then_marked : (P Q R : ℕ → Type 0) (a b c : List Bool) → ((i : ℕ) → R i → P i ⊎ Q i) → ((i : ℕ) → P i → R i) → ((i : ℕ) → Q i → R i)
      → AreMarkedMore P labels a b → AreMarkedMore Q labels b c → AreMarkedMore R labels a c
  then_marked P Q R a b c cases first second one other = record {
    count = other.count ∙ one.count;
    each = λ i h. elim (cases i h) as (λ _. is_marked c (slice_index labels i) ≡ true) [
      | inl p ↦ other.stay (slice_index labels i) (one.each i p)
      | inr q ↦ other.each i q
    ];
    stay = λ l h. other.stay l (one.stay l h);
    only = λ l h. elim (other.only l h) as (λ _. (is_marked a l ≡ true) ⊎ ((i : ℕ) × R i × (slice_index labels i ≡ l))) [
      | inl old ↦ elim (one.only l old) as (λ _. (is_marked a l ≡ true) ⊎ ((i : ℕ) × R i × (slice_index labels i ≡ l))) [
        | inl older ↦ inl older
        | inr p ↦ inr (p.0, first p.0 p.1, p.2)
      ]
      | inr q ↦ inr (q.0, second q.0 q.1, q.2)
    ];
  }

  marked_alike : (P R : ℕ → Type 0) (a b : List Bool) → ((i : ℕ) → R i → P i) → ((i : ℕ) → P i → R i) → AreMarkedMore P labels a b → AreMarkedMore R labels a b
  marked_alike P R a b from to one = record {
    count = one.count;
    each = λ i h. one.each i (from i h);
    stay = one.stay;
    only = λ l h. elim (one.only l h) as (λ _. (is_marked a l ≡ true) ⊎ ((i : ℕ) × R i × (slice_index labels i ≡ l))) [
      | inl old ↦ inl old
      | inr p ↦ inr (p.0, to p.0 p.1, p.2)
    ];
  }

  -- ---- late messages

  module _ (day : List ℕ) (ms : List Draft) where
    abbrev pub LateBelow : ℕ → ℕ → Type 0
    LateBelow n i = (i < n) × IsLate day ms i

    pub none_late : (marks : List Bool) → AreMarkedMore (LateBelow 0) labels marks marks
    none_late marks = marked_nothing (LateBelow 0) marks (λ i h. let low = h.0 in omega (arith, low))

    pub one_late : (n : ℕ) (m : Draft) (a b c : List Bool) → slice_get ms n ≡ Some m → 1 ≤ length (transfers_of m) → is_before day m ≡ false
        → AreMarkedMore (LateBelow n) labels a b → AreMarkedMore (λ i. i ≡ n) labels b c → AreMarkedMore (LateBelow (n + 1)) labels a c
    one_late n m a b c at some late =
        then_marked (LateBelow n) (λ i. i ≡ n) (LateBelow (n + 1)) a b c
        (λ i h. elim (less_or i n h.0) as (λ _. LateBelow n i ⊎ (i ≡ n)) [ inl less ↦ inl (less, h.1) | inr e ↦ inr e ])
        (λ i h. let low = h.0 in (omega (arith, low), h.1))
        (λ i e. (omega (arith, e), subst (IsLate day ms) (sym e) (m, at, some, late)))

    pub not_late : (n : ℕ) (m : Draft) (a b : List Bool) → slice_get ms n ≡ Some m → (1 ≤ length (transfers_of m) → is_before day m ≡ true)
        → AreMarkedMore (LateBelow n) labels a b → AreMarkedMore (LateBelow (n + 1)) labels a b
    not_late n m a b at early =
        marked_alike (LateBelow n) (LateBelow (n + 1)) a b
        (λ i h. elim (less_or i n h.0) as (λ _. LateBelow n i) [
          | inl less ↦ (less, h.1)
          | inr e ↦
              let late = h.1 in
              let same = one_item ms i n late.0 m e late.1 at in
              absurd (false≢true (sym late.3 ∙ ap (is_before day) same ∙ early (subst (λ d. 1 ≤ length (transfers_of d)) same late.2)))
        ])
        (λ i h. let low = h.0 in (omega (arith, low), h.1))

    pub all_late : (n : ℕ) (a b : List Bool) → length ms ≤ n → AreMarkedMore (LateBelow n) labels a b → AreMarkedMore (IsLate day ms) labels a b
    all_late n a b past =
        marked_alike (LateBelow n) (IsLate day ms) a b
        (λ i h. (let low = slice_get_within ms i h.0 h.1 in omega (arith, low, past), h))
        (λ i h. h.1)

  -- ---- transfers that are not settled

  module _ {S : Type 0} (held : MessageSet) (first : IndexMap TransferKey (List ℕ) S) where
    pub none_unsettled : (marks : List Bool) → AreMarkedMore (IsUnsettled held first []) labels marks marks
    none_unsettled marks = marked_nothing (IsUnsettled held first []) marks (λ i h. nothing h.0 h.1)

    module _ (ts : List TransferKey) (n : ℕ) (t : TransferKey) (at : slice_get ts n ≡ Some t) where
      one_more : Contains (take (n + 1) ts) t
      one_more = subst (λ xs. Contains xs t) (sym (one_read ts n t at)) (Contains-append_right (take n ts) (t ∷ []) t (here t []))

      still : (k : TransferKey) → Contains (take n ts) k → Contains (take (n + 1) ts) k
      still k h = subst (λ xs. Contains xs k) (sym (one_read ts n t at)) (Contains-append_left (take n ts) (t ∷ []) k h)

      before_or_it : (k : TransferKey) → Contains (take (n + 1) ts) k → Contains (take n ts) k ⊎ (t ≡ k)
      before_or_it k h =
          elim (Contains-append_cases (take n ts) (t ∷ []) k (subst (λ xs. Contains xs k) (one_read ts n t at) h)) as (λ _. Contains (take n ts) k ⊎ (t ≡ k)) [
            | inl old ↦ inl old
            | inr last ↦ inr (only t k last)
          ]

      pub one_unsettled : (a b c : List Bool) → is_settled held t ≡ false → AreMarkedMore (IsUnsettled held first (take n ts)) labels a b
          → AreMarkedMore (HasFirst same_key first t) labels b c → AreMarkedMore (IsUnsettled held first (take (n + 1) ts)) labels a c
      one_unsettled a b c unsettled =
          then_marked (IsUnsettled held first (take n ts)) (HasFirst same_key first t) (IsUnsettled held first (take (n + 1) ts)) a b c
          (λ i h. elim (before_or_it h.0 h.1) as (λ _. IsUnsettled held first (take n ts) i ⊎ HasFirst same_key first t i) [
            | inl old ↦ inl (h.0, old, h.2, h.3)
            | inr e ↦ inr (subst (λ k. HasFirst same_key first k i) (sym e) h.3)
          ])
          (λ i h. (h.0, still h.0 h.1, h.2, h.3))
          (λ i h. (t, one_more, unsettled, h))

      pub one_settled : (a b : List Bool) → is_settled held t ≡ true → AreMarkedMore (IsUnsettled held first (take n ts)) labels a b
          → AreMarkedMore (IsUnsettled held first (take (n + 1) ts)) labels a b
      one_settled a b settled =
          marked_alike (IsUnsettled held first (take n ts)) (IsUnsettled held first (take (n + 1) ts)) a b
          (λ i h. elim (before_or_it h.0 h.1) as (λ _. IsUnsettled held first (take n ts) i) [
            | inl old ↦ (h.0, old, h.2, h.3)
            | inr e ↦ absurd (false≢true (sym h.2 ∙ ap (is_settled held) (sym e) ∙ settled))
          ])
          (λ i h. (h.0, still h.0 h.1, h.2, h.3))

-- ---- all marks

module _ {S : Type 0} (day : List ℕ) (ms : List Draft) (labels : List ℕ) (first : IndexMap TransferKey (List ℕ) S) (groups : AreGroups ms labels)
    (firsts : AreFirsts ms first) where
  abbrev held : MessageSet
  held = contents_of ms

  pub within_labels : (t : TransferKey) (i : ℕ) → HasFirst same_key first t i → i < length labels
  within_labels t i h = let o = firsts.of t i h in subst (λ n. i < n) (sym groups.count) (slice_get_within ms i o.0 o.1)

  late_open : (i : ℕ) → IsLate day ms i → IsOpenAt day held ms i
  late_open i late =
      let m = late.0 in
      elim (slice_get_cases (transfers_of m) 0).1 as (λ _. IsOpenAt day held ms i) [
        | inl there ↦
            let on = got_in (transfers_of m) 0 there.0 there.2 in
            (m, late.1, (there.0, on, late_not_done day held there.0 m (held_in ms m (got_in ms i m late.1)) on late.3))
        | inr none ↦ let past = none.0 in let some = late.2 in absurd (omega (arith, past, some))
      ]

  unsettled_open : (i : ℕ) → IsUnsettled held first (keys_of held) i → IsOpenAt day held ms i
  unsettled_open i u = let o = firsts.of u.0 i u.3 in (o.0, o.1, (u.0, o.2, unsettled_not_done day held u.0 u.2))

  abbrev Opened : ℕ → Type 0
  Opened l = (i : ℕ) × (i < length ms) × (slice_index labels i ≡ l) × IsOpenAt day held ms i

  opened : (i l : ℕ) → slice_index labels i ≡ l → IsOpenAt day held ms i → Opened l
  opened i l e o = (i, slice_get_within ms i o.0 o.1, e, o)

  pub all_marks : (none marks late : List Bool) → ((l : ℕ) → is_marked none l ≡ true → ⊥) → AreMarkedMore (IsLate day ms) labels none late
      → AreMarkedMore (IsUnsettled held first (keys_of held)) labels late marks → AreMarks day held ms labels (is_marked marks)
  all_marks none marks late unmarked one other = record {
    each = λ i o.
        let m = o.0 in
        let not_done = o.2 in
        let t = not_done.0 in
        elim (why_not_done day held t not_done.2) as (λ _. is_marked marks (slice_index labels i) ≡ true) [
          | inl e ↦
              let j = firsts.each i m o.1 t not_done.1 in
              let n = firsts.of t j.0 j.1 in
              ap (is_marked marks) (groups.tied i j.0 m n.0 o.1 n.1 (inr (t, not_done.1, n.2)))
              ∙ other.each j.0 (t, held_key held t m (held_in ms m (got_in ms i m o.1)) not_done.1, e, j.1)
          | inr e ↦
              let r = late_one day held t e in
              let n = numbered ms r.0 r.1 in
              let on = r.2 in
              let place = on.1 in
              ap (is_marked marks) (groups.tied i n.0 m r.0 o.1 n.1 (inr (t, not_done.1, on)))
              ∙ other.stay (slice_index labels n.0) (one.each n.0 (r.0, n.1, omega (arith, place), r.3))
        ];
    only = λ l h. elim (other.only l h) as (λ _. Opened l) [
      | inl old ↦ elim (one.only l old) as (λ _. Opened l) [
        | inl no_mark ↦ absurd (unmarked l no_mark)
        | inr p ↦ opened p.0 l p.2 (late_open p.0 p.1)
      ]
      | inr p ↦ opened p.0 l p.2 (unsettled_open p.0 p.1)
    ];
  }
