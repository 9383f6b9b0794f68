-- The messages of marked labels are what is kept, and the others are what is closed. Proof plumbing.
use Rattle.std.specs.FinSet as set
use Rattle.std.specs.FinSet.{contains-difference, same_set}
use Rattle.std.specs.Prelude.{Contains, slice_index}
use Rattle.std.specs.List.{slice_get}
use Rattle.std.proofs.Common.{◌≡◌, ◌∙◌, ◌<◌, ◌≤◌, ◌+◌, refl, sym, ap, subst, ℕ, Bool, true, false, not, ◌&&◌, List, [], ◌∷◌, ◌++◌, length, arith, Option, Some, None, inl, inr}
use Rattle.std.specs.Cmp.{both_ways}
use Rattle.std.proofs.lemmas.Bool.{and_parts, false_from_ne_true, false≢true, not-true}
use Rattle.std.proofs.lemmas.List.Elements.{Contains-append_cases, Contains-append_left, Contains-append_right}
use Rattle.std.proofs.lemmas.Option.{slice_get_within}
use Rattle.sct_message.specs.OrderLaws.{message_total, message_same}
use Rattle.sct_message.specs.Sets.{MessageSet}
use Rattle.sct_message.specs.declared.draft.Draft.{Draft}
use Rattle.sct_case.proofs.Membership.{here, nothing, only}
use Rattle.sct_set.specs.Contents.{contents_of}
use Rattle.sct_keep.specs.Keep.{AreTied, HasAllOpen, IsKept, IsOpen, closed_of}
use Rattle.sct_keep.specs.Marks.{AreLabelled, AreMarks}
use Rattle.sct_keep.specs.Ties.{AreGroups, Respects}
use Rattle.sct_keep.proofs.MarkLemmas.{held_in, in_list, numbered}
use Rattle.sct_keep.proofs.TieLemmas.{got_in, less_or, one_item}

-- ---- messages told apart by numbers

abbrev number : Bool → ℕ
number true = 1
number false = 0

-- whether the set has the message at a number
abbrev has_at : MessageSet → Option Draft → ℕ
has_at some None = 0
has_at some (Some m) = number (set.contains some m)

one_then : (b : Bool) → number b ≡ 1 → b ≡ true
one_then true e = refl
one_then false e = absurd (omega (arith, e))

pub turned : (one other : Draft) → AreTied one other → AreTied other one
turned one other (inl e) = inl (sym e)
turned one other (inr h) = inr (h.0, h.2, h.1)

module _ (day : List ℕ) (ms : List Draft) (labels : List ℕ) (marked : ℕ → Bool) (kept : List Draft)
    (groups : AreGroups ms labels) (marks : AreMarks day (contents_of ms) ms labels marked) (are : AreLabelled ms labels marked kept) where
  abbrev held : MessageSet
  held = contents_of ms

  each_kept : (m : Draft) → set.contains held m ≡ true → IsOpen day held m → set.contains (contents_of kept) m ≡ true
  each_kept m h o =
      let n = numbered ms m h in
      held_in kept m (are.each n.0 m n.1 (marks.each n.0 (m, n.1, o)))

  tied_kept : (one other : Draft) → set.contains (contents_of kept) one ≡ true → set.contains held other ≡ true → AreTied one other
      → set.contains (contents_of kept) other ≡ true
  tied_kept one other h there tie =
      let k = are.only one (in_list kept one h) in
      let n = numbered ms other there in
      held_in kept other (are.each n.0 other n.1 (ap marked (sym (groups.tied k.0 n.0 one other k.1 n.1 tie)) ∙ k.2))

  -- a set that has all that is open has all messages of a label, or none
  module _ (some : MessageSet) (has : HasAllOpen day held some) where
    abbrev told : ℕ → ℕ
    told i = has_at some (slice_get ms i)

    told_at : (i : ℕ) (m : Draft) → slice_get ms i ≡ Some m → told i ≡ number (set.contains some m)
    told_at i m e = ap (has_at some) e

    respects : Respects told ms
    respects i j one other a b tie =
        told_at i one a
        ∙ ap number (both_ways (set.contains some one) (set.contains some other)
        (λ h. has.tied one other h (held_in ms other (got_in ms j other b)) tie)
        (λ h. has.tied other one h (held_in ms one (got_in ms i one a)) (turned one other tie)))
        ∙ sym (told_at j other b)

    least_kept : (m : Draft) → set.contains (contents_of kept) m ≡ true → set.contains some m ≡ true
    least_kept m h =
        let k = are.only m (in_list kept m h) in
        let o = marks.only (slice_index labels k.0) k.2 in
        let first = o.3 in
        let seed = has.each first.0 (held_in ms first.0 (got_in ms o.0 first.0 first.1)) first.2 in
        one_then (set.contains some m)
        (sym (told_at k.0 m k.1)
        ∙ sym (groups.same told respects k.0 (slice_get_within ms k.0 m k.1))
        ∙ ap told (sym o.2)
        ∙ groups.same told respects o.0 o.1
        ∙ told_at o.0 first.0 first.1
        ∙ ap number seed)

  pub is_kept : IsKept day held (contents_of kept)
  is_kept = record {
    part = λ m h. let k = are.only m (in_list kept m h) in held_in ms m (got_in ms k.0 m k.1);
    has_open = record { each = each_kept; tied = tied_kept };
    least = least_kept;
  }

  -- ---- the others

  module _ (closed : List Draft) (rest : AreLabelled ms labels (λ l. not (marked l)) closed) where
    not_both : (m : Draft) → Contains kept m → Contains closed m → ⊥
    not_both m h g =
        let k = are.only m h in
        let n = rest.only m g in
        false≢true (sym (not-true _ n.2) ∙ ap marked (groups.tied n.0 k.0 m m n.1 k.1 (inl refl)) ∙ k.2)

    to_closed : (m : Draft) → set.contains (contents_of closed) m ≡ true → set.contains (closed_of held (contents_of kept)) m ≡ true
    to_closed m h =
        let g = in_list closed m h in
        let n = rest.only m g in
        contains-difference message_total held (contents_of kept) m
        ∙ (λ i. held_in ms m (got_in ms n.0 m n.1) i && not (false_from_ne_true _ (λ k. not_both m (in_list kept m k) g) i))

    from_closed : (m : Draft) → set.contains (closed_of held (contents_of kept)) m ≡ true → set.contains (contents_of closed) m ≡ true
    from_closed m h =
        let both = and_parts _ _ (sym (contains-difference message_total held (contents_of kept) m) ∙ h) in
        let n = numbered ms m both.0 in
        let away = false_from_ne_true (marked (slice_index labels n.0)) (λ e. false≢true (sym (not-true _ both.1) ∙ held_in kept m (are.each n.0 m n.1 e))) in
        held_in closed m (rest.each n.0 m n.1 (ap not away))

    pub is_closed : contents_of closed ≡ closed_of held (contents_of kept)
    is_closed = same_set message_total message_same _ _ (λ m. both_ways _ _ (to_closed m) (from_closed m))

-- ---- the messages of the labels that pass a test, one after another

pub record AreLabelledBelow (n : ℕ) (ms : List Draft) (labels : List ℕ) (passes : ℕ → Bool) (some : List Draft) : Type 0 where
  pub each : (i : ℕ) (m : Draft) → i < n → slice_get ms i ≡ Some m → passes (slice_index labels i) ≡ true → Contains some m
  pub of : (m : Draft) → Contains some m → (i : ℕ) × (slice_get ms i ≡ Some m) × (passes (slice_index labels i) ≡ true)

module _ (ms : List Draft) (labels : List ℕ) (passes : ℕ → Bool) where
  pub none_labelled : AreLabelledBelow 0 ms labels passes []
  none_labelled = record { each = λ i m low. absurd (omega (arith, low)); of = λ m h. absurd (nothing m h) }

  pub all_labelled : (n : ℕ) (some : List Draft) → length ms ≤ n → AreLabelledBelow n ms labels passes some → AreLabelled ms labels passes some
  all_labelled n some past s = record {
    each = λ i m e. s.each i m (let low = slice_get_within ms i m e in omega (arith, low, past)) e;
    only = s.of;
  }

  pub one_labelled : (n : ℕ) (m : Draft) (some : List Draft) → slice_get ms n ≡ Some m → passes (slice_index labels n) ≡ true
      → AreLabelledBelow n ms labels passes some → AreLabelledBelow (n + 1) ms labels passes (some ++ m ∷ [])
  one_labelled n m some at passed s = record {
    each = λ i d low e is. elim (less_or i n low) as (λ _. Contains (some ++ m ∷ []) d) [
      | inl less ↦ Contains-append_left some (m ∷ []) d (s.each i d less e is)
      | inr same ↦ Contains-append_right some (m ∷ []) d (subst (Contains (m ∷ [])) (one_item ms n i m d (sym same) at e) (here m []))
    ];
    of = λ d h. elim (Contains-append_cases some (m ∷ []) d h) as (λ _. (i : ℕ) × (slice_get ms i ≡ Some d) × (passes (slice_index labels i) ≡ true)) [
      | inl old ↦ s.of d old
      | inr last ↦ (n, at ∙ ap (λ (x : Draft). Some x) (only m d last), passed)
    ];
  }

  pub not_labelled : (n : ℕ) (some : List Draft) → passes (slice_index labels n) ≡ false → AreLabelledBelow n ms labels passes some
      → AreLabelledBelow (n + 1) ms labels passes some
  not_labelled n some away s = record {
    each = λ i d low e is. elim (less_or i n low) as (λ _. Contains some d) [
      | inl less ↦ s.each i d less e is
      | inr same ↦ absurd (false≢true (sym away ∙ ap (λ k. passes (slice_index labels k)) (sym same) ∙ is))
    ];
    of = s.of;
  }
