-- The message of an identity that nothing contradicts. Proof plumbing.
use Rattle.std.proofs.Common.{◌≡◌, Bool, true, false, not, ◌&&◌, ◌||◌, cond, List, [], ◌∷◌, Some, None, refl, sym, ap, ◌∙◌, filter}
use Rattle.std.specs.FinSet as set
use Rattle.std.specs.FinSet.{contains-from_list, contains-items}
use Rattle.std.specs.Arc.{arc_value}
use Rattle.std.specs.Global.{Global}
use Rattle.std.specs.declared.sync.Arc.{Arc}
use Rattle.std.specs.List.{list_any, slice_get}
use Rattle.std.specs.List.Sorted.{IsStrictlySortedBy}
use Rattle.std.proofs.lemmas.Bool.{and_parts, false≢true, false_from_ne_true, not-true, or_right}
use Rattle.std.proofs.lemmas.Map.Views.{any-filter_same}
use Rattle.sct_message.specs.Ascending.{ascending}
use Rattle.sct_message.specs.Keys.{identity_of}
use Rattle.sct_message.specs.Order.{message_order, same_identity, same_message}
use Rattle.sct_message.specs.OrderLaws.{message_total, message_same}
use Rattle.sct_message.specs.Sets.{in_order}
use Rattle.sct_message.specs.declared.draft.Draft.{Draft}
use Rattle.sct_message.specs.declared.keys.Identity.{Identity}
use Rattle.sct_message.proofs.AscendingLemmas.{ascending-filter, ascending-same, ascending-sorted}
use Rattle.sct_message.proofs.Members.{list_any-found}
use Rattle.sct_message.proofs.SameValues.{identity_is, message_is, message_itself}
use Rattle.sct_message.proofs.Tests.{or_false}
use Rattle.sct_set.specs.Contents.{Contents, contents_of}
use Rattle.sct_set.specs.Contradictions.{is_disputed, undisputed_of}
use Rattle.sct_set.specs.Drafts.{drafts_in, drafts_of}
use Rattle.sct_set.proofs.ContentsLemmas.{any_items, is_rival}

-- a message is among those of the set that pass a test where it passes it and is held
picked : (s : Contents) (p : Draft → Bool) (q : Draft) → list_any (same_message q) (filter p (set.items s)) ≡ (p q && set.contains s q)
picked s p q =
    any-filter_same (same_message q) p (p q) (λ m e. ap p (sym (message_is q m e))) (set.items s)
    ∙ ap (λ b. p q && b) (sym (contains-items s q))

sorted_none : ascending message_order [] ≡ []
unfolding IsStrictlySortedBy
sorted_none = ascending-sorted message_total message_same [] tt

sorted_one : (m : Draft) → ascending message_order (m ∷ []) ≡ m ∷ []
unfolding IsStrictlySortedBy
sorted_one m = ascending-sorted message_total message_same (m ∷ []) (tt, tt)

-- where no message that is held passes the test
none_picked : (s : Contents) (p : Draft → Bool) → ((q : Draft) → (p q && set.contains s q) ≡ false) → filter p (in_order s) ≡ []
none_picked s p none =
    sym (ascending-filter message_total message_same p (set.items s))
    ∙ ascending-same message_total message_same (filter p (set.items s)) [] (λ q. picked s p q ∙ none q)
    ∙ sorted_none

-- where just one does
one_picked : (s : Contents) (p : Draft → Bool) (m : Draft) → ((q : Draft) → (p q && set.contains s q) ≡ same_message q m)
    → filter p (in_order s) ≡ m ∷ []
one_picked s p m one =
    sym (ascending-filter message_total message_same p (set.items s))
    ∙ ascending-same message_total message_same (filter p (set.items s)) (m ∷ []) (λ q. picked s p q ∙ one q ∙ sym (or_false (same_message q m)))
    ∙ sorted_one m

-- of two messages of one identity each is disputed, or they are the same
rivals : (s : Contents) (i : Identity) (m q : Draft) → set.contains s m ≡ true → same_identity (identity_of m) i ≡ true
    → same_identity (identity_of q) i ≡ true → is_disputed s q ≡ false → same_message q m ≡ true
rivals s i m q held one two sole =
    let same = ap (λ (j : Identity). same_identity (identity_of m) j) (identity_is (identity_of q) i two) ∙ one in
    elim (same_message m q) as (λ b. same_message m q ≡ b → same_message q m ≡ true) [
      | true ↦ λ e. ap (λ (x : Draft). same_message q x) (message_is m q e) ∙ message_itself q
      | false ↦ λ e.
          let found = list_any-found same_message message_is (is_rival q) m (set.items s) (sym (contains-items s m) ∙ held) (λ k. same k && not (e k)) in
          absurd (false≢true (sym sole ∙ found))
    ] refl

module _ (s : Contents) (i : Identity) where
  abbrev counts : Draft → Bool
  counts q = same_identity (identity_of q) i && not (is_disputed s q)

  -- nothing of the identity is held
  pub undisputed-none : list_any (λ held. same_identity (identity_of held) i) (set.items s) ≡ false → undisputed_of s i ≡ []
  undisputed-none none =
      none_picked s counts (λ q. false_from_ne_true (counts q && set.contains s q) (λ e.
      let parts = and_parts (counts q) (set.contains s q) e in
      let first = and_parts (same_identity (identity_of q) i) (not (is_disputed s q)) parts.0 in
      false≢true (sym none ∙ list_any-found same_message message_is (λ held. same_identity (identity_of held) i) q (set.items s) (sym (contains-items s q) ∙ parts.1) first.0)))

  -- one that is held is disputed, and so is each
  pub undisputed-disputed : (m : Draft) → set.contains s m ≡ true → same_identity (identity_of m) i ≡ true → is_disputed s m ≡ true → undisputed_of s i ≡ []
  undisputed-disputed m held one disputed =
      none_picked s counts (λ q. false_from_ne_true (counts q && set.contains s q) (λ e.
      let parts = and_parts (counts q) (set.contains s q) e in
      let first = and_parts (same_identity (identity_of q) i) (not (is_disputed s q)) parts.0 in
      let alone = not-true (is_disputed s q) first.1 in
      let same = message_is q m (rivals s i m q held one first.0 alone) in
      false≢true (sym alone ∙ ap (is_disputed s) same ∙ disputed)))

  -- one that is held is not disputed, and it is the only one
  pub undisputed-one : (m : Draft) → set.contains s m ≡ true → same_identity (identity_of m) i ≡ true → is_disputed s m ≡ false → undisputed_of s i ≡ m ∷ []
  undisputed-one m held one sole =
      one_picked s counts m (λ q.
      elim (same_message q m) as (λ b. same_message q m ≡ b → (counts q && set.contains s q) ≡ b) [
        | true ↦ λ e. ap (λ (x : Draft). counts x && set.contains s x) (message_is q m e) ∙ (λ k. (one k && not (sole k)) && held k)
        | false ↦ λ e. false_from_ne_true (counts q && set.contains s q) (λ f.
            let parts = and_parts (counts q) (set.contains s q) f in
            let first = and_parts (same_identity (identity_of q) i) (not (is_disputed s q)) parts.0 in
            false≢true (sym e ∙ rivals s i m q held one first.0 (not-true (is_disputed s q) first.1)))
      ] refl)

-- ---- the list of an identity

head_passes : (p : Draft → Bool) (ds rest : List Draft) (d : Draft) → filter p ds ≡ d ∷ rest → (p d ≡ true) × (list_any (same_message d) ds ≡ true)
head_passes p [] rest d e = cc
head_passes p (x ∷ ds) rest d e =
    elim (p x) as (λ b. p x ≡ b → cond b (x ∷ filter p ds) (filter p ds) ≡ d ∷ rest → (p d ≡ true) × (list_any (same_message d) (x ∷ ds) ≡ true)) [
      | true ↦ λ here f. let is : x ≡ d = cc in (ap p (sym is) ∙ here, ap (λ (y : Draft). same_message d y || list_any (same_message d) ds) is ∙ ap (λ b. b || list_any (same_message d) ds) (message_itself d))
      | false ↦ λ _ f. let r = head_passes p ds rest d f in (r.0, ap (λ b. same_message d x || b) r.1 ∙ or_right (same_message d x) true refl)
    ] refl e

none_passes : (p : Draft → Bool) (ds : List Draft) → filter p ds ≡ [] → list_any p ds ≡ false
none_passes p [] e = refl
none_passes p (d ∷ ds) e =
    elim (p d) as (λ b. cond b (d ∷ filter p ds) (filter p ds) ≡ [] → (b || list_any p ds) ≡ false) [
      | true ↦ λ f. cc
      | false ↦ λ f. none_passes p ds f
    ] e

no_first : (ms : List (Arc Draft Global)) → None ≡ slice_get ms 0 → ms ≡ []
no_first [] f = refl
no_first (x ∷ ms) f = let h : None ≡ Some x = f in cc

-- the first of a list of an identity is held, and has it
first_held : (ms : List (Arc Draft Global)) (ds : List Draft) (i : Identity) (m : Arc Draft Global)
    → drafts_in ms ≡ drafts_of i ds → Some m ≡ slice_get ms 0
    → (same_identity (identity_of (arc_value m)) i ≡ true) × (set.contains (contents_of ds) (arc_value m) ≡ true)
first_held [] ds i m e f = cc
first_held (x ∷ ms) ds i m e f =
    let h : Some m ≡ Some x = f in
    let k : m ≡ x = cc in
    let r = head_passes (λ d. same_identity (identity_of d) i) ds (drafts_in ms) (arc_value x) (sym e) in
    let is = ap (λ (y : Arc Draft Global). arc_value y) k in
    (ap (λ (d : Draft). same_identity (identity_of d) i) is ∙ r.0, ap (set.contains (contents_of ds)) is ∙ contains-from_list message_total ds (arc_value x) ∙ r.1)

module _ (s : Contents) (ms : List (Arc Draft Global)) (ds : List Draft) (i : Identity) (is : contents_of ds ≡ s) (all : drafts_in ms ≡ drafts_of i ds) where
  held_in : (m : Arc Draft Global) → Some m ≡ slice_get ms 0 → set.contains s (arc_value m) ≡ true
  held_in m f = ap (λ (t : Contents). set.contains t (arc_value m)) (sym is) ∙ (first_held ms ds i m all f).1

  pub none_of_it : None ≡ slice_get ms 0 → [] ≡ undisputed_of s i
  none_of_it f =
      sym (undisputed-none s i
      (ap (λ (t : Contents). list_any (λ held. same_identity (identity_of held) i) (set.items t)) (sym is)
      ∙ any_items (λ held. same_identity (identity_of held) i) ds
      ∙ none_passes (λ held. same_identity (identity_of held) i) ds (sym all ∙ ap drafts_in (no_first ms f))))

  pub disputed_one : (m : Arc Draft Global) → Some m ≡ slice_get ms 0 → is_disputed s (arc_value m) ≡ true → [] ≡ undisputed_of s i
  disputed_one m f e = sym (undisputed-disputed s i (arc_value m) (held_in m f) (first_held ms ds i m all f).0 e)

  pub sole_one : (m : Arc Draft Global) → Some m ≡ slice_get ms 0 → is_disputed s (arc_value m) ≡ false → arc_value m ∷ [] ≡ undisputed_of s i
  sole_one m f e = sym (undisputed-one s i (arc_value m) (held_in m f) (first_held ms ds i m all f).0 e)
