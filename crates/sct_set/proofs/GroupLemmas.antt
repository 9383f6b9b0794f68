-- The order of the archive text, identity by identity: the messages of each identity by their texts. Proof plumbing.
use Rattle.std.proofs.Common.{◌≡◌, ◌+◌, ◌<◌, ◌≤◌, ℕ, All, length, take, drop, get_or, arith, append-nil, Bool, true, false, cond, ◌&&◌, ◌||◌, List, [], ◌∷◌, ◌++◌, map, refl, sym, ap, subst, ◌∙◌, Ordering, filter}
use Rattle.std.specs.Arc.{arc_value}
use Rattle.std.specs.Global.{Global, Vec}
use Rattle.std.specs.declared.sync.Arc.{Arc}
use Rattle.std.specs.declared.cmp.Ordering.TheVariants.{Less}
use Rattle.std.specs.Cmp.{both_ways}
use Rattle.std.specs.FinSet as set
use Rattle.std.specs.List.{AllByRecursion, dedup, flat_map, list_any}
use Rattle.std.specs.List.Sorted.{IsStrictlySortedBy}
use Rattle.std.specs.Ordering.{eq_by_cmp, ordering_then}
use Rattle.std.proofs.lemmas.Bool.{and_from}
use Rattle.std.proofs.lemmas.Grind.{flat_map-append, take_at_read}
use Rattle.std.proofs.lemmas.List.Elements.{All-append}
use Rattle.std.proofs.Math.Seq.{take-append_seam}
use Rattle.std.proofs.lemmas.List.Kept.{IsStrictlySortedBy-filter}
use Rattle.sct_message.specs.declared.draft.Draft.{Draft}
use Rattle.sct_message.specs.declared.keys.Identity.{Identity}
use Rattle.sct_message.specs.Ascending.{ascending}
use Rattle.sct_message.specs.Keys.{identity_of}
use Rattle.sct_message.specs.Order.{identity_order, same_identity}
use Rattle.sct_message.specs.OrderLaws.{identity_total, identities_same}
use Rattle.sct_message.proofs.AscendingLemmas.{any_ascending, ascending-filter, ascending-same, ascending-sorted, ascending_rises}
use Rattle.sct_message.proofs.SameValues.{identity_is, identity_itself}
use Rattle.sct_message.proofs.Tests.{any_flat_map}
use Rattle.sct_message.proofs.Members.{list_any-filter, list_any-found, list_any-map, tie_is, ties_itself}
use Rattle.sct_set.specs.Archive.{archive_text_of, line_of, line_order, written_order, AreReadAgain, IsReadAgain}
use Rattle.sct_set.specs.Contents.{contents_of}
use Rattle.sct_set.specs.Drafts.{drafts_in, drafts_of}
use Rattle.sct_set.specs.Groups.{group_of, groups_of, AreWritten}
use Rattle.sct_set.specs.LineOrder.{line_order_total}
use Rattle.sct_set.specs.Pieces.{joined}
use Rattle.sct_set.proofs.ContentsLemmas.{any_items}
use Rattle.sct_set.proofs.TextLemmas.{archive_text-contents_of, line_order_same, read_again-contents_of}

-- ---- what holds of each member

module _ {X : Type 0} (P : X → Type 0) where
  every-append : (xs ys : List X) → AllByRecursion P xs → AllByRecursion P ys → AllByRecursion P (xs ++ ys)
  every-append [] ys h g = g
  every-append (x ∷ xs) ys h g = (h.0, every-append xs ys h.1 g)

  every-filter : (p : X → Bool) → ((x : X) → p x ≡ true → P x) → (xs : List X) → AllByRecursion P (filter p xs)
  every-filter p holds [] = tt
  every-filter p holds (x ∷ xs) =
      elim (p x) as (λ b. p x ≡ b → AllByRecursion P (cond b (x ∷ filter p xs) (filter p xs))) [
        | true ↦ λ e. (holds x e, every-filter p holds xs)
        | false ↦ λ e. every-filter p holds xs
      ] refl

module _ {X : Type 0} (P Q : X → Type 0) where
  every-then : ((x : X) → P x → Q x) → (xs : List X) → AllByRecursion P xs → AllByRecursion Q xs
  every-then then [] h = tt
  every-then then (x ∷ xs) h = (then x h.0, every-then then xs h.1)

-- lists of which each member of the first stands before each of the second
module _ {X : Type 0} (R : X → X → Ordering) where
  strictly-append : (xs ys : List X) → IsStrictlySortedBy R xs → IsStrictlySortedBy R ys
      → AllByRecursion (λ x. AllByRecursion (λ y. R x y ≡ Less) ys) xs → IsStrictlySortedBy R (xs ++ ys)
  unfolding IsStrictlySortedBy
  strictly-append [] ys h g before = g
  strictly-append (x ∷ xs) ys h g before = (every-append (λ y. R x y ≡ Less) xs ys h.0 before.0, strictly-append xs ys h.1 g before.1)

-- ---- the groups of a list that rises, one after another

module _ (rising : List Draft) where
  abbrev has : Identity → Draft → Bool
  has i d = same_identity (identity_of d) i

  abbrev group : Identity → List Draft
  group i = filter (has i) rising

  abbrev is_later : Identity → Draft → Type 0
  is_later i d = identity_order i (identity_of d) ≡ Less

  of_identity : (i : Identity) (d : Draft) → has i d ≡ true → identity_of d ≡ i
  of_identity i d e = identity_is (identity_of d) i e

  later_groups : (i : Identity) (js : List Identity) → AllByRecursion (λ j. identity_order i j ≡ Less) js → AllByRecursion (is_later i) (flat_map group js)
  later_groups i [] h = tt
  later_groups i (j ∷ js) h =
      every-append (is_later i) (group j) (flat_map group js)
      (every-filter (is_later i) (has j) (λ d e. subst (λ (k : Identity). identity_order i k ≡ Less) (sym (of_identity j d e)) h.0) rising)
      (later_groups i js h.1)

  less_by_identity : (i : Identity) (d e : Draft) → identity_of d ≡ i → is_later i e → line_order d e ≡ Less
  unfolding line_order
  less_by_identity i d e is later =
      ap (λ (r : Ordering). ordering_then r (written_order d e)) (ap (λ (j : Identity). identity_order j (identity_of e)) is ∙ later)

  groups_rise : IsStrictlySortedBy line_order rising → (is : List Identity) → IsStrictlySortedBy identity_order is → IsStrictlySortedBy line_order (flat_map group is)
  unfolding IsStrictlySortedBy
  groups_rise h [] g = tt
  groups_rise h (i ∷ is) g =
      strictly-append line_order (group i) (flat_map group is) (IsStrictlySortedBy-filter line_order (has i) rising h) (groups_rise h is g.1)
      (every-filter (λ d. AllByRecursion (λ e. line_order d e ≡ Less) (flat_map group is)) (has i)
      (λ d same. every-then (is_later i) (λ e. line_order d e ≡ Less) (λ e later. less_by_identity i d e (of_identity i d same) later) (flat_map group is) (later_groups i is g.0))
      rising)

-- ---- the groups have the members of the list

any-and : {X : Type 0} (q p : X → Bool) (xs : List X) → list_any (λ x. q x && p x) xs ≡ true → list_any p xs ≡ true
any-and q p [] h = h
any-and q p (x ∷ xs) h =
    elim (p x) as (λ b. ((q x && b) || list_any (λ x. q x && p x) xs) ≡ true → (b || list_any p xs) ≡ true) [
      | true ↦ λ _. refl
      | false ↦ λ g. any-and q p xs (elim (q x) as (λ b. ((b && false) || list_any (λ x. q x && p x) xs) ≡ true → list_any (λ x. q x && p x) xs ≡ true) [ true ↦ λ e. e | false ↦ λ e. e ] g)
    ] h

any_gives : {X : Type 0} (p : X → Bool) (b : Bool) → ((x : X) → p x ≡ true → b ≡ true) → (xs : List X) → list_any p xs ≡ true → b ≡ true
any_gives p b gives [] h = cc
any_gives p b gives (x ∷ xs) h =
    elim (p x) as (λ c. p x ≡ c → (c || list_any p xs) ≡ true → b ≡ true) [
      | true ↦ λ e _. gives x e
      | false ↦ λ _ g. any_gives p b gives xs g
    ] refl h

module _ (ds : List Draft) (q : Draft) where
  abbrev is_q : Draft → Bool
  is_q = eq_by_cmp line_order q

  abbrev beside : Draft → Bool
  beside e = list_any (λ d. same_identity (identity_of d) (identity_of e) && is_q d) ds

  found_beside : list_any is_q ds ≡ true → list_any beside ds ≡ true
  found_beside among =
      let itself : beside q ≡ true =
      list_any-found (eq_by_cmp line_order) (tie_is line_order_total line_order_same) (λ d. same_identity (identity_of d) (identity_of q) && is_q d) q ds among
      (and_from _ _ (identity_itself (identity_of q)) (ties_itself line_order_total line_order_same q)) in
      list_any-found (eq_by_cmp line_order) (tie_is line_order_total line_order_same) beside q ds among itself

  any_beside : list_any beside ds ≡ list_any is_q ds
  any_beside = both_ways _ _ (any_gives beside (list_any is_q ds) (λ e h. any-and _ is_q ds h) ds) found_beside

  any_in_group : (e : Draft) → list_any is_q (group_of ds (identity_of e)) ≡ beside e
  any_in_group e =
      any_ascending line_order_total line_order_same is_q (drafts_of (identity_of e) ds)
      ∙ list_any-filter is_q (λ d. same_identity (identity_of d) (identity_of e)) ds

  any_grouped : list_any is_q (flat_map (group_of ds) (ascending identity_order (map identity_of ds))) ≡ list_any is_q ds
  any_grouped =
      any_flat_map is_q (group_of ds) (ascending identity_order (map identity_of ds))
      ∙ any_ascending identity_total identities_same (λ i. list_any is_q (group_of ds i)) (map identity_of ds)
      ∙ list_any-map (λ i. list_any is_q (group_of ds i)) identity_of ds
      ∙ ap (λ (p : Draft → Bool). list_any p ds) (λ n e. any_in_group e n)
      ∙ any_beside

-- ---- the order of the text

same_groups : (ds : List Draft) (is : List Identity) → flat_map (group_of ds) is ≡ flat_map (group (ascending line_order ds)) is
same_groups ds [] = refl
same_groups ds (i ∷ is) =
    ap (λ (xs : List Draft). xs ++ flat_map (group_of ds) is) (ascending-filter line_order_total line_order_same (λ d. same_identity (identity_of d) i) ds)
    ∙ ap (λ (xs : List Draft). group (ascending line_order ds) i ++ xs) (same_groups ds is)

grouped : (ds : List Draft) → flat_map (group_of ds) (ascending identity_order (map identity_of ds)) ≡ ascending line_order ds
grouped ds =
    let is = ascending identity_order (map identity_of ds) in
    let rises : IsStrictlySortedBy line_order (flat_map (group_of ds) is) =
    subst (IsStrictlySortedBy line_order) (sym (same_groups ds is))
    (groups_rise (ascending line_order ds) (ascending_rises line_order_total line_order_same ds) is (ascending_rises identity_total identities_same (map identity_of ds))) in
    sym (ascending-sorted line_order_total line_order_same (flat_map (group_of ds) is) rises)
    ∙ ascending-same line_order_total line_order_same (flat_map (group_of ds) is) ds (λ q. any_grouped ds q)

-- the identities of a list are those of its set
pub identities_alike : (ds es : List Draft) → contents_of ds ≡ contents_of es
    → ascending identity_order (map identity_of ds) ≡ ascending identity_order (map identity_of es)
identities_alike ds es same =
    ascending-same identity_total identities_same (map identity_of ds) (map identity_of es) (λ q.
    list_any-map (eq_by_cmp identity_order q) identity_of ds
    ∙ sym (any_items (λ d. eq_by_cmp identity_order q (identity_of d)) ds)
    ∙ ap (λ s. list_any (λ d. eq_by_cmp identity_order q (identity_of d)) (set.items s)) same
    ∙ any_items (λ d. eq_by_cmp identity_order q (identity_of d)) es
    ∙ sym (list_any-map (eq_by_cmp identity_order q) identity_of es))

-- ---- a group that has one message

only_one : (d : Draft) → ascending line_order (d ∷ []) ≡ d ∷ []
unfolding IsStrictlySortedBy
only_one d = ascending-sorted line_order_total line_order_same (d ∷ []) (tt, tt)

single : (ms : List (Arc Draft Global)) (m : Arc Draft Global) → 1 ≤ length ms → length ms < 2 → m ≡ get_or ms 0 m → ms ≡ m ∷ []
single [] m some few is = absurd (omega arith)
single (x ∷ []) m some few is = ap (λ (y : Arc Draft Global). y ∷ []) (sym is)
single (x ∷ y ∷ ms) m some few is = absurd (omega arith)

pub in_order_alone : (ms : List (Arc Draft Global)) (m : Arc Draft Global) → 1 ≤ length ms → length ms < 2 → m ≡ get_or ms 0 m
    → ascending line_order (drafts_in ms) ≡ arc_value m ∷ []
in_order_alone ms m some few is = ap (λ (xs : List (Arc Draft Global)). ascending line_order (drafts_in xs)) (single ms m some few is) ∙ only_one (arc_value m)

-- ---- a group more

more_groups : (ds : List Draft) (is : List Identity) (n : ℕ) (i : Identity) → n < length is → i ≡ get_or is n i
    → flat_map (group_of ds) (take (n + 1) is) ≡ flat_map (group_of ds) (take n is) ++ group_of ds i
more_groups ds is n i below at =
    ap (flat_map (group_of ds)) ((take_at_read is n i below).1 ∙ ap (λ (j : Identity). take n is ++ j ∷ []) (sym at))
    ∙ flat_map-append (group_of ds) (take n is) (i ∷ [])
    ∙ ap (λ (xs : List Draft). flat_map (group_of ds) (take n is) ++ xs) (append-nil (group_of ds i))

-- a group more in the text, and all of it is read again
pub group_more : (text old : List ℕ) (ds : List Draft) (is : List Identity) (n : ℕ) (i : Identity) (ms : List Draft) → n < length is → i ≡ get_or is n i → ms ≡ drafts_of i ds
    → AreWritten ds (take n is) old → text ≡ old ++ flat_map line_of (ascending line_order ms) → All IsReadAgain (ascending line_order ms)
    → AreWritten ds (take (n + 1) is) text
group_more text old ds is n i ms below at group before now again =
    let more = more_groups ds is n i below at in
    record {
      text =
          now
          ∙ ap (λ (xs : List ℕ). xs ++ flat_map line_of (ascending line_order ms)) before.text
          ∙ ap (λ (xs : List Draft). flat_map line_of (groups_of ds (take n is)) ++ flat_map line_of (ascending line_order xs)) group
          ∙ sym (flat_map-append line_of (groups_of ds (take n is)) (group_of ds i))
          ∙ ap (flat_map line_of) (sym more);
      again =
          subst (λ (xs : List Draft). All IsReadAgain xs) (sym more)
          (All-append IsReadAgain (groups_of ds (take n is)) (group_of ds i) before.again (subst (λ (xs : List Draft). All IsReadAgain (ascending line_order xs)) group again));
    }

-- ---- what is told apart of a list of which all was lent and put back

pub put_back : {X : Type 0} (same : X → X → Bool) (n : ℕ) (sorted old told : List X) → length sorted ≡ n
    → told ≡ dedup same (take n (sorted ++ drop (length sorted) old)) → told ≡ dedup same sorted
put_back same n sorted old told long apart =
    apart ∙ ap (λ (m : ℕ). dedup same (take m (sorted ++ drop (length sorted) old))) (sym long)
    ∙ ap (dedup same) (take-append_seam sorted (drop (length sorted) old))

-- ---- the pieces of two parts

pub written_in_two : (ds : List Draft) (is front back : List Identity) (first second both : List (Vec ℕ)) → is ≡ front ++ back
    → AreWritten ds front (joined first) → AreWritten ds back (joined second) → both ≡ first ++ second → AreWritten ds is (joined both)
written_in_two ds is front back first second both parts one two put =
    let whole : groups_of ds is ≡ groups_of ds front ++ groups_of ds back = ap (groups_of ds) parts ∙ flat_map-append (group_of ds) front back in
    record {
      text =
          ap joined put ∙ flat_map-append (λ (piece : Vec ℕ). piece.items) first second
          ∙ rw (one.text, two.text) (sym (flat_map-append line_of (groups_of ds front) (groups_of ds back)))
          ∙ ap (flat_map line_of) (sym whole);
      again = subst (λ (xs : List Draft). All IsReadAgain xs) (sym whole) (All-append IsReadAgain (groups_of ds front) (groups_of ds back) one.again two.again);
    }

-- ---- all identities

pub all_text : (text : List ℕ) (ds : List Draft) (is : List Identity) → is ≡ ascending identity_order (map identity_of ds) → AreWritten ds is text → text ≡ archive_text_of (contents_of ds)
all_text text ds is which written =
    written.text ∙ ap (flat_map line_of) (ap (groups_of ds) which ∙ grouped ds) ∙ sym (archive_text-contents_of ds)

pub all_read_again : (text : List ℕ) (ds : List Draft) (is : List Identity) → is ≡ ascending identity_order (map identity_of ds) → AreWritten ds is text → AreReadAgain (contents_of ds)
all_read_again text ds is which written =
    read_again-contents_of ds (subst (λ (xs : List Draft). All IsReadAgain xs) (ap (groups_of ds) which ∙ grouped ds) written.again)
