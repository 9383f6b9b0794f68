-- What `ascending` does, under any total order that tells all keys apart.
-- It serves what is told of a set of messages: archives, cases, views and the texts of sites, whose crates cite it.
use Rattle.std.proofs.Common.{◌≡◌, Bool, true, false, cond, ◌&&◌, ◌||◌, List, [], ◌∷◌, map, refl, sym, ap, subst, ◌∙◌, Ordering, Option, Some, None, filter}
use Rattle.std.specs.Prelude.{Contains, is_some, T}
use Rattle.std.specs.declared.cmp.Ordering.TheVariants.{Less, Equal, Greater}
use Rattle.std.specs.List.{list_any, dedup, dedup_from, AllByRecursion}
use Rattle.std.specs.List.Sorted.{IsStrictlySortedBy, IsSorted, IsPermutation}
use Rattle.std.specs.Ordering.{eq_by_cmp, is_eq, is_lt}
use Rattle.std.specs.Cmp.{IsTotalOrder, Equal-is, both_ways, on_total, alike_right}
use Rattle.std.specs.FinMap as finite
use Rattle.std.specs.FinMap.{FinMap, find, is_sorted, same_map, get-from_entries, get-from_sorted, entries-from_sorted, entries_sorted, contains_key-keys}
use Rattle.std.specs.FinMap.Entries.{is_some-find, below_all}
use Rattle.std.specs.FinSet.{IsAntisymmetric}
use Rattle.std.proofs.lemmas.List.Kept.{IsStrictlySortedBy-dedup, IsStrictlySortedBy-filter}
use Rattle.std.proofs.lemmas.List.Sorted.{list_any-IsPermutation}
use Rattle.std.proofs.lemmas.Cmp.{eq_by_cmp_equiv}
use Rattle.std.proofs.lemmas.Map.Views.{Contains-from_any, list_any-from_Contains}
use Rattle.sct_message.specs.Ascending.{ascending, alone, IsAscendingListOf, IsTheAscendingList}
use Rattle.sct_message.proofs.Members.{same_any, tie_is, list_any-filter, list_any-map}

marked : (x y : Option (Unit {0})) → is_some x ≡ is_some y → x ≡ y
marked None None e = refl
marked None (Some u) e = cc
marked (Some u) None e = cc
marked (Some u) (Some v) e = refl

first : (a b : Bool) → T (a && b) → T a
first true b h = tt
first false b h = h

second : (a b : Bool) → T (a && b) → T b
second true b h = h
second false b h = absurd h

both : (a b : Bool) → T a → T b → T (a && b)
both true b p q = q
both false b p q = p

less_is : (r : Ordering) → T (is_lt r) → r ≡ Less
less_is Less h = refl
less_is Equal h = absurd h
less_is Greater h = absurd h

map-itself : {K : Type 0} (ks : List K) → map (λ k. k) ks ≡ ks
map-itself [] = refl
map-itself (k ∷ ks) = ap (λ (xs : List _). k ∷ xs) (map-itself ks)

firsts-alone : {K : Type 0} (ks : List K) → map (λ e. e.0) (alone ks) ≡ ks
firsts-alone [] = refl
firsts-alone (k ∷ ks) = ap (λ (xs : List _). k ∷ xs) (firsts-alone ks)

-- entries that hold keys alone are their keys
alone-firsts : {K : Type 0} (es : List (K × Unit {0})) → alone (map (λ e. e.0) es) ≡ es
alone-firsts [] = refl
alone-firsts (e ∷ es) = ap (λ (xs : List _). e ∷ xs) (alone-firsts es)

module _ {K : Type 0} (R : K → K → Ordering) where
  -- whether a key stands in a list, as a map of the list's keys alone finds it
  find-alone : (q : K) (ks : List K) → is_some (find R q (alone ks)) ≡ list_any (eq_by_cmp R q) ks
  find-alone q ks = is_some-find R q (alone ks) ∙ ap (list_any (eq_by_cmp R q)) (firsts-alone ks)

  below_from_less : (k : K) (ks : List K) → AllByRecursion (λ y. R k y ≡ Less) ks → T (below_all R k (alone ks))
  below_from_less k [] h = tt
  below_from_less k (x ∷ ks) h = both _ _ (subst (λ r. T (is_lt r)) (sym h.0) tt) (below_from_less k ks h.1)

  less_from_below : (k : K) (ks : List K) → T (below_all R k (alone ks)) → AllByRecursion (λ y. R k y ≡ Less) ks
  less_from_below k [] h = tt
  less_from_below k (x ∷ ks) h = (less_is _ (first _ _ h), less_from_below k ks (second _ _ h))

  rises_from_sorted : (ks : List K) → IsStrictlySortedBy R ks → T (is_sorted R (alone ks))
  unfolding IsStrictlySortedBy
  rises_from_sorted [] h = tt
  rises_from_sorted (k ∷ ks) h = both _ _ (below_from_less k ks h.0) (rises_from_sorted ks h.1)

  sorted_from_rises : (ks : List K) → T (is_sorted R (alone ks)) → IsStrictlySortedBy R ks
  unfolding IsStrictlySortedBy
  sorted_from_rises [] h = tt
  sorted_from_rises (k ∷ ks) h = (less_from_below k ks (first _ _ h), sorted_from_rises ks (second _ _ h))

module _ {K : Type 0} (R : K → K → Ordering) {V : Type 0} (f : V → K) where
  less-map : (v : V) (vs : List V) → AllByRecursion (λ w. R (f v) (f w) ≡ Less) vs → AllByRecursion (λ y. R (f v) y ≡ Less) (map f vs)
  less-map v [] h = tt
  less-map v (w ∷ vs) h = (h.0, less-map v vs h.1)

  strictly-map : (vs : List V) → IsStrictlySortedBy (λ x y. R (f x) (f y)) vs → IsStrictlySortedBy R (map f vs)
  unfolding IsStrictlySortedBy
  strictly-map [] h = tt
  strictly-map (v ∷ vs) h = (less-map v vs h.0, strictly-map vs h.1)

again : (a b c : Bool) → a ≡ b → (b || c) ≡ (b || (a || c))
again true true c e = refl
again true false c e = cc
again false true c e = cc
again false false c e = refl

module _ {V : Type 0} (E : V → V → Bool) (p : V → Bool) (alike : (x y : V) → E x y ≡ true → p x ≡ p y) where
  list_any-dedup_from : (k : V) (xs : List V) → list_any p (dedup_from E k xs) ≡ (p k || list_any p xs)
  list_any-dedup_from k [] = refl
  list_any-dedup_from k (x ∷ xs) =
      elim (E x k) as (λ b. E x k ≡ b → list_any p (cond b (dedup_from E k xs) (k ∷ dedup_from E x xs)) ≡ (p k || (p x || list_any p xs))) [
        | true ↦ λ e. list_any-dedup_from k xs ∙ again (p x) (p k) (list_any p xs) (alike x k e)
        | false ↦ λ e. ap (λ b. p k || b) (list_any-dedup_from x xs)
      ] refl

  -- to drop repeats drops nothing that a test sees, where it answers alike at what counts as the same
  pub list_any-dedup : (xs : List V) → list_any p (dedup E xs) ≡ list_any p xs
  list_any-dedup [] = refl
  list_any-dedup (x ∷ xs) = list_any-dedup_from x xs

module _ {K : Type 0} {R : K → K → Ordering} (o : IsTotalOrder R) (apart : IsAntisymmetric R) where
  abbrev holding : List K → FinMap R (Unit {0})
  holding ks = finite.from_entries (alone ks)

  get-holding : (ks : List K) (q : K) → is_some (finite.get (holding ks) q) ≡ list_any (eq_by_cmp R q) ks
  get-holding ks q = ap is_some (get-from_entries o (alone ks) q) ∙ find-alone R q ks

  -- what stands in the ascending list is what stands in the list
  pub members_ascending : (ks : List K) (q : K)
      → list_any (eq_by_cmp R q) (ascending R ks) ≡ list_any (eq_by_cmp R q) ks
  unfolding ascending
  members_ascending ks q = sym (contains_key-keys (holding ks) q) ∙ get-holding ks q

  -- a test is passed in the one exactly where it is passed in the other
  pub any_ascending : (p : K → Bool) (ks : List K) → list_any p (ascending R ks) ≡ list_any p ks
  any_ascending p ks = same_any o apart p (ascending R ks) ks (members_ascending ks)

  -- lists with the same members give the same ascending list
  pub ascending-same : (ks js : List K)
      → ((q : K) → list_any (eq_by_cmp R q) ks ≡ list_any (eq_by_cmp R q) js)
      → ascending R ks ≡ ascending R js
  unfolding ascending
  ascending-same ks js same =
      ap finite.keys (same_map o apart (holding ks) (holding js) (λ q. marked _ _ (get-holding ks q ∙ same q ∙ sym (get-holding js q))))

  -- the ascending list rises strictly, and so names nothing twice
  pub ascending_rises : (ks : List K) → IsStrictlySortedBy R (ascending R ks)
  unfolding ascending
  ascending_rises ks =
      sorted_from_rises R _ (subst (λ (es : List (K × Unit {0})). T (is_sorted R es)) (sym (alone-firsts (finite.entries (holding ks)))) (entries_sorted (holding ks)))

  -- a list that rises strictly is its own ascending list
  pub ascending-sorted : (ks : List K) → IsStrictlySortedBy R ks → ascending R ks ≡ ks
  unfolding ascending
  ascending-sorted ks h =
      let rises = rises_from_sorted R ks h in
      ap finite.keys (same_map o apart (holding ks) (finite.from_sorted (alone ks)) (λ q. get-from_entries o (alone ks) q ∙ sym (get-from_sorted R (alone ks) q rises)))
      ∙ ap (map (λ e. e.0)) (entries-from_sorted R (alone ks) rises)
      ∙ firsts-alone ks

  any_from : (ks js : List K) → ((k : K) → Contains ks k → Contains js k) → (q : K)
      → list_any (eq_by_cmp R q) ks ≡ true → list_any (eq_by_cmp R q) js ≡ true
  any_from ks js covers q among =
      list_any-from_Contains (eq_by_cmp_equiv o) q js (covers q (Contains-from_any (tie_is o apart) q ks among))

  -- the ascending list has just the members of the list
  pub in_ascending : (ks : List K) (q : K) → Contains (ascending R ks) q → Contains ks q
  in_ascending ks q h =
      Contains-from_any (tie_is o apart) q ks (sym (members_ascending ks q) ∙ list_any-from_Contains (eq_by_cmp_equiv o) q (ascending R ks) h)

  pub ascending_in : (ks : List K) (q : K) → Contains ks q → Contains (ascending R ks) q
  ascending_in ks q h =
      Contains-from_any (tie_is o apart) q (ascending R ks) (members_ascending ks q ∙ list_any-from_Contains (eq_by_cmp_equiv o) q ks h)

  computed_ascends : (ks : List K) → IsAscendingListOf R ks (ascending R ks)
  computed_ascends ks = record { members = λ k. (in_ascending ks k, ascending_in ks k); ascends = ascending_rises ks }

  -- the computed list, and no other, ascends strictly with these members
  pub ascending_is_the_list : (ks : List K) → IsTheAscendingList R ks
  ascending_is_the_list ks sorted = (
    λ h. sym (ascending-sorted sorted h.ascends)
        ∙ ascending-same sorted ks (λ q. both_ways _ _ (any_from sorted ks (λ k. (h.members k).0) q) (any_from ks sorted (λ k. (h.members k).1) q)),
    λ e. subst (λ (js : List K). IsAscendingListOf R ks js) (sym e) (computed_ascends ks),
  )

  -- to be picked by a test and to be put in order can change places
  pub ascending-filter : (p : K → Bool) (ks : List K) → ascending R (filter p ks) ≡ filter p (ascending R ks)
  ascending-filter p ks =
      ascending-same (filter p ks) (filter p (ascending R ks)) (λ q. list_any-filter (eq_by_cmp R q) p ks ∙ sym (any_ascending _ ks) ∙ sym (list_any-filter (eq_by_cmp R q) p (ascending R ks)))
      ∙ ascending-sorted (filter p (ascending R ks)) (IsStrictlySortedBy-filter R p _ (ascending_rises ks))

  -- a list in order of its keys, without its repeats, has the keys of the list that it was sorted from,
  -- each once and in order
  pub ascending-sort_dedup : {V : Type 0} (f : V → K) (E : V → V → Bool)
      → ((x y : V) → E x y ≡ eq_by_cmp R (f x) (f y)) → (xs ys : List V)
      → IsPermutation xs ys → IsSorted (λ x y. R (f x) (f y)) ys → map f (dedup E ys) ≡ ascending R (map f xs)
  ascending-sort_dedup f E ties xs ys moved sorted =
      let rises = strictly-map R f _ (IsStrictlySortedBy-dedup (on_total f o) ties ys sorted) in
      sym (ascending-sorted _ rises)
      ∙ ascending-same (map f (dedup E ys)) (map f xs)
      (λ q. list_any-map (eq_by_cmp R q) f (dedup E ys)
      ∙ list_any-dedup E (λ v. eq_by_cmp R q (f v)) (λ x y e. ap (λ r. is_eq r) (alike_right o (f x) (f y) q ((Equal-is (R (f x) (f y))).0 (sym (ties x y) ∙ e)))) ys
      ∙ sym (list_any-IsPermutation (λ v. eq_by_cmp R q (f v)) xs ys moved)
      ∙ sym (list_any-map (eq_by_cmp R q) f xs))

  -- the same where the items are the keys
  pub ascending-sort_dedup_plain : (E : K → K → Bool) → ((x y : K) → E x y ≡ eq_by_cmp R x y) → (xs ys : List K)
      → IsPermutation xs ys → IsSorted R ys → dedup E ys ≡ ascending R xs
  ascending-sort_dedup_plain E ties xs ys moved sorted =
      sym (map-itself (dedup E ys)) ∙ ascending-sort_dedup (λ x. x) E ties xs ys moved sorted ∙ ap (ascending R) (map-itself xs)
