-- What is said of one recall, in a list in the order of the recalls. Proof plumbing.
use Rattle.std.proofs.Common.{◌≡◌, ◌∙◌, refl, sym, ap, subst, arith, leb, ltb, ℕ, ◌+◌, ◌≤◌, take, drop, take-append-drop, length-take-le, length-drop, Bool, true, false, cond, not, List, [], ◌∷◌, ◌++◌, length, filter, find, Option, Some, None}
use Rattle.std.specs.Prelude.{◌&&◌, ◌==◌, Contains}
use Rattle.std.specs.List.{All, list_any}
use Rattle.std.specs.List.Sorted.{IsNonDecreasingBy, IsPartitionedBy, IsPartitionPoint, IsStableBy, ties}
use Rattle.std.specs.Ordering.{is_lt, is_le, is_eq, ordering_index, ordering_reverse}
use Rattle.std.specs.declared.cmp.Ordering.{Ordering}
use Rattle.std.specs.declared.cmp.Ordering.TheVariants.{Less, Equal, Greater}
use Rattle.std.specs.Cmp.Lexicographic.{bytes_decides, nat_list_cmp_total, texts_ties}
use Rattle.std.proofs.lemmas.Bool.Decides.{Decides-like, same_from_decides}
use Rattle.std.proofs.lemmas.List.{append-nil, get_or-drop, get_or-take}
use Rattle.std.proofs.lemmas.List.Elements.{All-drop, All-head, All-tail, filter-append, filter_agree}
use Rattle.std.proofs.lemmas.List.Sorted.{IsNonDecreasingBy-take, IsPartitionedBy-leb, IsPartitionedBy-ltb, searchable_from_sorted}
use Rattle.sct_element.specs.Text.{is_text}
use Rattle.sct_message.specs.Order.{text_order}
use Rattle.sct_message.proofs.Members.{list_any-filter}
use Rattle.sct_case.specs.Inside.{IsByRecall, SayAlike, said_of}
use Rattle.sct_case.specs.Statuses.{first}
use Rattle.sct_case.specs.Told.{differ, differ_among, differ_from}
use Rattle.sct_case.proofs.Membership.{Finds, any-Decides, empty, filtered_in, finds, in_filter, some-Decides}

-- ---- the parts of a list before and after a place

module _ {X : Type 0} (p : X → Bool) (xs : List X) (i : ℕ) (within : i ≤ length xs) (point : IsPartitionPoint (λ x. p x ≡ true) (λ x. p x ≡ false) xs i) where
  before : All (λ x. p x ≡ true) (take i xs)
  before k d below = ap p (get_or-take i xs k d (omega (arith, length-take-le i xs within))) ∙ point.0 k d (omega arith) (omega (arith, length-take-le i xs within))

  after : All (λ x. p x ≡ false) (drop i xs)
  after k d below = ap p (get_or-drop i xs k d) ∙ point.1 (i + k) d (omega arith) (omega (arith, length-drop i xs))

module _ {X : Type 0} (p : X → Bool) where
  none_pass : (xs : List X) → All (λ x. p x ≡ false) xs → filter p xs ≡ []
  none_pass [] h = refl
  none_pass (x ∷ xs) h = rw (All-head (λ y. p y ≡ false) x xs h) (none_pass xs (All-tail (λ y. p y ≡ false) x xs h))

  all_pass : (xs : List X) → All (λ x. p x ≡ true) xs → filter p xs ≡ xs
  all_pass [] h = refl
  all_pass (x ∷ xs) h = rw (All-head (λ y. p y ≡ true) x xs h) (ap (λ (ys : List X). x ∷ ys) (all_pass xs (All-tail (λ y. p y ≡ true) x xs h)))

-- ---- below, at and above a recall

le_is : (o : Ordering) → leb (ordering_index o) 1 ≡ is_le o
le_is Less = refl
le_is Equal = refl
le_is Greater = refl

lt_is : (o : Ordering) → ltb (ordering_index o) 1 ≡ is_lt o
lt_is Less = refl
lt_is Equal = refl
lt_is Greater = refl

less_is_not : (o : Ordering) → is_lt o ≡ true → is_eq o ≡ false
less_is_not Less e = refl
less_is_not Equal e = sym e
less_is_not Greater e = refl

greater_is_not : (o : Ordering) → is_le o ≡ false → is_eq o ≡ false
greater_is_not Less e = refl
greater_is_not Equal e = e
greater_is_not Greater e = refl

between_is : (o : Ordering) → is_lt o ≡ false → is_le o ≡ true → is_eq o ≡ true
between_is Less h e = sym h
between_is Equal h e = refl
between_is Greater h e = e

module _ {X : Type 0} (recall : X → List ℕ) (cxl : List ℕ) (xs : List X) where
  abbrev pub order_at : X → Ordering
  order_at x = text_order (recall x) cxl

  by_order : (x : X) (b : Bool) → is_eq (order_at x) ≡ b → is_text (recall x) cxl ≡ b
  by_order x b e = texts_ties (recall x) cxl ∙ e

  rising : IsByRecall recall xs → IsNonDecreasingBy (λ y. ordering_index (order_at y)) xs
  rising sorted = searchable_from_sorted nat_list_cmp_total recall xs cxl sorted

  pub parted_le : IsByRecall recall xs → IsPartitionedBy (λ y. is_le (order_at y)) xs
  parted_le sorted = subst (λ (f : Ordering → Bool). IsPartitionedBy (λ y. f (order_at y)) xs) (λ i o. le_is o i) (IsPartitionedBy-leb (λ y. ordering_index (order_at y)) xs 1 (rising sorted))

  module _ (ys zs : List X) (end start : ℕ) (taken : ys ≡ take end xs) (dropped : zs ≡ drop start ys) where
    pub parted_lt : IsByRecall recall xs → IsPartitionedBy (λ y. is_lt (order_at y)) ys
    parted_lt sorted = subst (λ (f : Ordering → Bool). IsPartitionedBy (λ y. f (order_at y)) ys) (λ i o. lt_is o i)
        (IsPartitionedBy-ltb (λ y. ordering_index (order_at y)) ys 1
        (subst (IsNonDecreasingBy (λ y. ordering_index (order_at y))) (sym taken) (IsNonDecreasingBy-take (λ y. ordering_index (order_at y)) end xs (rising sorted))))

    -- what is said of the recall lies between the two places
    pub between_places : end ≤ length xs → start ≤ length ys → IsPartitionPoint (λ y. is_le (order_at y) ≡ true) (λ y. is_le (order_at y) ≡ false) xs end
        → IsPartitionPoint (λ y. is_lt (order_at y) ≡ true) (λ y. is_lt (order_at y) ≡ false) ys start → zs ≡ said_of recall cxl xs
    between_places within inside last start_point =
        let is : X → Bool = λ x. is_text (recall x) cxl in
        let above : All (λ x. is x ≡ false) (drop end xs) = λ k d h. by_order _ false (greater_is_not _ (after (λ y. is_le (order_at y)) xs end within last k d h)) in
        let below : All (λ x. is x ≡ false) (take start ys) = λ k d h. by_order _ false (less_is_not _ (before (λ y. is_lt (order_at y)) ys start inside start_point k d h)) in
        let up_to : All (λ x. is_le (order_at x) ≡ true) ys = subst (All (λ x. is_le (order_at x) ≡ true)) (sym taken) (before (λ y. is_le (order_at y)) xs end within last) in
        let at : All (λ x. is x ≡ true) (drop start ys) =
        λ k d h. by_order _ true (between_is _ (after (λ y. is_lt (order_at y)) ys start inside start_point k d h) (All-drop (λ x. is_le (order_at x) ≡ true) start ys up_to k d h)) in
        dropped
        ∙ sym (ap (filter is) (sym (take-append-drop end xs)) ∙ filter-append is (take end xs) (drop end xs)
        ∙ (λ i. filter is (sym taken i) ++ none_pass is (drop end xs) above i)
        ∙ append-nil (filter is ys)
        ∙ ap (filter is) (sym (take-append-drop start ys)) ∙ filter-append is (take start ys) (drop start ys)
        ∙ (λ i. none_pass is (take start ys) below i ++ all_pass is (drop start ys) at i))

-- ---- what is looked up in what passes a test

pub first_found : {X : Type 0} (xs : List X) → find (λ x. true) xs ≡ first xs
first_found [] = refl
first_found (x ∷ xs) = refl

module _ {X : Type 0} (p : X → Bool) where
  pub first_passed : (xs : List X) → first (filter p xs) ≡ find p xs
  first_passed [] = refl
  first_passed (x ∷ xs) = elim (p x) as (λ b. first (cond b (x ∷ filter p xs) (filter p xs)) ≡ cond b (Some x) (find p xs)) [ true ↦ refl | false ↦ first_passed xs ]

  pub some_passed : (xs : List X) → not (length (filter p xs) == 0) ≡ list_any p xs
  some_passed xs = same_from_decides _ _ (some-Decides (filter p xs))
      (Decides-like _ (λ s. (s.0, filtered_in p xs s.0 s.1 s.2)) (λ s. let f = in_filter p xs s.0 s.1 in (s.0, f.0, f.1)) (any-Decides p (λ x. p x ≡ true) (λ x. (λ h. h, λ h. h)) xs))

  from_one : (same : X → X → Bool) (o : Option X) (xs : List X) → differ_from (λ x. true) same o (filter p xs) ≡ differ_from p same o xs
  from_one same None xs = refl
  from_one same (Some one) xs = list_any-filter (λ other. not (same one other)) p xs

  -- of those that pass, some differ
  pub differ_passed : (same : X → X → Bool) (xs : List X) → differ same (filter p xs) ≡ differ_among p same xs
  differ_passed same xs =
      ap (λ (o : Option X). differ_from (λ x. true) same o (filter p xs)) (first_found (filter p xs) ∙ first_passed xs) ∙ from_one same (find p xs) xs

  -- lists in which the same pass, in the same order, answer alike
  module _ (xs ys : List X) (alike : filter p xs ≡ filter p ys) where
    pub some_alike : list_any p xs ≡ list_any p ys
    some_alike = sym (some_passed xs) ∙ ap (λ (l : List X). not (length l == 0)) alike ∙ some_passed ys

    pub first_alike : find p xs ≡ find p ys
    first_alike = sym (first_passed xs) ∙ ap first alike ∙ first_passed ys

    pub differ_alike : (same : X → X → Bool) → differ_among p same xs ≡ differ_among p same ys
    differ_alike same = sym (differ_passed same xs) ∙ ap (differ same) alike ∙ differ_passed same ys

-- ---- a stable sort by the recalls

tied : (o : Ordering) → (not (is_lt (ordering_reverse o)) && not (is_lt o)) ≡ is_eq o
tied Less = refl
tied Equal = refl
tied Greater = refl

module _ {X : Type 0} (recall : X → List ℕ) where
  abbrev earlier : X → X → Bool
  earlier x y = is_lt (text_order (recall x) (recall y))

  ties_are : (cxl : List ℕ) (x m : X) → recall x ≡ cxl → ties earlier x m ≡ is_text (recall m) cxl
  ties_are cxl x m is =
      ap (λ o. not (is_lt o) && not (earlier m x)) (nat_list_cmp_total.antisymm (recall x) (recall m))
      ∙ tied (text_order (recall m) (recall x))
      ∙ sym (texts_ties (recall m) (recall x))
      ∙ ap (is_text (recall m)) is

  module _ (xs ys : List X) (stable : IsStableBy earlier xs ys) (cxl : List ℕ) where
    by_one : (x : X) → recall x ≡ cxl → said_of recall cxl ys ≡ said_of recall cxl xs
    by_one x is =
        filter_agree (λ m. is_text (recall m) cxl) (ties earlier x) (λ m. sym (ties_are cxl x m is)) ys
        ∙ stable x
        ∙ filter_agree (ties earlier x) (λ m. is_text (recall m) cxl) (λ m. ties_are cxl x m is) xs

    none_said : (zs : List X) → ((x : X) → Contains zs x → recall x ≡ cxl → ⊥) → said_of recall cxl zs ≡ []
    none_said zs none = empty (said_of recall cxl zs) (λ x h. let f = in_filter (λ m. is_text (recall m) cxl) zs x h in none x f.0 ((bytes_decides (recall x) cxl).0 f.1))

    by_either : (o q : Option X) → Finds (λ x. recall x ≡ cxl) xs o → Finds (λ x. recall x ≡ cxl) ys q → said_of recall cxl ys ≡ said_of recall cxl xs
    by_either (Some x) q f g = by_one x f.1
    by_either None (Some x) f g = by_one x g.1
    by_either None None f g = none_said ys g ∙ sym (none_said xs f)

  pub alike_from_stable : (xs ys : List X) → IsStableBy earlier xs ys → SayAlike recall ys xs
  alike_from_stable xs ys stable cxl =
      let found = finds (λ x. is_text (recall x) cxl) (λ x. recall x ≡ cxl) (λ x. bytes_decides (recall x) cxl) in
      by_either xs ys stable cxl _ _ (found xs) (found ys)
