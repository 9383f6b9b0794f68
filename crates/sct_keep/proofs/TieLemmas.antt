-- Messages in groups of those that are tied. Proof plumbing.
use Rattle.std.specs.Prelude.{◌⊎◌, Contains, slice_index}
use Rattle.std.specs.List.{slice_get}
use Rattle.std.proofs.Common.{◌≡◌, ◌∙◌, ◌<◌, ◌+◌, refl, sym, ap, subst, ℕ, Bool, true, false, cond, List, [], ◌∷◌, ◌++◌, length, arith, inl, inr, Some, None, get_or, option_map}
use Rattle.std.proofs.lemmas.Bool.{cases_eq}
use Rattle.std.proofs.lemmas.List.Elements.{Contains-append_cases, Contains-append_left, Contains-append_right}
use Rattle.std.proofs.lemmas.Option.{get_or_from_slice_get, slice_get-get_or, slice_get-map, slice_get_within}
use Rattle.std.specs.Arc.{arc_value}
use Rattle.std.specs.Global.{Global}
use Rattle.std.specs.declared.sync.Arc.{Arc}
use Rattle.indexmap.specs.IndexMap.{IndexMap}
use Rattle.sct_message.specs.Keys.{identity_of, transfers_of}
use Rattle.sct_message.specs.Sets.{messages_in}
use Rattle.sct_message.specs.declared.draft.Draft.{Draft}
use Rattle.sct_message.specs.declared.keys.Identity.{Identity}
use Rattle.sct_message.specs.declared.keys.TransferKey.{TransferKey}
use Rattle.sct_case.proofs.Membership.{here, nothing, only}
use Rattle.sct_set.specs.Buckets.{bucket}
use Rattle.sct_view.specs.Kept.{same_key}
use Rattle.sct_keep.specs.Keep.{AreTied}
use Rattle.sct_keep.specs.Ties.{AreFirsts, AreGroups, HasFirst, IsTiedBy, Respects, identities_of, same_id}
use Rattle.sct_keep.specs.Trees.{AreJoined, AreLabels, AreParents, AreWithJoined, IsConstant}

-- ---- members of a list by their numbers

some_is : {X : Type 0} (x y : X) → Some x ≡ Some y → x ≡ y
some_is x y e = grind (arith, e)

none_some : (i : ℕ) → None ≡ Some i → ⊥
none_some i e = grind (arith, e)

pub got_in : {X : Type 0} (xs : List X) (i : ℕ) (x : X) → slice_get xs i ≡ Some x → Contains xs x
got_in xs i x e = (i, slice_get_within xs i x e, get_or_from_slice_get xs i x x e)

pub one_item : {X : Type 0} (xs : List X) (i j : ℕ) (x y : X) → i ≡ j → slice_get xs i ≡ Some x → slice_get xs j ≡ Some y → x ≡ y
one_item xs i j x y same a b = some_is x y (sym a ∙ ap (slice_get xs) same ∙ b)

-- a shared message of the code's list, as a message
pub got_draft : (xs : List (Arc Draft Global)) (i : ℕ) (a : Arc Draft Global) (m : Draft) → i < length xs → a ≡ get_or xs i a → m ≡ arc_value a
    → slice_get (messages_in xs) i ≡ Some m
got_draft xs i a m within is of =
    slice_get-map arc_value xs i ∙ ap (option_map arc_value) (slice_get-get_or xs i a within ∙ ap (λ (x : Arc Draft Global). Some x) (sym is)) ∙ ap (λ (x : Draft). Some x) (sym of)

pub less_or : (j n : ℕ) → j < n + 1 → (j < n) ⊎ (j ≡ n)
less_or j n b = elim (cases_eq j n) as (λ _. (j < n) ⊎ (j ≡ n)) [ inl e ↦ inr e | inr ne ↦ inl (omega (arith, b, ne)) ]

-- ---- one number at some keys

module _ {K S : Type 0} (eq : K → K → Bool) (first new : IndexMap K (List ℕ) S) (before after : List ℕ) (key : K) (number : ℕ) where
  -- the key has a number, with which this one is joined
  pub tied_again : (other : ℕ) → HasFirst eq first key other → AreWithJoined before after other number
      → IsTiedBy eq first first before after (key ∷ []) number
  tied_again other has w = record {
    count = w.count;
    parents = w.parents;
    filed = λ k h. (other, subst (λ q. HasFirst eq first q other) (only key k h) has, w.joined);
    stay = λ k i h. h;
    come = λ k i h. inl h;
    trees = w.stays;
    no_more = λ f c agrees. w.only f c (agrees key other (here key []) has);
  }

  -- the key has none yet
  pub tied_first : AreParents before → ((a b : K) → eq a b ≡ true → a ≡ b) → ((a : K) → eq a a ≡ true) → bucket eq first key ≡ []
      → ((k : K) → bucket eq new k ≡ cond (eq key k) (number ∷ []) (bucket eq first k)) → IsTiedBy eq first new before before (key ∷ []) number
  tied_first are exact itself none made = record {
    count = refl;
    parents = are;
    filed = λ k h. (
      number,
      subst (λ q. HasFirst eq new q number) (only key k h)
          (ap (λ xs. slice_get xs 0) (made key ∙ ap (λ b. cond b (number ∷ []) (bucket eq first key)) (itself key))),
      λ f c. refl,
    );
    stay = λ k i h. elim (eq key k) as (λ b. eq key k ≡ b → HasFirst eq new k i) [
      | true ↦ λ e. absurd (none_some i (sym (ap (λ xs. slice_get xs 0) (ap (bucket eq first) (sym (exact key k e)) ∙ none)) ∙ h))
      | false ↦ λ e. ap (λ xs. slice_get xs 0) (made k ∙ ap (λ b. cond b (number ∷ []) (bucket eq first k)) e) ∙ h
    ] refl;
    come = λ k i h. elim (eq key k) as (λ b. eq key k ≡ b → HasFirst eq first k i ⊎ (Contains (key ∷ []) k × (i ≡ number))) [
      | true ↦ λ e. inr (
        subst (Contains (key ∷ [])) (exact key k e) (here key []),
        some_is i number (sym h ∙ ap (λ xs. slice_get xs 0) (made k ∙ ap (λ b. cond b (number ∷ []) (bucket eq first k)) e)),
      )
      | false ↦ λ e. inl (sym (ap (λ xs. slice_get xs 0) (made k ∙ ap (λ b. cond b (number ∷ []) (bucket eq first k)) e)) ∙ h)
    ] refl;
    trees = λ f c. c;
    no_more = λ f c agrees. c;
  }

module _ {K S : Type 0} (eq : K → K → Bool) (number : ℕ) where
  pub tied_nowhere : (a : IndexMap K (List ℕ) S) (p : List ℕ) → AreParents p → IsTiedBy eq a a p p [] number
  tied_nowhere a p are = record {
    count = refl;
    parents = are;
    filed = λ k h. absurd (nothing k h);
    stay = λ k i h. h;
    come = λ k i h. inl h;
    trees = λ f c. c;
    no_more = λ f c agrees. c;
  }

  -- some keys, and then one more
  pub then_tied : (a b c : IndexMap K (List ℕ) S) (p q r : List ℕ) (ks : List K) (key : K)
      → IsTiedBy eq a b p q ks number → IsTiedBy eq b c q r (key ∷ []) number → IsTiedBy eq a c p r (ks ++ key ∷ []) number
  then_tied a b c p q r ks key one other = record {
    count = other.count ∙ one.count;
    parents = other.parents;
    filed = λ k h. elim (Contains-append_cases ks (key ∷ []) k h) as (λ _. (i : ℕ) × HasFirst eq c k i × AreJoined r i number) [
      | inl old ↦ let x = one.filed k old in (x.0, other.stay k x.0 x.1, λ f d. x.2 f (other.trees f d))
      | inr last ↦ other.filed k last
    ];
    stay = λ k i h. other.stay k i (one.stay k i h);
    come = λ k i h. elim (other.come k i h) as (λ _. HasFirst eq a k i ⊎ (Contains (ks ++ key ∷ []) k × (i ≡ number))) [
      | inl old ↦ elim (one.come k i old) as (λ _. HasFirst eq a k i ⊎ (Contains (ks ++ key ∷ []) k × (i ≡ number))) [
        | inl older ↦ inl older
        | inr e ↦ inr (Contains-append_left ks (key ∷ []) k e.0, e.1)
      ]
      | inr e ↦ inr (Contains-append_right ks (key ∷ []) k e.0, e.1)
    ];
    trees = λ f d. one.trees f (other.trees f d);
    no_more = λ f d agrees.
        other.no_more f (one.no_more f d (λ k i h. agrees k i (Contains-append_left ks (key ∷ []) k h)))
        (λ k i h has. elim (one.come k i has) as (λ _. f i ≡ f number) [
          | inl old ↦ agrees k i (Contains-append_right ks (key ∷ []) k h) old
          | inr e ↦ ap f e.1
        ]);
  }

-- ---- the messages below a number

-- Each key of the messages below a number has a message, with which the key's other messages are joined.
pub record AreFiled {K S : Type 0} (eq : K → K → Bool) (keys_of : Draft → List K) (ms : List Draft) (below : ℕ)
    (first : IndexMap K (List ℕ) S) (parents : List ℕ) : Type 0 where
  pub each : (j : ℕ) (m : Draft) → j < below → slice_get ms j ≡ Some m → (k : K) → Contains (keys_of m) k
      → (i : ℕ) × HasFirst eq first k i × AreJoined parents i j
  pub of : (k : K) (i : ℕ) → HasFirst eq first k i → (m : Draft) × (slice_get ms i ≡ Some m) × Contains (keys_of m) k

module _ {K S : Type 0} (eq : K → K → Bool) (keys_of : Draft → List K) (ms : List Draft) where
  none_filed : (first : IndexMap K (List ℕ) S) (parents : List ℕ) → ((k : K) → bucket eq first k ≡ []) → AreFiled eq keys_of ms 0 first parents
  none_filed first parents empty = record {
    each = λ j m none. absurd (omega (arith, none));
    of = λ k i h. absurd (none_some i (sym (ap (λ xs. slice_get xs 0) (empty k)) ∙ h));
  }

  -- more is joined
  still_filed : (n : ℕ) (first : IndexMap K (List ℕ) S) (before after : List ℕ) → ((f : ℕ → ℕ) → IsConstant f after → IsConstant f before)
      → AreFiled eq keys_of ms n first before → AreFiled eq keys_of ms n first after
  still_filed n first before after trees s = record {
    each = λ j m low e k h. let r = s.each j m low e k h in (r.0, r.1, λ f c. r.2 f (trees f c));
    of = s.of;
  }

  module _ (n : ℕ) (m : Draft) (at : slice_get ms n ≡ Some m) where
    one_filed : (first new : IndexMap K (List ℕ) S) (before after : List ℕ) → IsTiedBy eq first new before after (keys_of m) n
        → AreFiled eq keys_of ms n first before → AreFiled eq keys_of ms (n + 1) new after
    one_filed first new before after t s = record {
      each = λ j d low e k h. elim (less_or j n low) as (λ _. (i : ℕ) × HasFirst eq new k i × AreJoined after i j) [
        | inl less ↦ let r = s.each j d less e k h in (r.0, t.stay k r.0 r.1, λ f c. r.2 f (t.trees f c))
        | inr same ↦
            let r = t.filed k (subst (λ x. Contains (keys_of x) k) (one_item ms j n d m same e at) h) in
            (r.0, r.1, λ f c. r.2 f c ∙ ap f (sym same))
      ];
      of = λ k i h. elim (t.come k i h) as (λ _. (d : Draft) × (slice_get ms i ≡ Some d) × Contains (keys_of d) k) [
        | inl old ↦ s.of k i old
        | inr e ↦ (m, ap (slice_get ms) e.1 ∙ at, e.0)
      ];
    }

    -- a function with one value at tied messages has one value at the number of a key and at this one
    agrees : ((one other : Draft) (k : K) → Contains (keys_of one) k → Contains (keys_of other) k → AreTied one other)
        → (first : IndexMap K (List ℕ) S) (parents : List ℕ) → AreFiled eq keys_of ms n first parents → (f : ℕ → ℕ) → Respects f ms
        → (k : K) (i : ℕ) → Contains (keys_of m) k → HasFirst eq first k i → f i ≡ f n
    agrees tie first parents s f r k i h has = let o = s.of k i has in r i n o.0 m o.1 at (tie o.0 m k o.2 h)

  -- messages with a key in common are joined
  one_label : (first : IndexMap K (List ℕ) S) (parents : List ℕ) → AreFiled eq keys_of ms (length ms) first parents → (f : ℕ → ℕ) → IsConstant f parents
      → (i j : ℕ) (one other : Draft) → slice_get ms i ≡ Some one → slice_get ms j ≡ Some other → (k : K) → Contains (keys_of one) k → Contains (keys_of other) k
      → f i ≡ f j
  one_label first parents s f c i j one other a b k h g =
      let x = s.each i one (slice_get_within ms i one a) a k h in
      let y = s.each j other (slice_get_within ms j other b) b k g in
      sym (x.2 f c) ∙ ap f (some_is x.0 y.0 (sym x.1 ∙ y.1)) ∙ y.2 f c

  pub within_filed : (n : ℕ) (first : IndexMap K (List ℕ) S) (parents : List ℕ) → length parents ≡ length ms → AreFiled eq keys_of ms n first parents
      → (k : K) (i : ℕ) → HasFirst eq first k i → i < length parents
  within_filed n first parents count s k i h = let o = s.of k i h in subst (λ c. i < c) (sym count) (slice_get_within ms i o.0 o.1)

tied_by_identity : (one other : Draft) (k : Identity) → Contains (identities_of one) k → Contains (identities_of other) k → AreTied one other
tied_by_identity one other k h g = inl (only (identity_of one) k h ∙ sym (only (identity_of other) k g))

tied_by_transfer : (one other : Draft) (k : TransferKey) → Contains (transfers_of one) k → Contains (transfers_of other) k → AreTied one other
tied_by_transfer one other k h g = inr (k, h, g)

-- The messages below a number are joined by their identities and transfers, and no others.
pub record AreTiedBelow {S Z : Type 0} (ms : List Draft) (n : ℕ) (ids : IndexMap Identity (List ℕ) S)
    (first : IndexMap TransferKey (List ℕ) Z) (parents : List ℕ) : Type 0 where
  pub count : length parents ≡ length ms
  pub are : AreParents parents
  pub identities : AreFiled same_id identities_of ms n ids parents
  pub transfers : AreFiled same_key transfers_of ms n first parents
  pub no_more : (f : ℕ → ℕ) → Respects f ms → IsConstant f parents

module _ {S Z : Type 0} (ms : List Draft) where
  pub none_tied : (ids : IndexMap Identity (List ℕ) S) (first : IndexMap TransferKey (List ℕ) Z) (parents : List ℕ) → length parents ≡ length ms
      → ((i : ℕ) → i < length ms → slice_index parents i ≡ i) → ((k : Identity) → bucket same_id ids k ≡ [])
      → ((k : TransferKey) → bucket same_key first k ≡ []) → AreTiedBelow ms 0 ids first parents
  none_tied ids first parents count alone no_ids no_first = record {
    count = count;
    are = λ i b. let e = alone i (subst (λ n. i < n) count b) in omega (arith, e);
    identities = none_filed same_id identities_of ms ids parents no_ids;
    transfers = none_filed same_key transfers_of ms first parents no_first;
    no_more = λ f r i b. ap f (alone i (subst (λ n. i < n) count b));
  }

  pub one_message : (n : ℕ) (m : Draft) → slice_get ms n ≡ Some m → (ids ids_new : IndexMap Identity (List ℕ) S) (first first_new : IndexMap TransferKey (List ℕ) Z)
      (a b c : List ℕ) → IsTiedBy same_id ids ids_new a b (identities_of m) n → IsTiedBy same_key first first_new b c (transfers_of m) n
      → AreTiedBelow ms n ids first a → AreTiedBelow ms (n + 1) ids_new first_new c
  one_message n m at ids ids_new first first_new a b c one other s = record {
    count = other.count ∙ one.count ∙ s.count;
    are = other.parents;
    identities = still_filed same_id identities_of ms (n + 1) ids_new b c other.trees (one_filed same_id identities_of ms n m at ids ids_new a b one s.identities);
    transfers = one_filed same_key transfers_of ms n m at first first_new b c other (still_filed same_key transfers_of ms n first a b one.trees s.transfers);
    no_more = λ f r.
        other.no_more f (one.no_more f (s.no_more f r) (agrees same_id identities_of ms n m at tied_by_identity ids a s.identities f r))
        (agrees same_key transfers_of ms n m at tied_by_transfer first a s.transfers f r);
  }

  module _ (ids : IndexMap Identity (List ℕ) S) (first : IndexMap TransferKey (List ℕ) Z) (parents : List ℕ) (s : AreTiedBelow ms (length ms) ids first parents) where
    pub all_tied : (labels : List ℕ) → AreLabels labels parents → AreGroups ms labels
    all_tied labels l = record {
      count = l.count ∙ s.count;
      within = λ i b. subst (λ c. slice_index labels i < c) s.count (l.within i (subst (λ c. i < c) (sym s.count) b));
      tied = λ i j one other a b tie.
          elim tie as (λ _. slice_index labels i ≡ slice_index labels j) [
            | inl e ↦
                one_label same_id identities_of ms ids parents s.identities (slice_index labels) l.constant i j one other a b (identity_of one)
                (here (identity_of one) []) (subst (Contains (identities_of other)) (sym e) (here (identity_of other) []))
            | inr h ↦ one_label same_key transfers_of ms first parents s.transfers (slice_index labels) l.constant i j one other a b h.0 h.1 h.2
          ];
      same = λ f r i b. l.same f (s.no_more f r) i (subst (λ c. i < c) (sym s.count) b);
    }

    pub all_first : AreFirsts ms first
    all_first = record {
      each = λ j m e k h. let x = s.transfers.each j m (slice_get_within ms j m e) e k h in (x.0, x.1);
      of = s.transfers.of;
    }
