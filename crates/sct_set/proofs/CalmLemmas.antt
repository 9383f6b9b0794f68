-- The index of digests has the messages that are not the first of their identity: those identities are the contradicted ones.
-- Proof plumbing.
use Rattle.std.proofs.Common.{◌≡◌, ◌↔◌, ℕ, ◌+◌, ◌≤◌, nat_eq, Bool, true, false, cond, not, ◌&&◌, ◌||◌, List, [], ◌∷◌, ◌++◌, map, Option, None, Some, is_some, length, take, refl, sym, ap, subst, ◌∙◌, arith, filter, length-append}
use Rattle.std.specs.FinSet as set
use Rattle.std.specs.FinSet.{len-empty, len-insert}
use Rattle.std.specs.Arc.{arc_value}
use Rattle.std.specs.Global.{Global}
use Rattle.std.specs.declared.sync.Arc.{Arc}
use Rattle.std.specs.Cmp.{both_ways}
use Rattle.std.specs.List.{list_any}
use Rattle.std.specs.Ordering.{eq_by_cmp}
use Rattle.std.specs.Map.{lookup}
use Rattle.std.proofs.lemmas.Bool.{and_from, and_parts, eq-eqb, eqb-true, false≢true, false_from_ne_true, not-true, or_from, or_left, or_right}
use Rattle.std.proofs.lemmas.Cmp.{nat_eq_equiv}
use Rattle.std.proofs.lemmas.List.{append_assoc, append-nil, length-map}
use Rattle.std.proofs.lemmas.List.Folds.{Any-from_list_any, list_any-append, list_any-from_Any}
use Rattle.std.proofs.lemmas.Map.Views.{Contains-from_lookup, lookup-from_Contains}
use Rattle.indexmap.specs.IndexMap.{IndexMap, get, index_map_len, IsUnique}
use Rattle.sct_message.specs.declared.draft.Draft.{Draft}
use Rattle.sct_message.specs.declared.keys.Identity.{Identity}
use Rattle.sct_message.specs.Ascending.{ascending}
use Rattle.sct_message.specs.Keys.{identity_of}
use Rattle.sct_message.specs.Order.{identity_order, message_order, same_identity, same_message}
use Rattle.sct_message.specs.OrderLaws.{identity_total, identities_same, message_total}
use Rattle.sct_message.proofs.AscendingLemmas.{ascending-same}
use Rattle.sct_message.proofs.Members.{list_any-filter, list_any-found, list_any-map}
use Rattle.sct_message.proofs.SameValues.{identity_is, identity_itself, message_is, message_itself}
use Rattle.sct_message.proofs.Tests.{and_comm, any_flat_map, or_false}
use Rattle.sct_set.specs.Buckets.{bucket, items_in}
use Rattle.sct_set.specs.Contents.{contents_of, HasNoRepeat}
use Rattle.sct_set.specs.Contradictions.{contradicted_identities, is_disputed}
use Rattle.sct_set.specs.Digest.{digest_of}
use Rattle.sct_set.specs.Drafts.{against_after, against_in, drafts_in, drafts_of, finds, IsIndexBy}
use Rattle.sct_set.specs.Filing.{identities_filed}
use Rattle.sct_set.proofs.AgainstLemmas.{first_or_against}
use Rattle.sct_set.proofs.ContentsLemmas.{any_items, contains-contents_of, contents-push, is_rival}

-- ---- a list without repeats

-- each message adds one at most
at_most_each : (before rest : List Draft) → set.len (contents_of (before ++ rest)) ≤ set.len (contents_of before) + length rest
at_most_each before [] = let e = ap (λ (ds : List Draft). set.len (contents_of ds)) (append-nil before) in omega arith
at_most_each before (d ∷ ds) =
    let later = at_most_each (before ++ d ∷ []) ds in
    let moved = ap (λ (xs : List Draft). set.len (contents_of xs)) (append_assoc before (d ∷ []) ds) in
    let added = ap set.len (contents-push before d) ∙ len-insert message_total (contents_of before) d in
    elim (set.contains (contents_of before) d) as (λ b. set.len (contents_of (before ++ d ∷ [])) ≡ cond b (set.len (contents_of before)) (set.len (contents_of before) + 1)
    → set.len (contents_of (before ++ d ∷ ds)) ≤ set.len (contents_of before) + length (d ∷ ds)) [
      | true ↦ λ e. omega arith
      | false ↦ λ e. omega arith
    ] added

-- a message is not among those before it
not_before : (before ds : List Draft) (d : Draft) → HasNoRepeat (before ++ d ∷ ds) → set.contains (contents_of before) d ≡ false
not_before before ds d once =
    false_from_ne_true (set.contains (contents_of before) d) (λ held.
    let few = at_most_each [] before in
    let none = len-empty message_order in
    let later = at_most_each (before ++ d ∷ []) ds in
    let moved = ap (λ (xs : List Draft). set.len (contents_of xs)) (append_assoc before (d ∷ []) ds) in
    let same = ap set.len (contents-push before d) ∙ len-insert message_total (contents_of before) d
    ∙ ap (λ (b : Bool). cond b (set.len (contents_of before)) (set.len (contents_of before) + 1)) held in
    let long = length-append before (d ∷ ds) in
    omega arith)

-- ---- the messages of one identity

-- one that has the identity and is not the same is a rival
rival_among : (d : Draft) (xs : List Draft) → finds (identity_of d) xs ≡ true → list_any (λ x. same_message x d) xs ≡ false
    → list_any (is_rival d) xs ≡ true
rival_among d [] found none = found
rival_among d (x ∷ xs) found none =
    elim (same_message x d) as (λ b. (b || list_any (λ y. same_message y d) xs) ≡ false
    → ((same_identity (identity_of x) (identity_of d) && not b) || list_any (is_rival d) xs) ≡ true) [
      | true ↦ λ e. absurd (false≢true (sym e))
      | false ↦ λ e.
          elim (same_identity (identity_of x) (identity_of d)) as (λ b. (b || finds (identity_of d) xs) ≡ true → ((b && true) || list_any (is_rival d) xs) ≡ true) [
            | true ↦ λ f. refl
            | false ↦ λ f. rival_among d xs f e
          ] found
    ] none

-- the message is of an identity that passes the test
abbrev is_of : (Identity → Bool) → Draft → Bool
is_of test d = test (identity_of d)

-- and a different message of the list has that identity
abbrev is_disputed_of : (Identity → Bool) → List Draft → Draft → Bool
is_disputed_of test all d = test (identity_of d) && is_disputed (contents_of all) d

-- a message behind another of its identity is disputed
module _ (test : Identity → Bool) (all : List Draft) (once : HasNoRepeat all) where
  disputed_behind : (before ds : List Draft) (d : Draft) → before ++ d ∷ ds ≡ all → finds (identity_of d) before ≡ true → is_disputed (contents_of all) d ≡ true
  disputed_behind before ds d is found =
      let alone = sym (contains-contents_of before d) ∙ not_before before ds d (subst HasNoRepeat (sym is) once) in
      any_items (is_rival d) all
      ∙ ap (list_any (is_rival d)) (sym is)
      ∙ list_any-append (is_rival d) before (d ∷ ds)
      ∙ or_left (list_any (is_rival d) before) _ (rival_among d before found alone)

  passes_there : (before ds : List Draft) (d : Draft) → before ++ d ∷ ds ≡ all → is_disputed_of test all d ≡ true → list_any (is_disputed_of test all) all ≡ true
  passes_there before ds d is e =
      ap (list_any (is_disputed_of test all)) (sym is)
      ∙ list_any-append (is_disputed_of test all) before (d ∷ ds)
      ∙ or_right (list_any (is_disputed_of test all) before) _ (or_left (is_disputed_of test all d) _ e)

  against_behind : (before rest : List Draft) → before ++ rest ≡ all → list_any (is_of test) (against_after before rest) ≡ true → list_any (is_disputed_of test all) all ≡ true
  against_behind before [] is some = absurd (false≢true some)
  against_behind before (d ∷ ds) is some =
      let later = against_behind (before ++ d ∷ []) ds (append_assoc before (d ∷ []) ds ∙ is) in
      elim (finds (identity_of d) before) as (λ b. finds (identity_of d) before ≡ b
      → list_any (is_of test) (cond b (d ∷ against_after (before ++ d ∷ []) ds) (against_after (before ++ d ∷ []) ds)) ≡ true → list_any (is_disputed_of test all) all ≡ true) [
        | true ↦ λ found.
            elim (is_of test d) as (λ b. is_of test d ≡ b → (b || list_any (is_of test) (against_after (before ++ d ∷ []) ds)) ≡ true → list_any (is_disputed_of test all) all ≡ true) [
              | true ↦ λ e _. passes_there before ds d is (and_from _ _ e (disputed_behind before ds d is found))
              | false ↦ λ _ rest. later rest
            ] refl
        | false ↦ λ _ rest. later rest
      ] refl some

-- no member passes, so none does
any_none : (p : Draft → Bool) (xs : List Draft) → ((x : Draft) → list_any (λ d. same_message d x) xs ≡ true → p x ≡ false) → list_any p xs ≡ false
any_none p [] h = refl
any_none p (x ∷ xs) h =
    or_from (p x) (list_any p xs) (h x (or_left (same_message x x) _ (message_itself x)))
    (any_none p xs (λ y e. h y (or_right (same_message x y) _ e)))

-- the first of a list is one message
only : (xs : List Draft) (a b : Draft) → list_any (λ d. same_message d a) (take 1 xs) ≡ true → list_any (λ d. same_message d b) (take 1 xs) ≡ true → a ≡ b
only [] a b e f = absurd (false≢true e)
only (x ∷ xs) a b e f =
    sym (message_is x a (sym (or_false (same_message x a)) ∙ e)) ∙ message_is x b (sym (or_false (same_message x b)) ∙ f)

-- where no message of an identity is behind another, the first of them is the only one
module _ (ds : List Draft) (m : Draft) (none : finds (identity_of m) (against_in ds) ≡ false) where
  not_against : (x : Draft) → identity_of x ≡ identity_of m → list_any (λ d. same_message d x) (against_in ds) ≡ false
  not_against x same = false_from_ne_true (list_any (λ d. same_message d x) (against_in ds)) (λ e.
      false≢true (sym none ∙ list_any-found (λ y d. same_message d y) (λ y d f. sym (message_is d y f)) (λ d. same_identity (identity_of d) (identity_of m)) x (against_in ds) e
      (ap (λ i. same_identity i (identity_of m)) same ∙ identity_itself (identity_of m))))

  is_first : (x : Draft) → identity_of x ≡ identity_of m → list_any (λ d. same_message d x) ds ≡ true
      → list_any (λ d. same_message d x) (take 1 (drafts_of (identity_of m) ds)) ≡ true
  is_first x same held =
      ap (λ i. list_any (λ d. same_message d x) (take 1 (drafts_of i ds))) (sym same)
      ∙ sym (or_false (list_any (λ d. same_message d x) (take 1 (drafts_of (identity_of x) ds))))
      ∙ ap (λ (b : Bool). list_any (λ d. same_message d x) (take 1 (drafts_of (identity_of x) ds)) || b) (sym (not_against x same))
      ∙ first_or_against x ds
      ∙ held

  -- and so it is not disputed
  undisputed : list_any (λ d. same_message d m) ds ≡ true → is_disputed (contents_of ds) m ≡ false
  undisputed held =
      any_items (is_rival m) ds
      ∙ any_none (is_rival m) ds (λ x among. false_from_ne_true (is_rival m x) (λ e.
      let parts = and_parts (same_identity (identity_of x) (identity_of m)) (not (same_message x m)) e in
      let same = only (drafts_of (identity_of m) ds) x m (is_first x (identity_is (identity_of x) (identity_of m) parts.0) among) (is_first m refl held) in
      false≢true (sym (not-true (same_message x m) parts.1) ∙ ap (λ (y : Draft). same_message y m) same ∙ message_itself m)))

-- an identity that is found passes the tests that it passes
found_passes : (test : Identity → Bool) (i : Identity) (ds : List Draft) → finds i ds ≡ true → test i ≡ true → list_any (λ d. test (identity_of d)) ds ≡ true
found_passes test i ds found passes =
    sym (list_any-map test identity_of ds)
    ∙ list_any-found (λ j k. same_identity k j) (λ j k e. sym (identity_is k j e)) test i (map identity_of ds) (list_any-map (λ j. same_identity j i) identity_of ds ∙ found) passes

module _ (test : Identity → Bool) (ds : List Draft) (once : HasNoRepeat ds) where
  none_disputed : list_any (is_of test) (against_in ds) ≡ false → list_any (is_disputed_of test ds) ds ≡ false
  none_disputed none =
      any_none (is_disputed_of test ds) ds (λ x among.
      elim (test (identity_of x)) as (λ b. test (identity_of x) ≡ b → (b && is_disputed (contents_of ds) x) ≡ false) [
        | true ↦ λ e. undisputed ds x (false_from_ne_true (finds (identity_of x) (against_in ds)) (λ f. false≢true (sym none ∙ found_passes test (identity_of x) (against_in ds) f e))) among
        | false ↦ λ _. refl
      ] refl)

  -- the identities of the messages that are not the first of theirs are those of the disputed messages
  pub against-disputed : list_any (λ d. test (identity_of d)) (against_in ds) ≡ list_any (λ d. test (identity_of d) && is_disputed (contents_of ds) d) ds
  against-disputed =
      elim (list_any (is_of test) (against_in ds)) as (λ b. list_any (is_of test) (against_in ds) ≡ b → b ≡ list_any (is_disputed_of test ds) ds) [
        | true ↦ λ e. sym (against_behind test ds once [] ds refl e)
        | false ↦ λ e. sym (none_disputed e)
      ] refl

-- ---- the index of digests

module _ {S : Type 0} (index : IndexMap ℕ (List (Arc Draft Global)) S) where
  -- an index without keys has no messages
  no_message : (ds : List Draft) → IsIndexBy digest_of nat_eq index ds → index.entries ≡ [] → ds ≡ []
  no_message [] indexed empty = refl
  no_message (d ∷ ds) indexed empty =
      let rest = filter (λ m. nat_eq (digest_of m) (digest_of d)) ds in
      let nothing : drafts_in (bucket nat_eq index (digest_of d)) ≡ [] = rw empty refl in
      let found : drafts_in (bucket nat_eq index (digest_of d)) ≡ d ∷ rest =
      indexed.messages (digest_of d) ∙ ap (λ (b : Bool). cond b (d ∷ rest) rest) (eq-eqb (digest_of d) (digest_of d) refl) in
      cc

  -- and one with a key has some
  some_message : (k : ℕ) (ms : List (Arc Draft Global)) (more : List (ℕ × List (Arc Draft Global)))
      → IsIndexBy digest_of nat_eq index [] → index.entries ≡ (k, ms) ∷ more → ⊥
  some_message k ms more indexed is =
      let found : is_some (get nat_eq index k) ≡ true = rw is (ap (λ (b : Bool). is_some (cond b (Some ms) (lookup (nat_eq k) more))) (eq-eqb k k refl)) in
      let filled = sym (indexed.no_empty k) ∙ found in
      let none = length-map (bucket nat_eq index k) arc_value in
      let empty = ap length (indexed.messages k) in
      grind (arith, filled, none, empty)

  module _ (ds : List Draft) (b : Bool) (once : HasNoRepeat ds) (indexed : IsIndexBy digest_of nat_eq index (against_in ds)) (empty : b ≡ true ↔ index_map_len index ≡ 0) where
    some_against : (es : List (ℕ × List (Arc Draft Global))) → index.entries ≡ es → not b ≡ list_any (λ d. true) (against_in ds)
    some_against [] is = ap not (empty.1 (ap length is)) ∙ ap (list_any (λ d. true)) (sym (no_message (against_in ds) indexed is))
    some_against ((k, ms) ∷ more) is =
        let filled = false_from_ne_true b (λ e. let none = empty.0 e in let some = ap length is in omega arith) in
        ap not filled
        ∙ elim (against_in ds) as (λ xs. against_in ds ≡ xs → true ≡ list_any (λ d. true) xs) [
          | [] ↦ λ none. absurd (some_message k ms more (subst (λ (xs : List Draft). IsIndexBy digest_of nat_eq index xs) none indexed) is)
          | x ∷ xs ↦ λ _. refl
        ] refl

    -- it has a key exactly if a message is disputed
    pub contradictions-is : not b ≡ list_any (is_disputed (contents_of ds)) (set.items (contents_of ds))
    contradictions-is =
        some_against index.entries refl
        ∙ against-disputed (λ i. true) ds once
        ∙ sym (any_items (is_disputed (contents_of ds)) ds)

-- ---- the messages in the lists of the index

-- what passes both tests passes the second
any_second : (q p : Draft → Bool) (ds : List Draft) → list_any (λ d. q d && p d) ds ≡ true → list_any p ds ≡ true
any_second q p ds some =
    let found = Any-from_list_any (λ d. q d && p d) ds some in
    list_any-from_Any p ds (found.0, found.1, found.2, found.3, (and_parts (q found.1) (p found.1) found.4).1)

module _ {S : Type 0} (index : IndexMap ℕ (List (Arc Draft Global)) S) (ds : List Draft) (indexed : IsIndexBy digest_of nat_eq index ds) (unique : IsUnique nat_eq index) (p : Draft → Bool) where
  abbrev is_filed : ℕ × List (Arc Draft Global) → Bool
  is_filed e = list_any p (drafts_in e.1)

  in_bucket : (k : ℕ) → list_any p (drafts_in (bucket nat_eq index k)) ≡ list_any (λ d. nat_eq (digest_of d) k && p d) ds
  in_bucket k = ap (list_any p) (indexed.messages k) ∙ list_any-filter p (λ d. nat_eq (digest_of d) k) ds

  from_entries : list_any is_filed index.entries ≡ true → list_any p ds ≡ true
  from_entries some =
      let found = Any-from_list_any is_filed index.entries some in
      let got = lookup-from_Contains nat_eq_equiv found.1.0 found.1.1 index.entries unique (found.0, found.2, found.3) in
      any_second (λ d. nat_eq (digest_of d) found.1.0) p ds
      (sym (in_bucket found.1.0) ∙ ap (λ (o : Option (List (Arc Draft Global))). list_any p (drafts_in (items_in o))) got ∙ found.4)

  by_key : (k : ℕ) (o : Option (List (Arc Draft Global))) → lookup (nat_eq k) index.entries ≡ o → list_any p (drafts_in (items_in o)) ≡ true → list_any is_filed index.entries ≡ true
  by_key k None is some = absurd (false≢true some)
  by_key k (Some ms) is some =
      let at = Contains-from_lookup (λ x y e. eqb-true x y e) k ms index.entries is in
      list_any-from_Any is_filed index.entries (at.0, (k, ms), at.1, at.2, some)

  to_entries : list_any p ds ≡ true → list_any is_filed index.entries ≡ true
  to_entries some =
      let found = Any-from_list_any p ds some in
      let k = digest_of found.1 in
      by_key k (lookup (nat_eq k) index.entries) refl
      (in_bucket k ∙ list_any-from_Any (λ d. nat_eq (digest_of d) k && p d) ds (found.0, found.1, found.2, found.3, and_from _ _ (eq-eqb k k refl) found.4))

  -- a test is passed in some list exactly if a message passes it
  filed_any : list_any is_filed index.entries ≡ list_any p ds
  filed_any = both_ways _ _ from_entries to_entries

-- ---- contradictions

-- the identities in the lists of an index are those of its messages
identities_any : {S : Type 0} (index : IndexMap ℕ (List (Arc Draft Global)) S) → IsUnique nat_eq index → (ds : List Draft)
    → IsIndexBy digest_of nat_eq index ds → (test : Identity → Bool) → list_any test (identities_filed index.entries) ≡ list_any (λ d. test (identity_of d)) ds
identities_any index unique ds indexed test =
    any_flat_map test (λ e. map identity_of (drafts_in e.1)) index.entries
    ∙ ap (λ (q : ℕ × List (Arc Draft Global) → Bool). list_any q index.entries) (λ i e. list_any-map test identity_of (drafts_in e.1) i)
    ∙ filed_any index ds indexed unique (λ d. test (identity_of d))

-- where an index has the messages that are not the first of their identity, its identities, ascending, are the contradicted ones
pub contradicted-filed : {S : Type 0} (index : IndexMap ℕ (List (Arc Draft Global)) S) → IsUnique nat_eq index → (ds : List Draft) → HasNoRepeat ds
    → IsIndexBy digest_of nat_eq index (against_in ds) → ascending identity_order (identities_filed index.entries) ≡ contradicted_identities (contents_of ds)
unfolding contradicted_identities
contradicted-filed index unique ds once indexed =
    ascending-same identity_total identities_same _ _ (λ q.
    let test = eq_by_cmp identity_order q in
    identities_any index unique (against_in ds) indexed test
    ∙ against-disputed test ds once
    ∙ sym (any_items (is_disputed_of test ds) ds)
    ∙ ap (λ (p : Draft → Bool). list_any p (set.items (contents_of ds))) (λ i d. and_comm (test (identity_of d)) (is_disputed (contents_of ds) d) i)
    ∙ sym (list_any-filter (λ d. test (identity_of d)) (is_disputed (contents_of ds)) (set.items (contents_of ds)))
    ∙ sym (list_any-map test identity_of (filter (is_disputed (contents_of ds)) (set.items (contents_of ds)))))
