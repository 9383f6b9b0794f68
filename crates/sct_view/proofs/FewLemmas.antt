-- The transfers that a batch touches, found message by message, and that they are few. Proof plumbing.
use Rattle.std.proofs.Common.{◌≡◌, ℕ, ◌*◌, ◌≤◌, Bool, true, false, not, ◌&&◌, ◌||◌, List, [], ◌∷◌, ◌++◌, length, refl, sym, ap, ◌∙◌, filter, arith, length-append}
use Rattle.std.proofs.Math.Nat.{mul_comm, mul-le-mul_right}
use Rattle.std.specs.Arc.{arc_value}
use Rattle.std.specs.FinSet as set
use Rattle.std.specs.FinSet.{contains-from_list, contains-items, len-empty, members}
use Rattle.std.specs.Global.{Global}
use Rattle.std.specs.Cmp.{eq_by_cmp_equiv}
use Rattle.std.specs.List.{flat_map, list_any}
use Rattle.std.specs.declared.sync.Arc.{Arc}
use Rattle.std.proofs.lemmas.Bool.{and_from, and_parts, false≢true, not-true, not_from_false, or_parts, true_from_ne_false}
use Rattle.std.proofs.lemmas.List.{length-map}
use Rattle.std.proofs.lemmas.List.Concat.{length-flat_map}
use Rattle.std.proofs.lemmas.List.Folds.{list_any-append, list_any_none}
use Rattle.std.proofs.lemmas.List.Kept.{IsStrictlySortedBy-filter}
use Rattle.std.proofs.lemmas.List.Sums.{sum_by-le}
use Rattle.std.proofs.lemmas.Map.Views.{All-from_any}
use Rattle.sct_message.specs.Ascending.{ascending}
use Rattle.sct_message.specs.Keys.{identity_of, transfers_of}
use Rattle.sct_message.specs.Order.{message_order, same_identity, same_message, same_transfer, transfer_order}
use Rattle.sct_message.specs.OrderLaws.{identity_total, identities_same, message_total, message_same, transfer_total, transfers_same}
use Rattle.sct_message.specs.Sets.{MessageSet, in_order, is_contradicted, messages_in}
use Rattle.sct_message.specs.declared.draft.Draft.{Draft}
use Rattle.sct_message.specs.declared.keys.Identity.{Identity}
use Rattle.sct_message.specs.declared.keys.TransferKey.{TransferKey}
use Rattle.sct_message.proofs.AscendingLemmas.{any_ascending, ascending-same, ascending_rises, members_ascending}
use Rattle.sct_message.proofs.Members.{list_any-filter, tie_is, ties_itself}
use Rattle.sct_set.specs.Contents.{contents_of}
use Rattle.sct_set.proofs.ContentsLemmas.{any_items, same_contents}
use Rattle.sct_view.specs.Changes.{newly_contradicted_by, touched_by_one}
use Rattle.sct_view.specs.Touched.{AreOnAtMost, BatchesTouchFew, fresh_of, is_newly_contradicted, keys_in, touched_by}
use Rattle.sct_view.proofs.EvaluationLemmas.{among_picked, contradicted_in_union}
use Rattle.sct_message.proofs.Tests.{any_flat_map}
use Rattle.sct_view.proofs.SetKeys.{apart_from_rises, shorter}
use Rattle.sct_view.proofs.SumLemmas.{AreApart}
use Rattle.sct_view.proofs.TouchedLemmas.{found_held}

-- ---- tests on lists

-- one test or the other
any_or : {X : Type 0} (p q : X → Bool) (xs : List X) → list_any (λ x. p x || q x) xs ≡ (list_any p xs || list_any q xs)
any_or p q [] = refl
any_or p q (x ∷ xs) = grind (arith, any_or p q xs)

any_and : {X : Type 0} (b : Bool) (p : X → Bool) (xs : List X) → list_any (λ x. p x && b) xs ≡ (list_any p xs && b)
any_and b p [] = refl
any_and b p (x ∷ xs) = grind (arith, any_and b p xs)

-- two lists can change places
any_swap : {X Y : Type 0} (r : X → Y → Bool) (xs : List X) (ys : List Y)
    → list_any (λ x. list_any (r x) ys) xs ≡ list_any (λ y. list_any (λ x. r x y) xs) ys
any_swap r [] ys = sym (list_any_none (λ y. false) ys (λ _ _ _. refl))
any_swap r (x ∷ xs) ys = grind (arith, any_swap r xs ys, any_or (r x) (λ y. list_any (λ x. r x y) xs) ys)

-- tests that answer alike of the members of a list
any_alike : (p q : Draft → Bool) (ms : List Draft) → ((m : Draft) → list_any (same_message m) ms ≡ true → p m ≡ q m)
    → list_any p ms ≡ list_any q ms
any_alike p q [] same = refl
any_alike p q (m ∷ ms) same =
    let first = ties_itself message_total message_same m in
    let rest = any_alike p q ms (λ n among. same n (grind arith)) in
    grind (arith, same m, first, rest)

-- ---- what the fresh messages touch, one by one

module _ (s : MessageSet) (ns : List Draft) (apart : (m : Draft) → set.contains (contents_of ns) m ≡ true → set.contains s m ≡ false) where
  -- the fresh messages contradict a message that is held where one of them has its identity
  by_identity : (m : Draft) → set.contains s m ≡ true
      → is_contradicted (contents_of ns) m ≡ list_any (λ n. same_identity (identity_of m) (identity_of n)) ns
  by_identity m held =
      any_items (λ n. same_identity (identity_of n) (identity_of m) && not (same_message n m)) ns
      ∙ any_alike (λ n. same_identity (identity_of n) (identity_of m) && not (same_message n m)) (λ n. same_identity (identity_of m) (identity_of n)) ns
      (λ n among.
      let same = λ (e : same_message n m ≡ true). ap (set.contains s) (tie_is message_total message_same n m e) in
      grind (arith, held, same, apart n (contains-from_list message_total ns n ∙ among), (eq_by_cmp_equiv identity_total).symm (identity_of m) (identity_of n)))

  newly-is : (m : Draft) → set.contains s m ≡ true
      → is_newly_contradicted s (contents_of ns) m ≡ (list_any (λ n. same_identity (identity_of m) (identity_of n)) ns && not (is_contradicted s m))
  newly-is m held = grind (arith, contradicted_in_union s (contents_of ns) m, by_identity m held)

  module _ (q : TransferKey) where
    abbrev at : Draft → Bool
    at m = list_any (same_transfer q) (transfers_of m)

    -- a fresh message meets one that is held: of its identity, and not yet contradicted
    abbrev meets : Draft → Draft → Bool
    meets n m = same_identity (identity_of m) (identity_of n) && not (is_contradicted s m)

    met_at : (n : Draft) → list_any (same_transfer q) (flat_map transfers_of (newly_contradicted_by s n)) ≡ list_any (λ m. meets n m && at m) (set.items s)
    met_at n =
        any_flat_map (same_transfer q) transfers_of (newly_contradicted_by s n)
        ∙ list_any-filter (λ m. at m) (λ m. meets n m) (in_order s)
        ∙ any_ascending message_total message_same (λ m. meets n m && at m) (set.items s)

    one_of_them : (m : Draft) → list_any (same_message m) (set.items s) ≡ true
        → list_any (λ n. meets n m && at m) ns ≡ (is_newly_contradicted s (contents_of ns) m && at m)
    one_of_them m among =
        grind (arith, any_and (at m) (λ n. meets n m) ns, any_and (not (is_contradicted s m)) (λ n. same_identity (identity_of m) (identity_of n)) ns, newly-is m (contains-items s m ∙ among))

    found_one_by_one : list_any (same_transfer q) (flat_map (touched_by_one s) ns)
        ≡ list_any (same_transfer q) (flat_map transfers_of (set.items (contents_of ns)) ++ flat_map transfers_of (filter (is_newly_contradicted s (contents_of ns)) (set.items s)))
    found_one_by_one =
        let fresh = set.items (contents_of ns) in
        let newly = filter (is_newly_contradicted s (contents_of ns)) (set.items s) in
        any_flat_map (same_transfer q) (touched_by_one s) ns
        ∙ (λ i. list_any (λ n. (list_any-append (same_transfer q) (transfers_of n) (flat_map transfers_of (newly_contradicted_by s n)) ∙ ap (λ b. at n || b) (met_at n)) i) ns)
        ∙ any_or (λ n. at n) (λ n. list_any (λ m. meets n m && at m) (set.items s)) ns
        ∙ ap (λ b. list_any (λ n. at n) ns || b)
        (any_swap (λ n m. meets n m && at m) ns (set.items s)
        ∙ any_alike (λ m. list_any (λ n. meets n m && at m) ns) (λ m. is_newly_contradicted s (contents_of ns) m && at m) (set.items s) one_of_them)
        ∙ grind (arith, list_any-append (same_transfer q), any_flat_map (same_transfer q) transfers_of, any_items (λ n. at n) ns, list_any-filter (λ m. at m) (is_newly_contradicted s (contents_of ns)) (set.items s))

  -- the transfers touched are those that the fresh messages touch, one by one
  touched_list : ascending transfer_order (flat_map (touched_by_one s) ns) ≡ touched_by s (contents_of ns)
  unfolding touched_by
  touched_list = ascending-same transfer_total transfers_same _ _ found_one_by_one

-- where the list has the fresh messages
pub touched_here : (s f : MessageSet) (ns : List Draft) → contents_of ns ≡ f → ((m : Draft) → set.contains f m ≡ true → set.contains s m ≡ false)
    → ascending transfer_order (flat_map (touched_by_one s) ns) ≡ touched_by s f
touched_here s f ns is apart =
    touched_list s ns (λ m h. apart m (ap (λ (t : MessageSet). set.contains t m) (sym is) ∙ h)) ∙ ap (touched_by s) is

-- ---- few each

rises : (s : MessageSet) (p : Draft → Bool) → AreApart same_message (filter p (in_order s))
rises s p = apart_from_rises message_order _ (IsStrictlySortedBy-filter message_order p _ (ascending_rises message_total message_same (set.items s)))

pub in_order_apart : (s : MessageSet) → AreApart same_message (in_order s)
in_order_apart s = apart_from_rises message_order (in_order s) (ascending_rises message_total message_same (set.items s))

pub held_where : (s : MessageSet) (m : Draft) → list_any (same_message m) (in_order s) ≡ true → set.contains s m ≡ true
held_where s m among = contains-items s m ∙ sym (members_ascending message_total message_same (set.items s) m) ∙ among

-- a message of the set that passes the test
picked_where : (s : MessageSet) (p : Draft → Bool) (m : Draft) → list_any (same_message m) (filter p (in_order s)) ≡ true
    → (p m ≡ true) × (set.contains s m ≡ true)
picked_where s p m among =
    let parts = and_parts _ _ (sym (among_picked p m (in_order s)) ∙ among) in
    (parts.0, held_where s m parts.1)

-- of messages that stand once each there is at most one, where all are the same
at_most_one : (ms : List Draft) → AreApart same_message ms
    → ((m n : Draft) → list_any (same_message m) ms ≡ true → list_any (same_message n) ms ≡ true → n ≡ m) → length ms ≤ 1
at_most_one [] apart sole = omega arith
at_most_one (m ∷ []) apart sole = omega arith
at_most_one (m ∷ (n ∷ ms)) apart sole =
    let itself = ties_itself message_total message_same in
    let is : n ≡ m = sole m n (grind (arith, itself m)) (grind (arith, itself n)) in
    absurd (false≢true (sym (or_parts _ _ apart.0).0 ∙ ap (same_message m) is ∙ itself m))

-- two messages of one identity contradict each other, so that one of them that is not contradicted is the only one
only_one : (s : MessageSet) (i : Identity) (m n : Draft) → set.contains s n ≡ true
    → (same_identity (identity_of m) i && not (is_contradicted s m)) ≡ true
    → (same_identity (identity_of n) i && not (is_contradicted s n)) ≡ true → n ≡ m
only_one s i m n held p q =
    let rival = λ (other : Draft). same_identity (identity_of other) (identity_of m) && not (same_message other m) in
    let first = and_parts _ _ p in
    let is = tie_is identity_total identities_same in
    let same = ap (λ (j : Identity). same_identity j (identity_of m)) (is _ _ (and_parts _ _ q).0 ∙ sym (is _ _ first.0)) ∙ ties_itself identity_total identities_same (identity_of m) in
    tie_is message_total message_same n m (true_from_ne_false _ (λ e.
    false≢true (sym (not-true _ first.1) ∙ found_held s rival n held (and_from _ _ same (not_from_false _ e)))))

-- a fresh message contradicts at most one that is held
one_at_most : (s : MessageSet) (n : Draft) → length (newly_contradicted_by s n) ≤ 1
one_at_most s n =
    let test = λ (m : Draft). same_identity (identity_of m) (identity_of n) && not (is_contradicted s m) in
    at_most_one (newly_contradicted_by s n) (rises s test)
    (λ m k a b. let picked = picked_where s test k b in only_one s (identity_of n) m k picked.1 (picked_where s test m a).0 picked.0)

-- a list of lists, each no longer than so many, for some messages
no_longer : (most : ℕ) (f : Draft → List TransferKey) (ms : List Draft) → ((m : Draft) → list_any (same_message m) ms ≡ true → length (f m) ≤ most)
    → length (flat_map f ms) ≤ length ms * most
no_longer most f ms each =
    omega (arith, length-flat_map f ms, sum_by-le (λ m. length (f m)) most ms (All-from_any (eq_by_cmp_equiv message_total) (λ m. length (f m) ≤ most) ms each))

-- what one fresh message touches, each transfer of a message once
abbrev once_by_one : MessageSet → Draft → List TransferKey
once_by_one s n = keys_in n ++ flat_map keys_in (newly_contradicted_by s n)

touched_once : (s : MessageSet) (q : TransferKey) (n : Draft) → list_any (same_transfer q) (touched_by_one s n) ≡ list_any (same_transfer q) (once_by_one s n)
touched_once s q n =
    let newly = newly_contradicted_by s n in
    let once = λ (m : Draft). sym (any_ascending transfer_total transfers_same (same_transfer q) (transfers_of m)) in
    list_any-append (same_transfer q) (transfers_of n) (flat_map transfers_of newly)
    ∙ (λ i. once n i || (any_flat_map (same_transfer q) transfers_of newly ∙ (λ j. list_any (λ m. once m j) newly) ∙ sym (any_flat_map (same_transfer q) keys_in newly)) i)
    ∙ sym (list_any-append (same_transfer q) (keys_in n) (flat_map keys_in newly))

few_of_one : (most : ℕ) (s : MessageSet) (n : Draft) → length (keys_in n) ≤ most → AreOnAtMost most s → length (once_by_one s n) ≤ 2 * most
few_of_one most s n own held =
    let newly = newly_contradicted_by s n in
    omega (arith, length-append (keys_in n) (flat_map keys_in newly), no_longer most keys_in newly (λ m among. held m (picked_where s _ m among).1), mul-le-mul_right most (one_at_most s n))

-- ---- as many messages as a set has

length_is : (ds : List Draft) → AreApart same_message ds → set.len (contents_of ds) ≡ length ds
length_is [] apart = len-empty message_order
length_is (d ∷ ds) apart = grind (arith, members, message_total, apart.0, length_is ds apart.1)

-- the messages of a set in order are its messages
pub contents_in_order : (s : MessageSet) → contents_of (in_order s) ≡ s
contents_in_order s = same_contents _ _ (λ m.
    grind (arith, members, message_total, members_ascending message_total message_same (set.items s) m, contains-items s m))

pub length_in_order : (s : MessageSet) → length (in_order s) ≡ set.len s
length_in_order s = sym (length_is (in_order s) (in_order_apart s)) ∙ ap (λ (t : MessageSet). set.len t) (contents_in_order s)

-- ---- a batch

-- a fresh message is of the batch, and not held
fresh_parts : (held batch : MessageSet) (m : Draft) → set.contains (fresh_of held batch) m ≡ true → (set.contains batch m ≡ true) × (set.contains held m ≡ false)
fresh_parts held batch m h = grind (arith, members, message_total)

pub fresh_apart : (held batch : MessageSet) (m : Draft) → set.contains (fresh_of held batch) m ≡ true → set.contains held m ≡ false
fresh_apart held batch m h = (fresh_parts held batch m h).1

-- fresh messages touch few transfers
few_touched : (most : ℕ) (s f : MessageSet) → ((m : Draft) → set.contains f m ≡ true → set.contains s m ≡ false)
    → AreOnAtMost most s → AreOnAtMost most f → length (touched_by s f) ≤ 2 * most * set.len f
few_touched most s f apart held fresh =
    let ns = in_order f in
    let once = flat_map (once_by_one s) ns in
    let is : touched_by s f ≡ ascending transfer_order once =
    sym (touched_here s f ns (contents_in_order f) apart)
    ∙ ascending-same transfer_total transfers_same (flat_map (touched_by_one s) ns) once (λ q.
    any_flat_map (same_transfer q) (touched_by_one s) ns ∙ (λ i. list_any (λ n. touched_once s q n i) ns) ∙ sym (any_flat_map (same_transfer q) (once_by_one s) ns)) in
    let each = no_longer (2 * most) (once_by_one s) ns (λ n among. few_of_one most s n (fresh n (held_where f n among)) held) in
    let all : length ns * (2 * most) ≡ 2 * most * set.len f = ap (λ n. n * (2 * most)) (length_in_order f) ∙ mul_comm (set.len f) (2 * most) in
    omega (arith, ap length is, shorter transfer_total once, each, all)

pub batches_touch_few : BatchesTouchFew
batches_touch_few most held batch before later =
    few_touched most held (fresh_of held batch) (fresh_apart held batch) before (λ m h. later m (fresh_parts held batch m h).0)

-- transfers that are found message by message, few for each, are few when they are sorted and told apart
pub few_found : (f : MessageSet) (ms : List (Arc Draft Global)) (found : List TransferKey) → contents_of (messages_in ms) ≡ f
    → set.len (contents_of (messages_in ms)) ≡ length (messages_in ms) → length found ≤ 200 * length ms
    → length (ascending transfer_order found) ≤ 200 * set.len f
few_found f ms found is once few =
    omega (arith, shorter transfer_total found, ap (λ (t : MessageSet). set.len t) is, once, length-map ms arc_value)
