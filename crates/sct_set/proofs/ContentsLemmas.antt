-- Lists of messages and the set of them. Proof plumbing; it serves cases, the archive and the view alike.
use Rattle.std.proofs.Common.{◌≡◌, ℕ, ◌+◌, Bool, true, false, cond, not, ◌&&◌, ◌||◌, List, [], ◌∷◌, ◌++◌, ◌≤◌, length, take, refl, arith, sym, ap, ◌∙◌, length-append}
use Rattle.std.specs.FinSet as set
use Rattle.std.proofs.lemmas.List.{take-append-le}
use Rattle.std.specs.FinSet.{contains-from_list, contains-items, contains-insert, contains-union, from_list_push, len-insert, len-empty, contains-empty, same_set}
use Rattle.std.specs.Cmp.{eq_by_cmp_equiv}
use Rattle.std.specs.List.{list_any}
use Rattle.std.specs.Ordering.{eq_by_cmp}
use Rattle.sct_message.specs.declared.draft.Draft.{Draft}
use Rattle.sct_message.specs.OrderLaws.{message_total, message_same}
use Rattle.sct_message.specs.Keys.{identity_of}
use Rattle.sct_message.specs.Order.{message_order, same_identity, same_message}
use Rattle.sct_message.proofs.Members.{same_any}
use Rattle.sct_message.proofs.SameValues.{message_is}
pub use Rattle.sct_message.proofs.SameValues.{message_is as same_is, message_itself as same_itself}
use Rattle.sct_message.proofs.Tests.{or_false, or_implied, or_later}
use Rattle.sct_set.specs.Contents.{Contents, HasNoRepeat, HaveSameMessages, contents_of}
use Rattle.sct_set.specs.Filing.{with_new}

-- the other message differs from the first and has its identity
abbrev pub is_rival : Draft → Draft → Bool
is_rival draft other = same_identity (identity_of other) (identity_of draft) && not (same_message other draft)

-- ---- messages that are the same

-- the test of `==`, from the other side
pub same_message-is : (d m : Draft) → same_message d m ≡ eq_by_cmp message_order m d
same_message-is d m = (eq_by_cmp_equiv message_total).symm d m

-- ---- the set of a list

-- a test that a message of the set passes is one that a message of the list passes
pub any_items : (p : Draft → Bool) (ds : List Draft) → list_any p (set.items (contents_of ds)) ≡ list_any p ds
any_items p ds =
    same_any message_total message_same p _ ds (λ q. sym (contains-items (contents_of ds) q) ∙ contains-from_list message_total ds q)

pub contains-contents_of : (ds : List Draft) (m : Draft) → set.contains (contents_of ds) m ≡ list_any (λ d. same_message d m) ds
contains-contents_of ds m = contains-from_list message_total ds m ∙ ap (λ (p : Draft → Bool). list_any p ds) (λ i d. sym (same_message-is d m) i)

-- sets that hold the same messages are one
pub same_contents : (a b : Contents) → HaveSameMessages a b → a ≡ b
same_contents a b same = same_set message_total message_same a b same

-- ---- a message more

-- to add what is held changes nothing
pub insert-held : (s : Contents) (m : Draft) → set.contains s m ≡ true → set.insert s m ≡ s
insert-held s m held =
    same_set message_total message_same _ _ (λ q.
    contains-insert message_total s m q
    ∙ or_implied _ _ (λ e. ap (set.contains s) (message_is q m e) ∙ held))

pub contents-push : (ds : List Draft) (m : Draft) → contents_of (ds ++ m ∷ []) ≡ set.insert (contents_of ds) m
contents-push ds m = from_list_push message_total message_same ds m

pub HasNoRepeat-none : HasNoRepeat []
HasNoRepeat-none = len-empty message_order

-- a message that is not held can be appended
pub HasNoRepeat-push : (ds : List Draft) (m : Draft) → HasNoRepeat ds → set.contains (contents_of ds) m ≡ false → HasNoRepeat (ds ++ m ∷ [])
HasNoRepeat-push ds m none absent =
    ap set.len (contents-push ds m)
    ∙ len-insert message_total (contents_of ds) m
    ∙ ap (λ (b : Bool). cond b (set.len (contents_of ds)) (set.len (contents_of ds) + 1)) absent
    ∙ ap (λ (n : ℕ). n + 1) none
    ∙ sym (length-append ds (m ∷ []))

-- ---- a message more, unless the list has it

module _ (ds : List Draft) (m : Draft) where
  by_new : (P : List Draft → Type 0) → (set.contains (contents_of ds) m ≡ true → P ds) → (set.contains (contents_of ds) m ≡ false → P (ds ++ m ∷ [])) → P (with_new ds m)
  by_new P held new =
      elim (set.contains (contents_of ds) m) as (λ b. set.contains (contents_of ds) m ≡ b → P (cond b ds (ds ++ m ∷ []))) [ true ↦ held | false ↦ new ] refl

  pub contents-with_new : contents_of (with_new ds m) ≡ set.insert (contents_of ds) m
  contents-with_new =
      by_new (λ es. contents_of es ≡ set.insert (contents_of ds) m)
      (λ held. sym (insert-held (contents_of ds) m held))
      (λ _. contents-push ds m)

  pub HasNoRepeat-with_new : HasNoRepeat ds → HasNoRepeat (with_new ds m)
  HasNoRepeat-with_new none = by_new HasNoRepeat (λ _. none) (λ absent. HasNoRepeat-push ds m none absent)

  -- the messages that were there stay in their places
  pub front-with_new : (n : ℕ) → n ≤ length ds → take n (with_new ds m) ≡ take n ds
  front-with_new n few = by_new (λ es. take n es ≡ take n ds) (λ _. refl) (λ _. take-append-le n ds (m ∷ []) few)

  pub length-with_new : length ds ≤ length (with_new ds m)
  length-with_new = by_new (λ es. length ds ≤ length es) (λ _. omega arith) (λ _. let e = length-append ds (m ∷ []) in omega arith)

  pub with_new-held : set.contains (contents_of ds) m ≡ true → ds ≡ with_new ds m
  with_new-held held = ap (λ (b : Bool). cond b ds (ds ++ m ∷ [])) (sym held)

  pub with_new-absent : set.contains (contents_of ds) m ≡ false → ds ++ m ∷ [] ≡ with_new ds m
  with_new-absent absent = ap (λ (b : Bool). cond b ds (ds ++ m ∷ [])) (sym absent)

-- ---- many messages more

pub union-none : (s : Contents) → set.union s (contents_of []) ≡ s
union-none s =
    same_set message_total message_same _ _ (λ q.
    contains-union message_total s set.empty q ∙ ap (λ (b : Bool). set.contains s q || b) (contains-empty message_order q) ∙ or_false (set.contains s q))

-- what is added to nothing is the set
pub union-of_none : (s : Contents) → set.union (contents_of []) s ≡ s
union-of_none s =
    same_set message_total message_same _ _ (λ q.
    contains-union message_total set.empty s q ∙ ap (λ (b : Bool). b || set.contains s q) (contains-empty message_order q))

pub union-push : (s : Contents) (ds : List Draft) (m : Draft) → set.union s (contents_of (ds ++ m ∷ [])) ≡ set.insert (set.union s (contents_of ds)) m
union-push s ds m =
    ap (set.union s) (contents-push ds m)
    ∙ same_set message_total message_same _ _ (λ q.
    contains-union message_total s (set.insert (contents_of ds) m) q
    ∙ ap (λ (b : Bool). set.contains s q || b) (contains-insert message_total (contents_of ds) m q)
    ∙ or_later (set.contains s q) (eq_by_cmp message_order q m) (set.contains (contents_of ds) q)
    ∙ ap (λ (b : Bool). eq_by_cmp message_order q m || b) (sym (contains-union message_total s (contents_of ds) q))
    ∙ sym (contains-insert message_total (set.union s (contents_of ds)) m q))
