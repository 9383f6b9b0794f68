-- What an archive's arrivals and its lines have to do with the set of its messages. Proof plumbing.
use Rattle.std.proofs.Common.{◌≡◌, ℕ, suc, nat_eq, nat_lt, ◌+◌, Bool, true, false, cond, not, ◌||◌, List, [], ◌∷◌, ◌++◌, length, refl, sym, ap, ◌∙◌, filter, take, get_or, ◌<◌, Some, None}
use Rattle.std.specs.FinSet as set
use Rattle.std.specs.Arc.{arc_value}
use Rattle.std.specs.Global.{Global}
use Rattle.std.specs.List.{list_any, slice_get}
use Rattle.std.specs.declared.sync.Arc.{Arc}
use Rattle.std.proofs.Math.Nat.{suc-ne-zero}
use Rattle.std.proofs.lemmas.Bool.{eq-eqb, ne_eqb}
use Rattle.std.proofs.lemmas.Map.Views.{any-filter_same}
use Rattle.std.proofs.lemmas.List.{length-map, map-append}
use Rattle.std.proofs.lemmas.Grind.{take_at_read}
use Rattle.sct_message.specs.declared.draft.Draft.{Draft}
use Rattle.sct_message.specs.declared.keys.Identity.{Identity}
use Rattle.sct_message.specs.Keys.{identity_of}
use Rattle.sct_message.specs.Order.{same_message, same_identity}
use Rattle.sct_message.proofs.Members.{list_any-filter, list_any-map}
use Rattle.sct_message.proofs.SameValues.{identity_itself, message_is}
use Rattle.sct_message.proofs.Tests.{none_kept, or_false}
use Rattle.sct_set.specs.Archive.{added_of, added_where, has_identity}
use Rattle.sct_set.specs.Contents.{Contents, contents_of}
use Rattle.sct_set.specs.Contradictions.{is_disputed}
use Rattle.sct_set.specs.Digest.{digest_of}
use Rattle.sct_set.specs.Drafts.{against_in, drafts_in, drafts_of, drafts_alike, finds}
use Rattle.sct_set.specs.Filing.{is_first_in}
use Rattle.sct_set.proofs.AgainstLemmas.{first_or_against}
use Rattle.sct_set.specs.declared.added.Added.TheVariants as added
use Rattle.sct_set.proofs.ContentsLemmas.{any_items, contains-contents_of, is_rival}

-- ---- a message among those of its digest, and of its identity

same_have_one_digest : (d m : Draft) → same_message d m ≡ true → nat_eq (digest_of d) (digest_of m) ≡ true
same_have_one_digest d m e = ap (λ (x : Draft). nat_eq (digest_of x) (digest_of m)) (message_is d m e) ∙ eq-eqb (digest_of m) (digest_of m) refl

same_have_one_identity : (d m : Draft) → same_message d m ≡ true → same_identity (identity_of d) (identity_of m) ≡ true
same_have_one_identity d m e = ap (λ (x : Draft). same_identity (identity_of x) (identity_of m)) (message_is d m e) ∙ identity_itself (identity_of m)

-- a message is not held where no message of its identity is
pub held-not : (ms : List (Arc Draft Global)) (ds : List Draft) (m : Draft) → drafts_in ms ≡ drafts_of (identity_of m) ds → None ≡ slice_get ms 0
    → false ≡ set.contains (contents_of ds) m
held-not [] ds m all f =
    ap (list_any (λ d. same_message d m)) all
    ∙ any-filter_same (λ d. same_message d m) (λ d. same_identity (identity_of d) (identity_of m)) true (λ d. same_have_one_identity d m) ds
    ∙ sym (contains-contents_of ds m)
held-not (x ∷ ms) ds m all f = let h : None ≡ Some x = f in cc

-- a message is held where it is the first of its identity, or among those that came against another
pub held-is : (ms : List (Arc Draft Global)) (ds : List Draft) (m : Draft) (x : Arc Draft Global) → drafts_in ms ≡ drafts_of (identity_of m) ds → Some x ≡ slice_get ms 0
    → (same_message (arc_value x) m || list_any (λ d. same_message d m) (against_in ds)) ≡ set.contains (contents_of ds) m
held-is [] ds m x all f = cc
held-is (y ∷ ms) ds m x all f =
    let h : Some x ≡ Some y = f in
    let k : x ≡ y = cc in
    ap (λ (a : Arc Draft Global). same_message (arc_value a) m || list_any (λ d. same_message d m) (against_in ds)) k
    ∙ ap (λ (b : Bool). b || list_any (λ d. same_message d m) (against_in ds)) (sym (or_false (same_message (arc_value y) m)))
    ∙ ap (λ (xs : List Draft). list_any (λ d. same_message d m) (take 1 xs) || list_any (λ d. same_message d m) (against_in ds)) all
    ∙ first_or_against m ds
    ∙ sym (contains-contents_of ds m)

-- among those that came against another it is where it is among those of its digest
pub against-is : (later : List (Arc Draft Global)) (ds : List Draft) (m : Draft) → drafts_in later ≡ drafts_alike (digest_of m) ds
    → list_any (λ held. same_message (arc_value held) m) later ≡ list_any (λ d. same_message d m) ds
against-is later ds m e =
    sym (list_any-map (λ d. same_message d m) arc_value later)
    ∙ ap (list_any (λ d. same_message d m)) e
    ∙ any-filter_same (λ d. same_message d m) (λ d. nat_eq (digest_of d) (digest_of m)) true (λ d. same_have_one_digest d m) ds

-- a message that is not held is not among those that came against another
pub held-behind : (ds : List Draft) (m : Draft) (b : Bool) → is_first_in m (drafts_of (identity_of m) ds) ≡ false → list_any (λ d. same_message d m) (against_in ds) ≡ b
    → set.contains (contents_of ds) m ≡ b
held-behind ds m b other among =
    contains-contents_of ds m
    ∙ sym (first_or_against m ds)
    ∙ ap (λ (c : Bool). c || list_any (λ d. same_message d m) (against_in ds)) other
    ∙ among

-- a message that is the first of its identity is held
pub held-first : (ds : List Draft) (m : Draft) → is_first_in m (drafts_of (identity_of m) ds) ≡ true → set.contains (contents_of ds) m ≡ true
held-first ds m first =
    contains-contents_of ds m
    ∙ sym (first_or_against m ds)
    ∙ ap (λ (c : Bool). c || list_any (λ d. same_message d m) (against_in ds)) first

-- a message of an identity that no message has is not held
pub held-none : (ds : List Draft) (m : Draft) → finds (identity_of m) ds ≡ false → set.contains (contents_of ds) m ≡ false
held-none ds m none =
    contains-contents_of ds m
    ∙ sym (any-filter_same (λ d. same_message d m) (λ d. same_identity (identity_of d) (identity_of m)) true (λ d. same_have_one_identity d m) ds)
    ∙ ap (list_any (λ d. same_message d m)) (none_kept (λ d. same_identity (identity_of d) (identity_of m)) ds none)

one_kept : (p : Draft → Bool) (ds : List Draft) → not (nat_eq (length (filter p ds)) 0) ≡ list_any p ds
one_kept p [] = refl
one_kept p (d ∷ ds) = elim (p d) as (λ b. not (nat_eq (length (cond b (d ∷ filter p ds) (filter p ds))) 0) ≡ (b || list_any p ds)) [ true ↦ ap not (ne_eqb (suc (length (filter p ds))) 0 (suc-ne-zero (length (filter p ds)))) | false ↦ one_kept p ds ]

-- the list of an identity is not empty where one of the messages has it
pub found-is : (ms : List (Arc Draft Global)) (ds : List Draft) (i : Identity) → drafts_in ms ≡ drafts_of i ds → not (nat_eq (length ms) 0) ≡ finds i ds
found-is ms ds i e =
    ap (λ (n : ℕ). not (nat_eq n 0)) (sym (length-map ms arc_value))
    ∙ ap (λ (xs : List Draft). not (nat_eq (length xs) 0)) e
    ∙ one_kept (λ d. same_identity (identity_of d) i) ds

-- a list that is not empty has one of the identity
pub found-some : (ms : List (Arc Draft Global)) (ds : List Draft) (i : Identity) → drafts_in ms ≡ drafts_of i ds → nat_lt 0 (length ms) ≡ true → finds i ds ≡ true
found-some [] ds i e some = cc
found-some (m ∷ ms) ds i e some = sym (found-is (m ∷ ms) ds i e) ∙ ap not (ne_eqb (suc (length ms)) 0 (suc-ne-zero (length ms)))

-- ---- how a message comes

module _ (s : Contents) (m : Draft) where
  -- what is answered to a message that is held
  pub added-held : set.contains s m ≡ true → added.Repeat ≡ added_of s m
  unfolding added_of
  added-held held = ap (λ (b : Bool). cond b added.Repeat (added_where (has_identity s (identity_of m)))) (sym held)

  -- and to one that is not
  pub added-absent : (b : Bool) → set.contains s m ≡ false → b ≡ has_identity s (identity_of m) → added_where b ≡ added_of s m
  unfolding added_of
  added-absent b absent has = ap added_where has ∙ ap (λ (b : Bool). cond b added.Repeat (added_where (has_identity s (identity_of m)))) (sym absent)

-- a message is disputed where those of its identity are not all the same as it
pub disputed-is : (ms : List (Arc Draft Global)) (ds : List Draft) (m : Draft) → drafts_in ms ≡ drafts_of (identity_of m) ds
    → list_any (λ held. not (same_message (arc_value held) m)) ms ≡ is_disputed (contents_of ds) m
disputed-is ms ds m e =
    sym (list_any-map (λ d. not (same_message d m)) arc_value ms)
    ∙ ap (list_any (λ d. not (same_message d m))) e
    ∙ list_any-filter (λ d. not (same_message d m)) (λ d. same_identity (identity_of d) (identity_of m)) ds
    ∙ sym (any_items (is_rival m) ds)

-- ---- lists of shared messages

-- the messages of a list up to an item, the item included
pub drafts_in-more : (ms : List (Arc Draft Global)) (i : ℕ) (m : Arc Draft Global) → i < length ms → m ≡ get_or ms i m
    → drafts_in (take (i + 1) ms) ≡ drafts_in (take i ms) ++ arc_value m ∷ []
drafts_in-more ms i m below is =
    ap drafts_in ((take_at_read ms i m below).1 ∙ ap (λ x. take i ms ++ x ∷ []) (sym is)) ∙ map-append arc_value (take i ms) (m ∷ [])
