-- The laws of archives. Proof plumbing.
use Rattle.std.proofs.Common.{◌≡◌, Bool, true, false, not, ◌&&◌, ◌||◌, List, [], ◌∷◌, map, refl, sym, ap, ◌∙◌, filter, ◌≢◌}
use Rattle.std.specs.FinSet as set
use Rattle.std.specs.FinSet.{contains-union, contains-items, contains-insert}
use Rattle.std.specs.Cmp.{eq_by_cmp_equiv}
use Rattle.std.specs.List.{list_any}
use Rattle.std.specs.Ordering.{eq_by_cmp}
use Rattle.std.proofs.lemmas.Bool.{and_from, and_parts, false≢true, or_right}
use Rattle.std.proofs.lemmas.Map.Views.{Contains-from_any, list_any-from_Contains}
use Rattle.sct_message.specs.declared.draft.Draft.{Draft}
use Rattle.sct_message.specs.declared.keys.Identity.{Identity}
use Rattle.sct_message.specs.OrderLaws.{message_total, message_same, identity_total, identities_same}
use Rattle.sct_message.specs.Keys.{identity_of}
use Rattle.sct_message.specs.Order.{identity_order, message_order, same_message, same_identity}
use Rattle.sct_set.specs.declared.added.Added.TheVariants as added
use Rattle.sct_set.specs.Archive.{added_where, archive_text_of, has_identity}
use Rattle.sct_set.specs.Contradictions.{IsContradicted, contradicted_identities, is_disputed}
use Rattle.sct_set.specs.Contents.{Contents}
use Rattle.sct_set.specs.Laws.{IsAssociative, IsCommutative, IsIdempotent, HoldsBothSides, EqualSetsAnswerAlike, TellsContradictions, TellsInOrder, AnswersAgainst}
use Rattle.sct_message.proofs.AscendingLemmas.{members_ascending, ascending_rises}
use Rattle.sct_set.proofs.ContentsLemmas.{same_contents, is_rival}
use Rattle.sct_set.proofs.ArchiveLemmas.{added-absent}
use Rattle.sct_message.proofs.SameValues.{identity_is, identity_itself, message_is, message_itself}
use Rattle.sct_message.proofs.Tests.{or_assoc, or_comm, or_itself}
use Rattle.sct_message.proofs.Members.{list_any-found, list_any-filter, list_any-map, tie_is, ties_itself}

-- ---- merging

pub both_sides : HoldsBothSides
both_sides a b d = contains-union message_total a b d

pub associative : IsAssociative
associative a b c =
    same_contents _ _ (λ d.
    both_sides (set.union a b) c d ∙ ap (λ (t : Bool). t || set.contains c d) (both_sides a b d)
    ∙ or_assoc (set.contains a d) (set.contains b d) (set.contains c d)
    ∙ sym (both_sides a (set.union b c) d ∙ ap (λ (t : Bool). set.contains a d || t) (both_sides b c d)))

pub commutative : IsCommutative
commutative a b = same_contents _ _ (λ d. both_sides a b d ∙ or_comm (set.contains a d) (set.contains b d) ∙ sym (both_sides b a d))

pub idempotent : IsIdempotent
idempotent a = same_contents _ _ (λ d. both_sides a a d ∙ or_itself (set.contains a d))

pub answer_alike : EqualSetsAnswerAlike
answer_alike a b same =
    let e = same_contents a b same in record { texts = ap archive_text_of e; contradictions = ap contradicted_identities e }

-- ---- contradictions

-- a member that passes the test
abbrev Witness : (Draft → Bool) → List Draft → Type 0
Witness p ds = (d : Draft) × (p d ≡ true) × (list_any (eq_by_cmp message_order d) ds ≡ true)

witness : (p : Draft → Bool) (ds : List Draft) → list_any p ds ≡ true → Witness p ds
witness p [] e = absurd (false≢true e)
witness p (d ∷ ds) e =
    elim (p d) as (λ b. p d ≡ b → (b || list_any p ds) ≡ true → Witness p (d ∷ ds)) [
      | true ↦ λ here _. (d, here, ap (λ (b : Bool). b || list_any (eq_by_cmp message_order d) ds) (ties_itself message_total message_same d))
      | false ↦ λ _ later. let w = witness p ds later in (w.0, w.1, ap (λ (b : Bool). eq_by_cmp message_order w.0 d || b) w.2 ∙ or_right (eq_by_cmp message_order w.0 d) true refl)
    ] refl e

found : (p : Draft → Bool) (s : Contents) (d : Draft) → set.contains s d ≡ true → p d ≡ true → list_any p (set.items s) ≡ true
found p s d held passes = list_any-found (eq_by_cmp message_order) (tie_is message_total message_same) p d (set.items s) (sym (contains-items s d) ∙ held) passes

differ : (a b : Draft) → a ≢ b → not (same_message b a) ≡ true
differ a b n = elim (same_message b a) as (λ t. same_message b a ≡ t → not t ≡ true) [ true ↦ λ e. absurd (n (sym (message_is b a e))) | false ↦ λ _. refl ] refl

apart : (a b : Draft) → not (same_message b a) ≡ true → a ≢ b
apart a b n e = false≢true (ap not (sym (ap (λ (x : Draft). same_message x a) (sym e) ∙ message_itself a)) ∙ n)

same_identity-from : (i j : Identity) → i ≡ j → same_identity i j ≡ true
same_identity-from i j e = ap (same_identity i) (sym e) ∙ identity_itself i

-- whether a message of the set is disputed and has the identity
abbrev tells : Contents → Identity → Draft → Bool
tells s i d = is_disputed s d && eq_by_cmp identity_order i (identity_of d)

told-is : (s : Contents) (i : Identity) → list_any (eq_by_cmp identity_order i) (contradicted_identities s) ≡ list_any (tells s i) (set.items s)
unfolding contradicted_identities
told-is s i =
    members_ascending identity_total identities_same (map identity_of (filter (is_disputed s) (set.items s))) i
    ∙ list_any-map (eq_by_cmp identity_order i) identity_of (filter (is_disputed s) (set.items s))
    ∙ list_any-filter (λ d. eq_by_cmp identity_order i (identity_of d)) (is_disputed s) (set.items s)

contradicted_from_told : (s : Contents) (i : Identity) → list_any (tells s i) (set.items s) ≡ true → IsContradicted s i
contradicted_from_told s i e =
    let one = witness (tells s i) (set.items s) e in
    let is = sym (tie_is identity_total identities_same i (identity_of one.0) (and_parts _ _ one.1).1) in
    let other = witness (is_rival one.0) (set.items s) (and_parts _ _ one.1).0 in
    record {
      one = one.0;
      other = other.0;
      one_held = contains-items s one.0 ∙ one.2;
      other_held = contains-items s other.0 ∙ other.2;
      different = apart one.0 other.0 (and_parts _ _ other.1).1;
      one_has_it = is;
      other_has_it = identity_is (identity_of other.0) (identity_of one.0) (and_parts _ _ other.1).0 ∙ is;
    }

told_from_contradicted : (s : Contents) (i : Identity) → IsContradicted s i → list_any (tells s i) (set.items s) ≡ true
told_from_contradicted s i c =
    let disputed = found (is_rival c.one) s c.other c.other_held
    (and_from _ _ (same_identity-from _ _ (c.other_has_it ∙ sym c.one_has_it)) (differ c.one c.other c.different)) in
    found (tells s i) s c.one c.one_held (and_from _ _ disputed (same_identity-from _ _ (sym c.one_has_it)))

pub contradictions_told : TellsContradictions
contradictions_told s i = (
  λ h. contradicted_from_told s i (sym (told-is s i) ∙ list_any-from_Contains (eq_by_cmp_equiv identity_total) i (contradicted_identities s) h),
  λ c. Contains-from_any (tie_is identity_total identities_same) i (contradicted_identities s) (told-is s i ∙ told_from_contradicted s i c),
)

pub told_in_order : TellsInOrder
unfolding contradicted_identities
told_in_order s = ascending_rises identity_total identities_same _

-- ---- Against

against_is : (b : Bool) → added_where b ≡ added.Against → b ≡ true
against_is true e = refl
against_is false e = cc

-- a message of an enlarged set is the one that was added, or was held before
held_before : (s : Contents) (m d : Draft) → set.contains (set.insert s m) d ≡ true → m ≢ d → set.contains s d ≡ true
held_before s m d held other =
    elim (eq_by_cmp message_order d m) as (λ b. eq_by_cmp message_order d m ≡ b → (b || set.contains s d) ≡ true → set.contains s d ≡ true) [
      | true ↦ λ e _. absurd (other (sym (tie_is message_total message_same d m e)))
      | false ↦ λ _ e. e
    ] refl (sym (contains-insert message_total s m d) ∙ held)

-- of two different messages one is not m
one_is_another : (s : Contents) (m : Draft) → IsContradicted (set.insert s m) (identity_of m) → has_identity s (identity_of m) ≡ true
one_is_another s m c =
    let passes = λ (d : Draft) (e : identity_of d ≡ identity_of m). same_identity-from (identity_of d) (identity_of m) e in
    elim (same_message c.one m) as (λ b. same_message c.one m ≡ b → has_identity s (identity_of m) ≡ true) [
      | true ↦ λ e. let is = message_is c.one m e in
          found (λ held. same_identity (identity_of held) (identity_of m)) s c.other (held_before s m c.other c.other_held (λ f. c.different (is ∙ f))) (passes c.other c.other_has_it)
      | false ↦ λ e. found (λ held. same_identity (identity_of held) (identity_of m)) s c.one (held_before s m c.one c.one_held (λ f. false≢true (sym e ∙ ap (λ (x : Draft). same_message x m) (sym f) ∙ message_itself m))) (passes c.one c.one_has_it)
    ] refl

contradicted_by : (s : Contents) (m : Draft) → set.contains s m ≡ false → has_identity s (identity_of m) ≡ true → IsContradicted (set.insert s m) (identity_of m)
contradicted_by s m absent has =
    let held = witness (λ d. same_identity (identity_of d) (identity_of m)) (set.items s) has in
    let was : set.contains s held.0 ≡ true = contains-items s held.0 ∙ held.2 in
    record {
      one = m;
      other = held.0;
      one_held = contains-insert message_total s m m ∙ ap (λ (b : Bool). b || set.contains s m) (ties_itself message_total message_same m);
      other_held = contains-insert message_total s m held.0 ∙ ap (λ (b : Bool). eq_by_cmp message_order held.0 m || b) was ∙ or_right (eq_by_cmp message_order held.0 m) true refl;
      different = λ e. false≢true (sym absent ∙ ap (set.contains s) e ∙ was);
      one_has_it = refl;
      other_has_it = identity_is (identity_of held.0) (identity_of m) held.1;
    }

pub against_answered : AnswersAgainst
against_answered s m absent =
    let is = added-absent s m (has_identity s (identity_of m)) absent refl in
    (λ e. contradicted_by s m absent (against_is _ (is ∙ e)), λ c. sym is ∙ ap added_where (one_is_another s m c))
