-- The messages of a list that are not the first of their identity. Proof plumbing.
use Rattle.std.proofs.Common.{◌≡◌, Bool, true, false, cond, ◌||◌, List, [], ◌∷◌, ◌++◌, refl, sym, ap, ◌∙◌, filter, take}
use Rattle.std.specs.List.{list_any}
use Rattle.std.proofs.lemmas.Bool.{false≢true, false_from_ne_true, or_from, or_left, or_right}
use Rattle.std.proofs.lemmas.List.{append_assoc, append-nil}
use Rattle.std.proofs.lemmas.List.Folds.{list_any-append}
use Rattle.sct_message.specs.declared.draft.Draft.{Draft}
use Rattle.sct_message.specs.declared.keys.Identity.{Identity}
use Rattle.sct_message.specs.Keys.{identity_of}
use Rattle.sct_message.specs.Order.{same_identity, same_message}
use Rattle.sct_message.proofs.SameValues.{identity_is, identity_itself, message_is}
use Rattle.sct_message.proofs.Tests.{none_kept, or_false}
use Rattle.sct_set.specs.Drafts.{against_after, against_in, drafts_of, finds}

-- a message behind the others
against-push : (before ds : List Draft) (m : Draft)
    → against_after before (ds ++ m ∷ []) ≡ against_after before ds ++ cond (finds (identity_of m) (before ++ ds)) (m ∷ []) []
against-push before [] m = ap (λ (b : List Draft). cond (finds (identity_of m) b) (m ∷ []) []) (sym (append-nil before))
against-push before (d ∷ ds) m =
    let rest = against-push (before ++ d ∷ []) ds m ∙ ap (λ (b : List Draft). against_after (before ++ d ∷ []) ds ++ cond (finds (identity_of m) b) (m ∷ []) []) (append_assoc before (d ∷ []) ds) in
    elim (finds (identity_of d) before) as (λ b. cond b (d ∷ against_after (before ++ d ∷ []) (ds ++ m ∷ [])) (against_after (before ++ d ∷ []) (ds ++ m ∷ []))
    ≡ cond b (d ∷ against_after (before ++ d ∷ []) ds) (against_after (before ++ d ∷ []) ds) ++ cond (finds (identity_of m) (before ++ d ∷ ds)) (m ∷ []) []) [
      | true ↦ ap (λ (xs : List Draft). d ∷ xs) rest
      | false ↦ rest
    ]

-- one that finds another of its identity
pub against_in-found : (ds : List Draft) (m : Draft) → finds (identity_of m) ds ≡ true → against_in (ds ++ m ∷ []) ≡ against_in ds ++ m ∷ []
against_in-found ds m e = against-push [] ds m ∙ ap (λ (b : Bool). against_in ds ++ cond b (m ∷ []) []) e

-- and the first of its identity
pub against_in-first : (ds : List Draft) (m : Draft) → finds (identity_of m) ds ≡ false → against_in (ds ++ m ∷ []) ≡ against_in ds
against_in-first ds m e = against-push [] ds m ∙ ap (λ (b : Bool). against_in ds ++ cond b (m ∷ []) []) e ∙ append-nil (against_in ds)

-- where no message of an identity is found, none is at a key that is that identity
pub none_found : (ds : List Draft) (key i : Identity) → key ≡ i → finds i ds ≡ false
    → (k : Identity) → same_identity key k ≡ true → filter (λ m. same_identity (identity_of m) k) ds ≡ []
none_found ds key i is none k e =
    none_kept (λ m. same_identity (identity_of m) k) ds
    (ap (λ (j : Identity). finds j ds) (sym (identity_is key k e) ∙ is) ∙ none)

module _ (m : Draft) where
  abbrev is : Draft → Bool
  is d = same_message d m

  abbrev has : Draft → Bool
  has d = same_identity (identity_of d) (identity_of m)

  has_itself : has m ≡ true
  has_itself = identity_itself (identity_of m)

  has_from_is : (d : Draft) → is d ≡ true → has d ≡ true
  has_from_is d e = ap has (message_is d m e) ∙ has_itself

  finds_as : (d : Draft) (before : List Draft) → has d ≡ true → finds (identity_of d) before ≡ finds (identity_of m) before
  finds_as d before e = ap (λ (i : Identity). finds i before) (identity_is (identity_of d) (identity_of m) e)

  -- where one of its identity stands before the list, a message of the list is among those that find another
  among_later : (before ds : List Draft) → finds (identity_of m) before ≡ true → list_any is (against_after before ds) ≡ list_any is ds
  among_later before [] known = refl
  among_later before (d ∷ ds) known =
      let rest = among_later (before ++ d ∷ []) ds (list_any-append has before (d ∷ []) ∙ or_left _ _ known) in
      elim (is d) as (λ b. is d ≡ b → list_any is (against_after before (d ∷ ds)) ≡ (b || list_any is ds)) [
        | true ↦ λ e.
            let found = finds_as d before (has_from_is d e) ∙ known in
            ap (λ (b : Bool). list_any is (cond b (d ∷ against_after (before ++ d ∷ []) ds) (against_after (before ++ d ∷ []) ds))) found
            ∙ ap (λ (b : Bool). b || list_any is (against_after (before ++ d ∷ []) ds)) e
        | false ↦ λ e.
            elim (finds (identity_of d) before) as (λ b. list_any is (cond b (d ∷ against_after (before ++ d ∷ []) ds) (against_after (before ++ d ∷ []) ds)) ≡ list_any is ds) [
              | true ↦ ap (λ (b : Bool). b || list_any is (against_after (before ++ d ∷ []) ds)) e ∙ rest
              | false ↦ rest
            ]
      ] refl

  -- where none does, a message of the list is the first of its identity or among those that find another
  among_all : (before ds : List Draft) → finds (identity_of m) before ≡ false
      → (list_any is (take 1 (drafts_of (identity_of m) ds)) || list_any is (against_after before ds)) ≡ list_any is ds
  among_all before [] unknown = refl
  among_all before (d ∷ ds) unknown =
      elim (has d) as (λ b. has d ≡ b → (list_any is (take 1 (cond b (d ∷ drafts_of (identity_of m) ds) (drafts_of (identity_of m) ds))) || list_any is (against_after before (d ∷ ds))) ≡ (is d || list_any is ds)) [
        | true ↦ λ e.
            let missed = finds_as d before e ∙ unknown in
            let later = among_later (before ++ d ∷ []) ds (list_any-append has before (d ∷ []) ∙ or_right _ _ (or_left _ _ e)) in
            ap (λ (b : Bool). (is d || false) || list_any is (cond b (d ∷ against_after (before ++ d ∷ []) ds) (against_after (before ++ d ∷ []) ds))) missed
            ∙ ap (λ (b : Bool). (is d || false) || b) later
            ∙ ap (λ (b : Bool). b || list_any is ds) (or_false (is d))
        | false ↦ λ e.
            let other : is d ≡ false = false_from_ne_true (is d) (λ f. false≢true (sym e ∙ has_from_is d f)) in
            let rest = among_all (before ++ d ∷ []) ds (list_any-append has before (d ∷ []) ∙ or_from _ _ unknown (or_from _ _ e refl)) in
            let skipped : list_any is (against_after before (d ∷ ds)) ≡ list_any is (against_after (before ++ d ∷ []) ds) =
            elim (finds (identity_of d) before) as (λ b. list_any is (cond b (d ∷ against_after (before ++ d ∷ []) ds) (against_after (before ++ d ∷ []) ds)) ≡ list_any is (against_after (before ++ d ∷ []) ds)) [
              | true ↦ ap (λ (b : Bool). b || list_any is (against_after (before ++ d ∷ []) ds)) other
              | false ↦ refl
            ] in
            ap (λ (b : Bool). list_any is (take 1 (drafts_of (identity_of m) ds)) || b) skipped
            ∙ rest
            ∙ ap (λ (b : Bool). b || list_any is ds) (sym other)
      ] refl

  -- a message is one of a list where it is the first of its identity, or among those that find another
  pub first_or_against : (ds : List Draft) → (list_any is (take 1 (drafts_of (identity_of m) ds)) || list_any is (against_in ds)) ≡ list_any is ds
  first_or_against ds = among_all [] ds refl
