-- The status of a transfer without messages, and by whether something is found.
use Rattle.std.proofs.Common.{◌≡◌, ◌∙◌, refl, sym, ap, arith, true, false, not, List, [], ◌∷◌, ◌++◌, length, map, filter}
use Rattle.std.specs.Prelude.{◌==◌, ◌&&◌}
use Rattle.std.specs.List.{list_any}
use Rattle.std.specs.List.Sorted.{IsStrictlySortedBy}
use Rattle.std.specs.Cmp.Lexicographic.{nat_list_cmp_total}
use Rattle.std.proofs.lemmas.Bool.{false≢true, ne_eqb, not-false}
use Rattle.std.proofs.lemmas.List.{append-nil}
use Rattle.sct_message.specs.declared.draft.Draft.{Draft}
use Rattle.sct_message.specs.declared.keys.Identity.{Identity}
use Rattle.sct_message.specs.declared.keys.TransferKey.{TransferKey}
use Rattle.sct_message.proofs.AscendingLemmas.{ascending-sorted}
use Rattle.sct_case.specs.declared.finding.Finding.{Finding}
use Rattle.sct_case.specs.declared.finding.Finding.TheVariants as finding
use Rattle.sct_case.specs.Told.{has_some, cxls, differ_among, recall_of_it, return_of_it, refusal_of_it, same_recall_made, same_refusal, findings_of_instruction, findings_of_recalls, findings_of}
use Rattle.std.specs.FinSet.{nat_cmp-IsAntisymmetric, slice_cmp-IsAntisymmetric}
use Rattle.sct_case.specs.Statuses.{Contradicted, Unknown, first_standing, is_unknown, standing_of, transfer_status_of}

-- ---- without messages

no_cxls : cxls [] ≡ []
unfolding IsStrictlySortedBy
no_cxls = ascending-sorted nat_list_cmp_total (slice_cmp-IsAntisymmetric nat_cmp-IsAntisymmetric) [] tt

no_recalls : (t : TransferKey) → findings_of_recalls t [] ≡ []
unfolding findings_of_recalls
no_recalls t = λ i.
    map (λ c. finding.RecallsDiffer c) (filter (λ c. differ_among (recall_of_it c) same_recall_made []) (no_cxls i))
    ++ map (λ c. finding.BothAnswers c) (filter (λ c. list_any (return_of_it c) []) (no_cxls i))
    ++ map (λ c. finding.RefusalsDiffer c) (filter (λ c. differ_among (refusal_of_it c) same_refusal []) (no_cxls i))
    ++ []
    ++ []

only_identities : (t : TransferKey) (asides : List Identity) → findings_of_instruction t [] asides ≡ map (λ i. finding.Identity i) asides
unfolding findings_of_instruction
only_identities t asides = simp append-nil

-- without a message nothing is found but the contradicted identities
pub found_of_asides : (t : TransferKey) (clean : List Draft) (asides : List Identity) → clean ≡ [] → map (λ i. finding.Identity i) asides ≡ findings_of t clean asides
unfolding findings_of
found_of_asides t clean asides none =
    sym (ap (λ (ms : List Draft). findings_of_instruction t ms asides ++ findings_of_recalls t ms) none
    ∙ (λ i. only_identities t asides i ++ no_recalls t i)
    ∙ append-nil (map (λ i. finding.Identity i) asides))

-- ---- by whether something is found

pub some : {X : Type 0} (x : X) (xs : List X) → (length (x ∷ xs) == 0) ≡ false
some x xs = ne_eqb _ _ (λ e. omega arith)

pub empty_of : {X : Type 0} (xs : List X) → (length xs == 0) ≡ true → xs ≡ []
empty_of [] e = refl
empty_of (x ∷ xs) e = absurd (false≢true (sym (some x xs) ∙ e))

pub none_in : {X : Type 0} (xs : List X) → has_some xs ≡ false → xs ≡ []
none_in xs e = empty_of xs (not-false _ e)

-- whether a list has items, and what it is mapped to
pub none_held : {X Y : Type 0} (g : X → Y) (xs : List X) → (length xs == 0) ≡ true → map g xs ≡ []
none_held g xs e = ap (map g) (empty_of xs e)

pub some_held : {X Y : Type 0} (g : X → Y) (xs : List X) → (length xs == 0) ≡ false → has_some (map g xs) ≡ true
some_held g [] e = cc
some_held g (x ∷ xs) e = ap not (some (g x) (map g xs))

pub contradicted : (t : TransferKey) (clean : List Draft) (asides : List Identity) (found : List Finding)
    → found ≡ findings_of t clean asides → has_some found ≡ true → Contradicted found ≡ transfer_status_of t clean asides
unfolding transfer_status_of
contradicted t clean asides [] f e = cc
contradicted t clean asides (g ∷ found) f e = ap (λ (fs : List Finding). first_standing fs (is_unknown clean asides) (standing_of t clean)) f

-- if nothing is found, and there is a message
pub not_contradicted : (t : TransferKey) (clean : List Draft) (asides : List Identity) (found : List Finding)
    → found ≡ findings_of t clean asides → has_some found ≡ false → has_some clean ≡ true → standing_of t clean ≡ transfer_status_of t clean asides
unfolding transfer_status_of
not_contradicted t [] asides found f e known = cc
not_contradicted t (m ∷ clean) asides found f e known =
    λ i. first_standing ((sym (none_in found e) ∙ f) i) (sym (some m clean) i && (length asides == 0)) (standing_of t (m ∷ clean))

-- if nothing is found, and there is no message
pub mapped_none : {X Y : Type 0} (g : X → Y) (xs : List X) → map g xs ≡ [] → xs ≡ []
mapped_none g [] e = refl
mapped_none g (x ∷ xs) e = cc

pub unknown : (t : TransferKey) (clean : List Draft) (asides : List Identity) (found : List Finding)
    → found ≡ findings_of t clean asides → has_some found ≡ false → clean ≡ [] → Unknown ≡ transfer_status_of t clean asides
unfolding transfer_status_of
unknown t clean asides found f e none =
    let empty : asides ≡ [] = mapped_none (λ i. finding.Identity i) asides (found_of_asides t clean asides none ∙ sym f ∙ none_in found e) in
    λ i. first_standing ((sym (none_in found e) ∙ f) i) (is_unknown (sym none i) (sym empty i)) (standing_of t clean)
