-- The findings in ten pieces, one for each place, and that they are reported in order, each once.
use Rattle.std.proofs.Common.{◌≡◌, ◌∙◌, refl, sym, ap, subst, arith, inl, inr, ℕ, ◌+◌, ◌<◌, ◌≤◌, Bool, true, false, List, [], ◌∷◌, ◌++◌, map, filter, append_assoc, get_or, Ordering}
use Rattle.std.specs.Prelude.{Contains}
use Rattle.std.specs.List.{All, flat_map}
use Rattle.std.specs.List.Sorted.{IsStrictlySortedBy}
use Rattle.std.specs.Ordering.{ordering_then}
use Rattle.std.specs.declared.cmp.Ordering.TheVariants.{Less}
use Rattle.std.specs.Cmp.{nat_cmp_is}
use Rattle.std.specs.Cmp.Lexicographic.{nat_list_cmp_total}
use Rattle.std.specs.FinSet.{nat_cmp-IsAntisymmetric, slice_cmp-IsAntisymmetric}
use Rattle.std.proofs.lemmas.List.{append-nil}
use Rattle.std.proofs.lemmas.List.Elements.{All-append, All-from_recursion, All-map, Contains-append_cases, Contains-get_or, recursion_from_All}
use Rattle.std.proofs.lemmas.List.Kept.{IsStrictlySortedBy-filter}
use Rattle.sct_message.specs.Order.{text_order}
use Rattle.sct_message.specs.declared.draft.Draft.{Draft}
use Rattle.sct_message.specs.declared.keys.Identity.{Identity}
use Rattle.sct_message.specs.declared.keys.TransferKey.{TransferKey}
use Rattle.sct_message.proofs.AscendingLemmas.{ascending_rises}
use Rattle.sct_case.specs.declared.finding.Finding.{Finding}
use Rattle.sct_case.specs.declared.finding.Finding.TheVariants as finding
use Rattle.sct_case.specs.Told.{where_found, cxls, has_two_instructions, is_both_confirmed, do_reasons_differ, does_amount_differ, recall_findings, answer_findings, refusal_findings, has_two_returns, has_return_of_rejected, findings_of_instruction, findings_of_recalls, findings_of}
use Rattle.sct_case.specs.Laws.{place, named_order, finding_order, TellsFindingsInOrder}
use Rattle.sct_case.proofs.Membership.{both, here, in_map, later, nothing, only}

-- ---- the pieces

abbrev pub pieces : TransferKey → List Draft → List Identity → List (List Finding)
pieces t clean asides =
    map (λ i. finding.Identity i) asides
    ∷ (where_found (has_two_instructions clean) finding.TwoInstructions
    ∷ (where_found (is_both_confirmed clean) finding.BothConfirmed
    ∷ (where_found (do_reasons_differ clean) finding.ReasonsDiffer
    ∷ (where_found (does_amount_differ t clean) finding.AmountDiffers
    ∷ (recall_findings t clean
    ∷ (answer_findings t clean
    ∷ (refusal_findings t clean
    ∷ (where_found (has_two_returns t clean) finding.TwoReturns
    ∷ (where_found (has_return_of_rejected t clean) finding.ReturnOfRejected ∷ [])))))))))

pub joined_pieces : (t : TransferKey) (clean : List Draft) (asides : List Identity) → flat_map (λ p. p) (pieces t clean asides) ≡ findings_of t clean asides
unfolding findings_of findings_of_instruction findings_of_recalls
joined_pieces t clean asides = simp (append_assoc, append-nil)

-- ---- lists that rise one after the other

all_of : {X : Type 0} (P : X → Type 0) (ys : List X) → ((y : X) → Contains ys y → P y) → All P ys
all_of P ys all k d within = all (get_or ys k d) (Contains-get_or ys k d within)

sorted-append : {X : Type 0} (R : X → X → Ordering) (xs ys : List X) → IsStrictlySortedBy R xs → IsStrictlySortedBy R ys
    → ((x y : X) → Contains xs x → Contains ys y → R x y ≡ Less) → IsStrictlySortedBy R (xs ++ ys)
unfolding IsStrictlySortedBy
sorted-append R [] ys h k less = k
sorted-append R (x ∷ xs) ys h k less = (
  recursion_from_All (λ y. R x y ≡ Less) (xs ++ ys) (All-append (λ y. R x y ≡ Less) xs ys (All-from_recursion (λ y. R x y ≡ Less) xs h.0) (all_of (λ y. R x y ≡ Less) ys (λ y j. less x y (here x xs) j))),
  sorted-append R xs ys h.1 k (λ a b i j. less a b (later x xs a i) j),
)

sorted-map : {X Y : Type 0} (f : X → Y) (R : Y → Y → Ordering) (xs : List X) → IsStrictlySortedBy (λ a b. R (f a) (f b)) xs → IsStrictlySortedBy R (map f xs)
unfolding IsStrictlySortedBy
sorted-map f R [] h = tt
sorted-map f R (x ∷ xs) h = (
  recursion_from_All (λ y. R (f x) y ≡ Less) (map f xs) (All-map (λ y. R (f x) y ≡ Less) f xs (All-from_recursion (λ y. R (f x) (f y) ≡ Less) xs h.0)),
  sorted-map f R xs h.1,
)

-- ---- pieces that rise, each at its place

record IsPiece (n : ℕ) (p : List Finding) : Type 0 where
  pub sorted : IsStrictlySortedBy finding_order p
  pub at : (f : Finding) → Contains p f → place f ≡ n

-- the first piece is at place n, and each later one at the next place
abbrev Rise : ℕ → List (List Finding) → Type 0
Rise n [] = Unit {0}
Rise n (p ∷ ps) = IsPiece n p × Rise (n + 1) ps

starts : (n : ℕ) (ps : List (List Finding)) → Rise n ps → (f : Finding) → Contains (flat_map (λ p. p) ps) f → n ≤ place f
starts n [] r f h = absurd (nothing f h)
starts n (p ∷ ps) r f h = elim (Contains-append_cases p (flat_map (λ q. q) ps) f h) as (λ _. n ≤ place f) [
  | inl a ↦ let at = r.0.at f a in omega arith
  | inr b ↦ let from = starts (n + 1) ps r.1 f b in omega arith
]

less : (f g : Finding) → place f < place g → finding_order f g ≡ Less
less f g h = ap (λ r. ordering_then r (named_order f g)) (sym (nat_cmp_is (place f) (place g) Less h))

rises : (n : ℕ) (ps : List (List Finding)) → Rise n ps → IsStrictlySortedBy finding_order (flat_map (λ p. p) ps)
unfolding IsStrictlySortedBy
rises n [] r = tt
rises n (p ∷ ps) r = sorted-append finding_order p (flat_map (λ q. q) ps) r.0.sorted (rises (n + 1) ps r.1)
    (λ f g i j. let at = r.0.at f i in let from = starts (n + 1) ps r.1 g j in less f g (omega arith))

where_piece : (b : Bool) (g : Finding) → IsPiece (place g) (where_found b g)
unfolding IsStrictlySortedBy
where_piece true g = record { sorted = (tt, tt); at = λ f h. ap place (sym (only g f h)) }
where_piece false g = record { sorted = tt; at = λ f h. absurd (nothing f h) }

map_piece : {X : Type 0} (n : ℕ) (g : X → Finding) (xs : List X) → ((x : X) → place (g x) ≡ n) → IsStrictlySortedBy (λ a b. finding_order (g a) (g b)) xs → IsPiece n (map g xs)
map_piece n g xs at sorted = record { sorted = sorted-map g finding_order xs sorted; at = λ f h. let r = in_map g xs f h in ap place (sym r.2) ∙ at r.0 }

kept_sorted : (p : List ℕ → Bool) (cs : List (List ℕ)) → IsStrictlySortedBy text_order (filter p (cxls cs))
kept_sorted p cs = IsStrictlySortedBy-filter text_order p (cxls cs) (ascending_rises nat_list_cmp_total (slice_cmp-IsAntisymmetric nat_cmp-IsAntisymmetric) cs)

pub tells_in_order : TellsFindingsInOrder
tells_in_order t clean asides sorted =
    subst (IsStrictlySortedBy finding_order) (joined_pieces t clean asides) (rises 1 (pieces t clean asides)
    (both (map_piece 1 (λ i. finding.Identity i) asides (λ i. refl) sorted)
    (both (where_piece _ finding.TwoInstructions)
    (both (where_piece _ finding.BothConfirmed)
    (both (where_piece _ finding.ReasonsDiffer)
    (both (where_piece _ finding.AmountDiffers)
    (both (map_piece 6 (λ c. finding.RecallsDiffer c) _ (λ c. refl) (kept_sorted _ _))
    (both (map_piece 7 (λ c. finding.BothAnswers c) _ (λ c. refl) (kept_sorted _ _))
    (both (map_piece 8 (λ c. finding.RefusalsDiffer c) _ (λ c. refl) (kept_sorted _ _))
    (both (where_piece _ finding.TwoReturns)
    (both (where_piece _ finding.ReturnOfRejected) tt)))))))))))
