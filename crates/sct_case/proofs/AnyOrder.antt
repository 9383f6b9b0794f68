-- Messages passed in any order give the same answers.
use Rattle.std.proofs.Common.{◌≡◌, ◌∙◌, refl, sym, ap, subst, inl, inr, Bool, true, ℕ, List, [], ◌∷◌, Ordering}
use Rattle.std.specs.Prelude.{Contains}
use Rattle.std.specs.List.{AllByRecursion}
use Rattle.std.specs.List.Sorted.{IsStrictlySortedBy}
use Rattle.std.specs.Ordering.{nat_cmp, ordering_then, ordering_reverse}
use Rattle.std.specs.declared.cmp.Ordering.TheVariants.{Less, Greater}
use Rattle.std.specs.Cmp.{then_flip}
use Rattle.std.specs.Cmp.Lexicographic.{nat_list_cmp_total}
use Rattle.std.proofs.lemmas.Cmp.{nat_cmp_total}
use Rattle.std.proofs.lemmas.List.Elements.{All-contains, All-from_recursion}
use Rattle.sct_message.specs.Order.{identity_order}
use Rattle.sct_message.specs.OrderLaws.{identity_total}
use Rattle.sct_message.specs.declared.draft.Draft.{Draft}
use Rattle.sct_message.specs.declared.keys.Identity.{Identity}
use Rattle.sct_message.specs.declared.keys.TransferKey.{TransferKey}
use Rattle.sct_case.specs.declared.finding.Finding.{Finding}
use Rattle.sct_case.specs.declared.finding.Finding.TheVariants as finding
use Rattle.sct_case.specs.declared.status.RecallStatus.{RecallStatus}
use Rattle.sct_case.specs.declared.status.RecallStatus.TheVariants as recall
use Rattle.sct_case.specs.Findings.{IsFound}
use Rattle.sct_case.specs.Told.{findings_of}
use Rattle.sct_case.specs.Statuses.{Standing, Contradicted, Unknown, Missing, Rejected, Returned, Accepted, Investigated, Pending}
use Rattle.sct_case.specs.Sentences.{Goes, IsStatus}
use Rattle.sct_case.specs.RecallSentences.{RecallGoes, IsUnanswered, IsRecallStatus}
use Rattle.sct_case.specs.AnyOrder.{AnswersInAnyOrder}
use Rattle.sct_case.specs.Laws.{HaveDistinctIdentities, place, named_order, finding_order}
use Rattle.sct_case.proofs.Membership.{empty, nothing, here, later, first_or_later}
use Rattle.sct_case.proofs.Exact.{told_is_found, found_is_told}
use Rattle.sct_case.proofs.InOrder.{tells_in_order}
use Rattle.sct_case.proofs.Stays.{moved, still}
use Rattle.sct_case.proofs.Sentences as transfer
use Rattle.sct_case.proofs.RecallSentences as recalls

-- ---- lists that rise strictly and have the same members

named_flip : (f g : Finding) → named_order f g ≡ ordering_reverse (named_order g f)
named_flip (finding.Identity i) (finding.Identity j) = identity_total.antisymm i j
named_flip (finding.RecallsDiffer c) (finding.RecallsDiffer d) = nat_list_cmp_total.antisymm c d
named_flip (finding.BothAnswers c) (finding.BothAnswers d) = nat_list_cmp_total.antisymm c d
named_flip (finding.RefusalsDiffer c) (finding.RefusalsDiffer d) = nat_list_cmp_total.antisymm c d
named_flip f (finding.Identity j) = refl
named_flip f g = refl

finding_flip : (f g : Finding) → finding_order f g ≡ ordering_reverse (finding_order g f)
finding_flip f g = (λ i. ordering_then (nat_cmp_total.antisymm (place f) (place g) i) (named_flip f g i)) ∙ then_flip (nat_cmp (place g) (place f)) (named_order g f)

module _ {X : Type 0} (R : X → X → Ordering) (flip : (x y : X) → R x y ≡ ordering_reverse (R y x)) where
  not_both : (x y : X) → R x y ≡ Less → R y x ≡ Less → ⊥
  not_both x y h k = let e : Less ≡ Greater = sym h ∙ flip x y ∙ ap ordering_reverse k in cc

  below : (x : X) (xs : List X) → AllByRecursion (λ z. R x z ≡ Less) xs → (y : X) → Contains xs y → R x y ≡ Less
  below x xs h y i = All-contains (λ z. R x z ≡ Less) xs y (All-from_recursion (λ z. R x z ≡ Less) xs h) i

  same_first : (x y : X) (xs ys : List X) → AllByRecursion (λ z. R x z ≡ Less) xs → AllByRecursion (λ z. R y z ≡ Less) ys → Contains (y ∷ ys) x → Contains (x ∷ xs) y → x ≡ y
  same_first x y xs ys h k i j = elim (first_or_later y ys x i) as (λ _. x ≡ y) [
    | inl e ↦ sym e
    | inr a ↦ elim (first_or_later x xs y j) as (λ _. x ≡ y) [ inl e ↦ e | inr b ↦ absurd (not_both x y (below x xs h y b) (below y ys k x a)) ]
  ]

  in_rest : (x y : X) (xs ys : List X) → AllByRecursion (λ z. R x z ≡ Less) xs → x ≡ y → (z : X) → Contains xs z → Contains (y ∷ ys) z → Contains ys z
  in_rest x y xs ys h same z i j = elim (first_or_later y ys z j) as (λ _. Contains ys z) [
    | inl e ↦ let itself : R z z ≡ Less = ap (λ w. R w z) (sym (same ∙ e)) ∙ below x xs h z i in absurd (not_both z z itself itself)
    | inr k ↦ k
  ]

  unique : (xs ys : List X) → IsStrictlySortedBy R xs → IsStrictlySortedBy R ys → ((z : X) → Contains xs z → Contains ys z) → ((z : X) → Contains ys z → Contains xs z) → xs ≡ ys
  unfolding IsStrictlySortedBy
  unique [] ys h k forth back = sym (empty ys (λ y i. nothing y (back y i)))
  unique (x ∷ xs) [] h k forth back = absurd (nothing x (forth x (here x xs)))
  unique (x ∷ xs) (y ∷ ys) h k forth back =
      let same = same_first x y xs ys h.0 k.0 (forth x (here x xs)) (back y (here y ys)) in
      let rest = unique xs ys h.1 k.1 (λ z i. in_rest x y xs ys h.0 same z i (forth z (later x xs z i))) (λ z j. in_rest y x ys xs k.0 (sym same) z j (back z (later y ys z j))) in
      λ i. same i ∷ rest i

-- ---- the same messages

module _ (t : TransferKey) (clean other : List Draft) (asides : List Identity)
    (more : (m : Draft) → Contains clean m → Contains other m) (fewer : (m : Draft) → Contains other m → Contains clean m) where
  same_found : (f : Finding) → IsFound t clean asides f → IsFound t other asides f
  same_found = still more t asides asides (λ i h. h) (λ m s. record { held = more m s.held; instructs = s.instructs; sole = λ n h i. s.sole n (fewer n h) i })

  same_empty : clean ≡ [] → other ≡ []
  same_empty e = empty other (λ m h. nothing m (subst (λ ms. Contains ms m) e (fewer m h)))

same_findings : (t : TransferKey) (clean other : List Draft) (asides : List Identity) → HaveDistinctIdentities clean → HaveDistinctIdentities other → IsStrictlySortedBy identity_order asides
    → ((m : Draft) → Contains clean m → Contains other m) → ((m : Draft) → Contains other m → Contains clean m) → findings_of t clean asides ≡ findings_of t other asides
same_findings t clean other asides a b sorted more fewer =
    unique finding_order finding_flip (findings_of t clean asides) (findings_of t other asides) (tells_in_order t clean asides sorted) (tells_in_order t other asides sorted)
    (λ f h. found_is_told t other asides b f (same_found t clean other asides more fewer f (told_is_found t clean asides a f h)))
    (λ f h. found_is_told t clean asides a f (same_found t other clean asides fewer more f (told_is_found t other asides b f h)))

module _ (t : TransferKey) (clean other : List Draft) (asides : List Identity)
    (more : (m : Draft) → Contains clean m → Contains other m) (fewer : (m : Draft) → Contains other m → Contains clean m)
    (same : findings_of t clean asides ≡ findings_of t other asides) where
  -- what a message of the one says, a message of the other does
  forth : {p : Draft → Bool} → (m : Draft) × Contains clean m × (p m ≡ true) → (m : Draft) × Contains other m × (p m ≡ true)
  forth m = (m.0, more m.0 m.1, m.2)

  back : {p : Draft → Bool} → (m : Draft) × Contains other m × (p m ≡ true) → (m : Draft) × Contains clean m × (p m ≡ true)
  back m = (m.0, fewer m.0 m.1, m.2)

  goes : Goes t clean asides → Goes t other asides
  goes g = record { consistent = sym same ∙ g.consistent; instructed = forth g.instructed; not_rejected = λ r. g.not_rejected (r.0, moved fewer r.1) }

  same_status : (s : Standing) → IsStatus t clean asides s → IsStatus t other asides s
  same_status (Contradicted found) h = (h.0 ∙ same, h.1)
  same_status Unknown h = (same_empty t clean other asides more fewer h.0, h.1)
  same_status Missing h = (sym same ∙ h.0, (λ e. h.1 (same_empty t other clean asides fewer more e)), λ m. h.2 (back m))
  same_status (Rejected r) h = (sym same ∙ h.0, forth h.1, moved more h.2)
  same_status (Returned a) h = (goes h.0, forth h.1, (h.2.0, moved more h.2.1, h.2.2))
  same_status Accepted h = (goes h.0, forth h.1, λ r. h.2 (r.0, (r.1.0, moved fewer r.1.1, r.1.2)))
  same_status Investigated h = (goes h.0, (λ m. h.1 (back m)), forth h.2)
  same_status Pending h = (goes h.0, (λ m. h.1 (back m)), λ m. h.2 (back m))

  module _ (c : List ℕ) where
    recall_goes : RecallGoes t clean asides c → RecallGoes t other asides c
    recall_goes g = record { consistent = sym same ∙ g.consistent; named = moved more g.named; made = (g.made.0, moved more g.made.1, g.made.2) }

    unanswered : IsUnanswered t clean c → IsUnanswered t other c
    unanswered u = record { not_returned = λ r. u.not_returned (r.0, (r.1.0, moved fewer r.1.1, r.1.2, r.1.3)); not_refused = λ r. u.not_refused (r.0, moved fewer r.1) }

    same_recall_status : (s : RecallStatus) → IsRecallStatus t clean asides c s → IsRecallStatus t other asides c s
    same_recall_status recall.Contradicted h = λ e. h (same ∙ e)
    same_recall_status recall.Unknown h = (sym same ∙ h.0, λ n. h.1 (moved fewer n))
    same_recall_status recall.Unasked h = (sym same ∙ h.0, moved more h.1, λ m. h.2 (m.0, moved fewer m.1, m.2))
    same_recall_status (recall.Returned a) h = (recall_goes h.0, (h.1.0, moved more h.1.1, h.1.2, h.1.3))
    same_recall_status (recall.Refused r) h = (recall_goes h.0, (λ r. h.1 (r.0, (r.1.0, moved fewer r.1.1, r.1.2, r.1.3))), moved more h.2)
    same_recall_status recall.Chased h = (recall_goes h.0, unanswered h.1, moved more h.2)
    same_recall_status recall.Open h = (recall_goes h.0, unanswered h.1, λ n. h.2 (moved fewer n))

pub answers_in_any_order : AnswersInAnyOrder
answers_in_any_order t clean other asides a b sorted same =
    let more : (m : Draft) → Contains clean m → Contains other m = λ m. (same m).0 in
    let fewer : (m : Draft) → Contains other m → Contains clean m = λ m. (same m).1 in
    let found = same_findings t clean other asides a b sorted more fewer in
    record {
      findings = found;
      status = sym (transfer.holds_told t other asides b _ (same_status t clean other asides more fewer found _ (transfer.told_holds t clean asides)));
      recalls = λ c. sym (recalls.holds_told t other asides c b _ (same_recall_status t clean other asides more fewer found c _ (recalls.told_holds t clean asides c)));
    }
