-- Each status is returned exactly if its sentence holds.
use Rattle.std.proofs.Common.{◌≡◌, ◌∙◌, refl, sym, ap, subst, ℕ, Bool, true, false, List, [], ◌∷◌, map, Option, Some, None, option_map}
use Rattle.std.specs.Prelude.{◌≢◌, ◌==◌, length, Contains}
use Rattle.std.specs.Bool.{Decides}
use Rattle.std.specs.List.{list_any, flat_map}
use Rattle.std.proofs.lemmas.Bool.{false_from_ne_true, false≢true, true_from_ne_false}
use Rattle.std.proofs.lemmas.Bool.Decides.{Decides-and, not_from_Decides}
use Rattle.sct_reason.specs.declared.reasons.Reason.{Reason}
use Rattle.sct_message.specs.declared.draft.Draft.{Draft}
use Rattle.sct_message.specs.declared.keys.Identity.{Identity}
use Rattle.sct_message.specs.declared.keys.TransferKey.{TransferKey}
use Rattle.sct_case.specs.declared.finding.Finding.{Finding}
use Rattle.sct_case.specs.declared.finding.Finding.TheVariants as finding
use Rattle.sct_case.specs.declared.said.RejectionReason.{RejectionReason}
use Rattle.sct_case.specs.Said.{IsSaid, is_acceptance, is_investigation, instructions_by, rejections_by, returns_by}
use Rattle.sct_case.specs.Told.{has_some, findings_of}
use Rattle.sct_case.specs.Statuses.{Standing, Contradicted, Unknown, Missing, Rejected, Returned, Accepted, Investigated, Pending, first, rejection_reason, return_amount, first_standing, is_unknown, standing_by, standing_of, transfer_status_of}
use Rattle.sct_case.specs.Sentences.{IsConsistent, IsInstructed, IsRejectedFor, IsAccepted, IsReturned, IsInvestigated, Goes, IsStatus, TellsEachStatus}
use Rattle.sct_case.specs.Laws.{HaveDistinctIdentities}
use Rattle.sct_case.proofs.Membership.{nothing, any-Decides, Picks, picks_none, picks_some, picks_like, said_picks}
use Rattle.sct_case.proofs.Instructed.{instructed-Decides}
use Rattle.sct_case.proofs.Judged.{contradicted, empty_of, found_of_asides, mapped_none, none_in, not_contradicted, unknown}
use Rattle.sct_case.proofs.OfOneRecall.{first_found}
use Rattle.sct_case.proofs.Stays.{consistent_say_one_thing}

-- ---- what decides each part of a status

empty-Decides : {X : Type 0} (xs : List X) → Decides (length xs == 0) (xs ≡ [])
empty-Decides xs = (empty_of xs, ap (λ ys. length ys == 0))

held-Decides : (p : Draft → Bool) (clean : List Draft) → Decides (list_any p clean) ((m : Draft) × Contains clean m × (p m ≡ true))
held-Decides p = any-Decides p (λ m. p m ≡ true) (λ m. (λ h. h, λ h. h))

first_picks : {X Y : Type 0} (by : Draft → List X) (clean : List Draft) (f : X → Y) → Picks (option_map f (first (flat_map by clean))) (λ y. (x : X) × IsSaid by clean x × (f x ≡ y))
first_picks by clean f =
    subst (λ o. Picks (option_map f o) (λ y. (x : _) × IsSaid by clean x × (f x ≡ y))) (first_found (flat_map by clean))
    (picks_like (λ y. (x : _) × IsSaid by clean x × Unit {0} × (f x ≡ y)) (λ y. (x : _) × IsSaid by clean x × (f x ≡ y)) _
    (λ y s. (s.0, s.1, s.3)) (λ y s. (s.0, s.1, tt, s.2)) (said_picks by clean (λ x. true) (λ x. Unit {0}) (λ x. (λ h. tt, λ h. refl)) f))

rejection_picks : (clean : List Draft) → Picks (rejection_reason clean) (IsRejectedFor clean)
rejection_picks clean = picks_like (λ r. (x : RejectionReason) × IsSaid rejections_by clean x × (x.reason ≡ r)) (IsRejectedFor clean) _
    (λ r s. let same : s.0 ≡ record { reason = r } = λ i. record { reason = s.2 i } in subst (IsSaid rejections_by clean) same s.1)
    (λ r s. (record { reason = r }, s, refl)) (first_picks rejections_by clean (λ x. x.reason))

return_picks : (t : TransferKey) (clean : List Draft) → Picks (return_amount t clean) (IsReturned t clean)
return_picks t clean = first_picks (returns_by t) clean (λ x. x.amount)

-- the status of a transfer by its facts in their order
abbrev stands_by : Bool → Option Reason → Bool → Option ℕ → Bool → Standing
stands_by i r a m v = standing_by (record { instructed = i; rejected = r; accepted = a; returned = m; investigated = v })

module _ (t : TransferKey) (clean : List Draft) (asides : List Identity) where
  unknown-Decides : Decides (is_unknown clean asides) ((clean ≡ []) × (asides ≡ []))
  unknown-Decides = Decides-and _ _ (empty-Decides clean) (empty-Decides asides)

  holds : (found : List Finding) → findings_of t clean asides ≡ found → (u : Bool) → Decides u ((clean ≡ []) × (asides ≡ []))
      → (i : Bool) → Decides i (IsInstructed clean) → (r : Option Reason) → Picks r (IsRejectedFor clean)
      → (a : Bool) → Decides a (IsAccepted clean) → (m : Option ℕ) → Picks m (IsReturned t clean) → (v : Bool) → Decides v (IsInvestigated clean)
      → IsStatus t clean asides (first_standing found u (stands_by i r a m v))
  holds (f ∷ fs) e u U i I r R a A m M v V = (sym e, λ k. cc)
  holds [] e true U i I r R a A m M v V = U.0 refl
  holds [] e false U false I r R a A m M v V =
      (e, (λ k. false≢true (U.1 (k, mapped_none (λ i. finding.Identity i) asides (found_of_asides t clean asides k ∙ e)))), not_from_Decides _ I refl)
  holds [] e false U true I (Some r) R a A m M v V = (e, I.0 refl, R)
  holds [] e false U true I None R true A (Some m) M v V = (record { consistent = e; instructed = I.0 refl; not_rejected = R }, A.0 refl, M)
  holds [] e false U true I None R true A None M v V = (record { consistent = e; instructed = I.0 refl; not_rejected = R }, A.0 refl, M)
  holds [] e false U true I None R false A m M true V = (record { consistent = e; instructed = I.0 refl; not_rejected = R }, not_from_Decides _ A refl, V.0 refl)
  holds [] e false U true I None R false A m M false V = (record { consistent = e; instructed = I.0 refl; not_rejected = R }, not_from_Decides _ A refl, not_from_Decides _ V refl)

  pub told_holds : IsStatus t clean asides (transfer_status_of t clean asides)
  unfolding transfer_status_of
  told_holds = holds _ refl _ unknown-Decides _ (instructed-Decides clean) _ (rejection_picks clean) _ (held-Decides is_acceptance clean) _ (return_picks t clean) _ (held-Decides is_investigation clean)

  -- what is returned if nothing is found and there is a message
  stands : IsConsistent t clean asides → clean ≢ [] → transfer_status_of t clean asides ≡ standing_of t clean
  stands e some = sym (not_contradicted t clean asides [] (sym e) refl (true_from_ne_false _ (λ n. some (none_in clean n))))

  instructed_stands : IsConsistent t clean asides → IsInstructed clean
      → transfer_status_of t clean asides ≡ stands_by true (rejection_reason clean) (list_any is_acceptance clean) (return_amount t clean) (list_any is_investigation clean)
  instructed_stands e m =
      stands e (λ n. nothing m.0 (subst (λ ms. Contains ms m.0) n m.1))
      ∙ ap (λ b. stands_by b (rejection_reason clean) (list_any is_acceptance clean) (return_amount t clean) (list_any is_investigation clean)) ((instructed-Decides clean).1 m)

  goes_on : Goes t clean asides → transfer_status_of t clean asides ≡ stands_by true None (list_any is_acceptance clean) (return_amount t clean) (list_any is_investigation clean)
  goes_on g =
      instructed_stands g.consistent g.instructed
      ∙ ap (λ r. stands_by true r (list_any is_acceptance clean) (return_amount t clean) (list_any is_investigation clean)) (picks_none (IsRejectedFor clean) _ (rejection_picks clean) g.not_rejected)

  pub holds_told : HaveDistinctIdentities clean → (s : Standing) → IsStatus t clean asides s → transfer_status_of t clean asides ≡ s
  holds_told apart (Contradicted found) h = sym (contradicted t clean asides found h.0 (true_from_ne_false _ (λ n. h.1 (none_in found n))))
  holds_told apart Unknown h = sym (unknown t clean asides [] (sym (ap (map (λ i. finding.Identity i)) h.1) ∙ found_of_asides t clean asides h.0) refl h.0)
  holds_told apart Missing h =
      let i = false_from_ne_true (has_some (flat_map instructions_by clean)) (λ k. h.2 ((instructed-Decides clean).0 k)) in
      stands h.0 h.1 ∙ ap (λ b. stands_by b (rejection_reason clean) (list_any is_acceptance clean) (return_amount t clean) (list_any is_investigation clean)) i
  holds_told apart (Rejected r) h =
      let one = consistent_say_one_thing t clean asides apart h.0 in
      let told = picks_some (IsRejectedFor clean) _ (rejection_picks clean) r h.2 (λ q s. ap (λ x. x.reason) (one.rejections (record { reason = q }) (record { reason = r }) s h.2)) in
      instructed_stands h.0 h.1 ∙ ap (λ o. stands_by true o (list_any is_acceptance clean) (return_amount t clean) (list_any is_investigation clean)) told
  holds_told apart (Returned amount) h =
      let one = consistent_say_one_thing t clean asides apart h.0.consistent in
      let told = picks_some (IsReturned t clean) _ (return_picks t clean) amount h.2 (λ n s. sym s.2 ∙ ap (λ x. x.amount) (one.returns s.0 h.2.0 s.1 h.2.1) ∙ h.2.2) in
      goes_on h.0 ∙ (λ i. stands_by true None ((held-Decides is_acceptance clean).1 h.1 i) (told i) (list_any is_investigation clean))
  holds_told apart Accepted h =
      let told = picks_none (IsReturned t clean) _ (return_picks t clean) h.2 in
      goes_on h.0 ∙ (λ i. stands_by true None ((held-Decides is_acceptance clean).1 h.1 i) (told i) (list_any is_investigation clean))
  holds_told apart Investigated h =
      let none = false_from_ne_true (list_any is_acceptance clean) (λ k. h.1 ((held-Decides is_acceptance clean).0 k)) in
      goes_on h.0 ∙ (λ i. stands_by true None (none i) (return_amount t clean) ((held-Decides is_investigation clean).1 h.2 i))
  holds_told apart Pending h =
      let none = false_from_ne_true (list_any is_acceptance clean) (λ k. h.1 ((held-Decides is_acceptance clean).0 k)) in
      let nobody = false_from_ne_true (list_any is_investigation clean) (λ k. h.2 ((held-Decides is_investigation clean).0 k)) in
      goes_on h.0 ∙ (λ i. stands_by true None (none i) (return_amount t clean) (nobody i))

pub tells_each_status : TellsEachStatus
tells_each_status t clean asides apart s =
    (λ e. subst (IsStatus t clean asides) e (told_holds t clean asides), holds_told t clean asides apart s)
