-- A finding is reported exactly if its relation holds: each test decides its relation, and each piece has what its
-- test decides.
use Rattle.std.proofs.Common.{◌≡◌, refl, sym, subst, arith, ℕ, ◌-◌, ◌<◌, Bool, true, false, List, [], map, filter, get_or}
use Rattle.std.specs.Prelude.{Contains}
use Rattle.std.specs.Bool.{Decides}
use Rattle.std.specs.List.{AllByRecursion, flat_map, list_any}
use Rattle.std.specs.Cmp.Lexicographic.{bytes_decides, nat_list_cmp_total}
use Rattle.std.specs.FinSet.{nat_cmp-IsAntisymmetric, slice_cmp-IsAntisymmetric}
use Rattle.std.proofs.lemmas.Bool.Decides.{Decides-and, Decides-like}
use Rattle.std.proofs.lemmas.List.Elements.{All-contains, All-from_recursion, Contains-get_or}
use Rattle.sct_message.specs.declared.draft.Draft.{Draft}
use Rattle.sct_message.specs.declared.keys.Identity.{Identity}
use Rattle.sct_message.specs.declared.keys.TransferKey.{TransferKey}
use Rattle.sct_case.specs.declared.finding.Finding.{Finding}
use Rattle.sct_case.specs.declared.finding.Finding.TheVariants as finding
use Rattle.sct_case.specs.Said.{IsSaid, is_acceptance, rejections_by, recalls_made_by, returns_by, refusals_by}
use Rattle.sct_case.specs.Findings.{IsFound, IsBothConfirmed, DoReasonsDiffer, DoRecallsDiffer, DoRefusalsDiffer, HasTwoReturns, HasReturnOfRejected}
use Rattle.sct_case.specs.Told.{where_found, cxls, differ_among, is_both_confirmed, do_reasons_differ, recall_of_it, return_of_it, refusal_of_it, same_reason, same_recall_made, same_return, same_refusal, has_two_returns, has_return_of_rejected, findings_of}
use Rattle.sct_case.specs.Laws.{HaveDistinctIdentities, TellsExactly, place}
use Rattle.sct_case.proofs.Membership.{both, nothing, here, only, in_map, mapped_in, in_filter, filtered_in, in_flat_map, flat_mapped_in, in_ascending, ascending_in, any-Decides, said_in, in_said, some_said-Decides, any_said-Decides, differ_said-Decides}
use Rattle.sct_case.proofs.Same.{reason-Decides, recall-Decides, return-Decides, refusal-Decides}
use Rattle.sct_case.proofs.Instructed.{two-Decides, amount-Decides}
use Rattle.sct_case.proofs.InOrder.{pieces, joined_pieces}

-- ---- what the tests decide

abbrev Any : {X : Type 0} → X → Type 0
Any x = Unit {0}

module _ (clean : List Draft) where
  confirmed-Decides : Decides (is_both_confirmed clean) (IsBothConfirmed clean)
  confirmed-Decides = Decides-like _
      (λ b. record { acceptance = b.0.0; held = b.0.1; accepts = b.0.2; reason = b.1.0; rejected = b.1.1 })
      (λ b. ((b.acceptance, b.held, b.accepts), (b.reason, b.rejected)))
      (Decides-and _ _ (any-Decides is_acceptance (λ m. is_acceptance m ≡ true) (λ m. (λ h. h, λ h. h)) clean) (some_said-Decides rejections_by clean))

  reasons-Decides : Decides (do_reasons_differ clean) (DoReasonsDiffer clean)
  reasons-Decides = Decides-like _
      (λ d. record { one = d.one; other = d.other; one_given = d.one_said; other_given = d.other_said; different = d.different })
      (λ d. record { one = d.one; other = d.other; one_said = d.one_given; other_said = d.other_given; one_is = tt; other_is = tt; different = d.different })
      (differ_said-Decides rejections_by clean (λ r. true) Any (λ r. (λ h. tt, λ h. refl)) same_reason reason-Decides)

module _ (t : TransferKey) (clean : List Draft) where
  recalls-Decides : (c : List ℕ) → Decides (differ_among (recall_of_it c) same_recall_made (flat_map (recalls_made_by t) clean)) (DoRecallsDiffer t clean c)
  recalls-Decides c = Decides-like _
      (λ d. record { one = d.one; other = d.other; one_made = d.one_said; other_made = d.other_said; one_of_it = d.one_is; other_of_it = d.other_is; different = d.different })
      (λ d. record { one = d.one; other = d.other; one_said = d.one_made; other_said = d.other_made; one_is = d.one_of_it; other_is = d.other_of_it; different = d.different })
      (differ_said-Decides (recalls_made_by t) clean (recall_of_it c) (λ m. m.cxl ≡ c) (λ m. bytes_decides m.cxl c) same_recall_made recall-Decides)

  refusals-Decides : (c : List ℕ) → Decides (differ_among (refusal_of_it c) same_refusal (flat_map (refusals_by t) clean)) (DoRefusalsDiffer t clean c)
  refusals-Decides c = Decides-like _
      (λ d. record { one = d.one; other = d.other; one_made = d.one_said; other_made = d.other_said; one_of_it = d.one_is; other_of_it = d.other_is; different = d.different })
      (λ d. record { one = d.one; other = d.other; one_said = d.one_made; other_said = d.other_made; one_is = d.one_of_it; other_is = d.other_of_it; different = d.different })
      (differ_said-Decides (refusals_by t) clean (refusal_of_it c) (λ m. m.cxl ≡ c) (λ m. bytes_decides m.cxl c) same_refusal refusal-Decides)

  returns-Decides : Decides (has_two_returns t clean) (HasTwoReturns t clean)
  returns-Decides = Decides-like _
      (λ d. record { one = d.one; other = d.other; one_made = d.one_said; other_made = d.other_said; different = d.different })
      (λ d. record { one = d.one; other = d.other; one_said = d.one_made; other_said = d.other_made; one_is = tt; other_is = tt; different = d.different })
      (differ_said-Decides (returns_by t) clean (λ r. true) Any (λ r. (λ h. tt, λ h. refl)) same_return return-Decides)

  rejected-Decides : Decides (has_return_of_rejected t clean) (HasReturnOfRejected t clean)
  rejected-Decides = Decides-like _
      (λ d. record { return = d.0.0; returned = d.0.1; reason = d.1.0; rejected = d.1.1 })
      (λ d. ((d.return, d.returned), (d.reason, d.rejected)))
      (Decides-and _ _ (some_said-Decides (returns_by t) clean) (some_said-Decides rejections_by clean))

  returned-Decides : (c : List ℕ) → Decides (list_any (return_of_it c) (flat_map (returns_by t) clean)) ((r : _) × IsSaid (returns_by t) clean r × (r.cxl ≡ c))
  returned-Decides c = any_said-Decides (returns_by t) clean (return_of_it c) (λ r. r.cxl ≡ c) (λ r. bytes_decides r.cxl c)

-- ---- what the pieces have

-- the recalls that are kept are those that are named and pass the test
module _ {X : Type 0} (recall : X → List ℕ) (by : Draft → List X) (clean : List Draft) (p : List ℕ → Bool) (c : List ℕ) where
  abbrev kept : List (List ℕ)
  kept = filter p (cxls (map recall (flat_map by clean)))

  kept_in : (x : X) → IsSaid by clean x → recall x ≡ c → p c ≡ true → Contains kept c
  kept_in x s e passes =
      filtered_in p (cxls (map recall (flat_map by clean))) c
      (ascending_in nat_list_cmp_total (slice_cmp-IsAntisymmetric nat_cmp-IsAntisymmetric) (map recall (flat_map by clean)) c
      (subst (Contains (map recall (flat_map by clean))) e (mapped_in recall (flat_map by clean) x (said_in by clean x s)))) passes

  in_kept : Contains kept c → (x : X) × IsSaid by clean x × (recall x ≡ c) × (p c ≡ true)
  in_kept h =
      let f = in_filter p (cxls (map recall (flat_map by clean))) c h in
      let r = in_map recall (flat_map by clean) c (in_ascending nat_list_cmp_total (slice_cmp-IsAntisymmetric nat_cmp-IsAntisymmetric) _ c f.0) in
      (r.0, in_said by clean r.0 r.1, r.2, f.1)

module _ (t : TransferKey) (clean : List Draft) (asides : List Identity) (apart : HaveDistinctIdentities clean) where
  of_where : (b : Bool) (g f : Finding) → Decides b (IsFound t clean asides g) → Contains (where_found b g) f → IsFound t clean asides f
  of_where true g f d h = subst (IsFound t clean asides) (only g f h) (d.0 refl)
  of_where false g f d h = absurd (nothing f h)

  in_where : (b : Bool) (g : Finding) → Decides b (IsFound t clean asides g) → IsFound t clean asides g → Contains (where_found b g) g
  in_where b g d h = subst (λ c. Contains (where_found c g) g) (sym (d.1 h)) (here g [])

  of_map : {X : Type 0} (g : X → Finding) (xs : List X) (f : Finding) → ((x : X) → Contains xs x → IsFound t clean asides (g x)) → Contains (map g xs) f → IsFound t clean asides f
  of_map g xs f each h = let r = in_map g xs f h in subst (IsFound t clean asides) r.2 (each r.0 r.1)

  each_piece : (f : Finding) → AllByRecursion (λ p. Contains p f → IsFound t clean asides f) (pieces t clean asides)
  each_piece f =
      both (of_map (λ i. finding.Identity i) asides f (λ i h. h))
      (both (of_where _ finding.TwoInstructions f (two-Decides clean apart))
      (both (of_where _ finding.BothConfirmed f (confirmed-Decides clean))
      (both (of_where _ finding.ReasonsDiffer f (reasons-Decides clean))
      (both (of_where _ finding.AmountDiffers f (amount-Decides clean t apart))
      (both (of_map (λ c. finding.RecallsDiffer c) _ f (λ c h. (recalls-Decides t clean c).0 (in_kept (λ m. m.cxl) (recalls_made_by t) clean _ c h).3))
      (both (of_map (λ c. finding.BothAnswers c) _ f (λ c h.
      let q = in_kept (λ m. m.cxl) (refusals_by t) clean _ c h in
      let r = (returned-Decides t clean c).0 q.3 in
      record { refusal = q.0; return = r.0; refused = q.1; returned = r.1; refusal_of_it = q.2; return_of_it = r.2 }))
      (both (of_map (λ c. finding.RefusalsDiffer c) _ f (λ c h. (refusals-Decides t clean c).0 (in_kept (λ m. m.cxl) (refusals_by t) clean _ c h).3))
      (both (of_where _ finding.TwoReturns f (returns-Decides t clean))
      (both (of_where _ finding.ReturnOfRejected f (rejected-Decides t clean)) tt)))))))))

  pub told_is_found : (f : Finding) → Contains (findings_of t clean asides) f → IsFound t clean asides f
  told_is_found f h =
      let r = in_flat_map (λ p. p) (pieces t clean asides) f (subst (λ fs. Contains fs f) (sym (joined_pieces t clean asides)) h) in
      All-contains (λ p. Contains p f → IsFound t clean asides f) (pieces t clean asides) r.0
      (All-from_recursion (λ p. Contains p f → IsFound t clean asides f) (pieces t clean asides) (each_piece f)) r.1 r.2

  -- the piece at the place of a finding
  abbrev piece_of : Finding → List Finding
  piece_of f = get_or (pieces t clean asides) (place f - 1) []

  in_piece : (f : Finding) → IsFound t clean asides f → Contains (piece_of f) f
  in_piece (finding.Identity i) h = mapped_in (λ i. finding.Identity i) asides i h
  in_piece finding.TwoInstructions h = in_where _ finding.TwoInstructions (two-Decides clean apart) h
  in_piece finding.BothConfirmed h = in_where _ finding.BothConfirmed (confirmed-Decides clean) h
  in_piece finding.ReasonsDiffer h = in_where _ finding.ReasonsDiffer (reasons-Decides clean) h
  in_piece finding.AmountDiffers h = in_where _ finding.AmountDiffers (amount-Decides clean t apart) h
  in_piece (finding.RecallsDiffer c) h =
      mapped_in (λ c. finding.RecallsDiffer c) _ c
      (kept_in (λ m. m.cxl) (recalls_made_by t) clean _ c h.one h.one_made h.one_of_it ((recalls-Decides t clean c).1 h))
  in_piece (finding.BothAnswers c) h =
      mapped_in (λ c. finding.BothAnswers c) _ c
      (kept_in (λ m. m.cxl) (refusals_by t) clean _ c h.refusal h.refused h.refusal_of_it ((returned-Decides t clean c).1 (h.return, h.returned, h.return_of_it)))
  in_piece (finding.RefusalsDiffer c) h =
      mapped_in (λ c. finding.RefusalsDiffer c) _ c
      (kept_in (λ m. m.cxl) (refusals_by t) clean _ c h.one h.one_made h.one_of_it ((refusals-Decides t clean c).1 h))
  in_piece finding.TwoReturns h = in_where _ finding.TwoReturns (returns-Decides t clean) h
  in_piece finding.ReturnOfRejected h = in_where _ finding.ReturnOfRejected (rejected-Decides t clean) h

  pub found_is_told : (f : Finding) → IsFound t clean asides f → Contains (findings_of t clean asides) f
  found_is_told f h =
      let within : place f - 1 < 10 = grind arith in
      subst (λ fs. Contains fs f) (joined_pieces t clean asides) (flat_mapped_in (λ p. p) (pieces t clean asides) (piece_of f) f (Contains-get_or (pieces t clean asides) (place f - 1) [] within) (in_piece f h))

pub tells_exactly : TellsExactly
tells_exactly t clean asides apart f = (told_is_found t clean asides apart f, found_is_told t clean asides apart f)
