-- The status of a recall by the status of its transfer. Proof plumbing.
use Rattle.std.proofs.Common.{◌≡◌, ◌∙◌, refl, sym, ap, subst, ℕ, List, [], map}
use Rattle.std.specs.Prelude.{◌≢◌}
use Rattle.std.specs.Global.{Vec}
use Rattle.sct_message.specs.declared.draft.Draft.{Draft}
use Rattle.sct_message.specs.declared.keys.Identity.{Identity}
use Rattle.sct_message.specs.declared.keys.TransferKey.{TransferKey}
use Rattle.sct_case.specs.declared.finding.Finding.{Finding}
use Rattle.sct_case.specs.declared.finding.Finding.TheVariants as finding
use Rattle.sct_case.specs.declared.status.Status.{Status}
use Rattle.sct_case.specs.declared.status.Status.TheVariants as status
use Rattle.sct_case.specs.declared.status.RecallStatus.TheVariants as recall
use Rattle.sct_case.specs.Sentences.{IsConsistent, IsStatus}
use Rattle.sct_case.specs.Statuses.{Standing, Contradicted, Unknown, Missing, Rejected, Returned, Accepted, Investigated, Pending, first_recall, recall_standing_of, recall_status_of, as_standing, transfer_status_of}
use Rattle.sct_case.specs.Told.{findings_of}
use Rattle.sct_case.proofs.Judged.{found_of_asides}
use Rattle.sct_case.proofs.RecallSentences.{contradicted}
use Rattle.sct_case.proofs.Sentences.{told_holds}

abbrev pub IsContradictedStanding : Standing → Type 0
IsContradictedStanding (Contradicted found) = Unit {0}
IsContradictedStanding other = ⊥

module _ (t : TransferKey) (clean : List Draft) (asides : List Identity) where
  something_found : (s : Standing) → IsStatus t clean asides s → IsContradictedStanding s → findings_of t clean asides ≢ []
  something_found (Contradicted found) h is = λ e. h.1 (h.0 ∙ e)
  something_found s h is = absurd is

  nothing_found : (s : Standing) → IsStatus t clean asides s → (IsContradictedStanding s → ⊥) → IsConsistent t clean asides
  nothing_found (Contradicted found) h clear = absurd (clear tt)
  nothing_found Unknown h clear = sym (found_of_asides t clean asides h.0) ∙ ap (map (λ i. finding.Identity i)) h.1
  nothing_found Missing h clear = h.0
  nothing_found (Rejected reason) h clear = h.0
  nothing_found (Returned amount) h clear = h.0.consistent
  nothing_found Accepted h clear = h.0.consistent
  nothing_found Investigated h clear = h.0.consistent
  nothing_found Pending h clear = h.0.consistent

  module _ (cxl : List ℕ) (s : Standing) (e : s ≡ transfer_status_of t clean asides) where
    stands : IsStatus t clean asides s
    stands = subst (IsStatus t clean asides) (sym e) (told_holds t clean asides)

    -- a recall of a contradicted transfer is contradicted
    pub recall_contradicted_by : IsContradictedStanding s → recall.Contradicted ≡ recall_status_of t clean asides cxl
    recall_contradicted_by is = sym (contradicted t clean asides cxl (something_found s stands is))

    -- any other recall has the status that its messages give
    pub recall_clear_by : (IsContradictedStanding s → ⊥) → recall_standing_of t clean cxl ≡ recall_status_of t clean asides cxl
    unfolding recall_status_of
    recall_clear_by clear = λ i. first_recall (sym (nothing_found s stands clear) i) (recall_standing_of t clean cxl)

-- a status other than contradicted has no findings
pub told_clear : (s : Status) → ((found : Vec Finding) → s ≡ status.Contradicted found → ⊥) → IsContradictedStanding (as_standing s) → ⊥
told_clear (status.Contradicted found) other h = other found refl
told_clear s other h = h
