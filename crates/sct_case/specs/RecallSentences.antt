-- The sentence of each status of a recall, for auditors. It is a law of this crate that each status
-- is returned exactly if its sentence holds.
use Rattle.std.specs.Prelude.{◌≡◌, ◌≢◌, ◌↔◌, ℕ, List, []}
use Rattle.sct_reason.specs.declared.reasons.Reason.{Reason}
use Rattle.sct_message.specs.declared.draft.Draft.{Draft}
use Rattle.sct_message.specs.declared.keys.Identity.{Identity}
use Rattle.sct_message.specs.declared.keys.TransferKey.{TransferKey}
use Rattle.sct_case.specs.declared.said.RecallMade.{RecallMade}
use Rattle.sct_case.specs.declared.said.ReturnMade.{ReturnMade}
use Rattle.sct_case.specs.declared.status.RecallStatus.{RecallStatus}
use Rattle.sct_case.specs.declared.status.RecallStatus.TheVariants as recall
use Rattle.sct_case.specs.Said.{IsSaid, recalls_made_by, returns_by, refusals_by, requests_by, recalls_named_by}
use Rattle.sct_case.specs.Told.{findings_of}
use Rattle.sct_case.specs.Statuses.{recall_status_of}
use Rattle.sct_case.specs.Sentences.{IsConsistent, Not}
use Rattle.sct_case.specs.Laws.{HaveDistinctIdentities}

-- a message names the recall, in whatever way
abbrev pub IsNamed : TransferKey → List Draft → List ℕ → Type 0
IsNamed transfer clean cxl = IsSaid (recalls_named_by transfer) clean (record { cxl = cxl })

-- a message makes the recall
abbrev pub IsMade : TransferKey → List Draft → List ℕ → Type 0
IsMade transfer clean cxl = (made : RecallMade) × IsSaid (recalls_made_by transfer) clean made × (made.cxl ≡ cxl)

-- that amount was returned after the recall
abbrev pub IsReturnedAfter : TransferKey → List Draft → List ℕ → ℕ → Type 0
IsReturnedAfter transfer clean cxl amount =
    (made : ReturnMade) × IsSaid (returns_by transfer) clean made × (made.cxl ≡ cxl) × (made.amount ≡ amount)

abbrev pub IsRefusedFor : TransferKey → List Draft → List ℕ → Reason → Type 0
IsRefusedFor transfer clean cxl reason =
    IsSaid (refusals_by transfer) clean (record { cxl = cxl; reason = reason })

-- its status was asked for
abbrev pub IsChased : TransferKey → List Draft → List ℕ → Type 0
IsChased transfer clean cxl = IsSaid (requests_by transfer) clean (record { cxl = cxl })

-- The recall was made, and its transfer has no finding.
pub record RecallGoes (transfer : TransferKey) (clean : List Draft) (asides : List Identity) (cxl : List ℕ) : Type 0 where
  pub consistent : IsConsistent transfer clean asides
  pub named : IsNamed transfer clean cxl
  pub made : IsMade transfer clean cxl

-- No money was returned after the recall, and nobody refused it.
pub record IsUnanswered (transfer : TransferKey) (clean : List Draft) (cxl : List ℕ) : Type 0 where
  pub not_returned : Not ((amount : ℕ) × IsReturnedAfter transfer clean cxl amount)
  pub not_refused : Not ((reason : Reason) × IsRefusedFor transfer clean cxl reason)

abbrev pub IsRecallStatus : TransferKey → List Draft → List Identity → List ℕ → RecallStatus → Type 0
IsRecallStatus transfer clean asides cxl recall.Contradicted = findings_of transfer clean asides ≢ []
IsRecallStatus transfer clean asides cxl recall.Unknown =
    IsConsistent transfer clean asides × Not (IsNamed transfer clean cxl)
IsRecallStatus transfer clean asides cxl recall.Unasked =
    IsConsistent transfer clean asides × IsNamed transfer clean cxl × Not (IsMade transfer clean cxl)
IsRecallStatus transfer clean asides cxl (recall.Returned amount) =
    RecallGoes transfer clean asides cxl × IsReturnedAfter transfer clean cxl amount
IsRecallStatus transfer clean asides cxl (recall.Refused reason) =
    RecallGoes transfer clean asides cxl × Not ((amount : ℕ) × IsReturnedAfter transfer clean cxl amount)
    × IsRefusedFor transfer clean cxl reason
IsRecallStatus transfer clean asides cxl recall.Chased =
    RecallGoes transfer clean asides cxl × IsUnanswered transfer clean cxl × IsChased transfer clean cxl
IsRecallStatus transfer clean asides cxl recall.Open =
    RecallGoes transfer clean asides cxl × IsUnanswered transfer clean cxl × Not (IsChased transfer clean cxl)

-- each status of a recall is returned exactly if its sentence holds
abbrev pub TellsEachRecallStatus : Type 0
TellsEachRecallStatus =
    (transfer : TransferKey) (clean : List Draft) (asides : List Identity) (cxl : List ℕ) → HaveDistinctIdentities clean
    → (stands : RecallStatus) → (recall_status_of transfer clean asides cxl ≡ stands)
    ↔ IsRecallStatus transfer clean asides cxl stands
