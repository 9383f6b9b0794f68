-- The sentence of each status of a transfer, for auditors. It is a law of this crate that each status
-- is returned exactly if its sentence holds.
use Rattle.std.specs.Prelude.{◌≡◌, ◌≢◌, ◌↔◌, ℕ, true, List, [], Contains}
use Rattle.sct_reason.specs.declared.reasons.Reason.{Reason}
use Rattle.sct_message.specs.Transfers.{is_instruction}
use Rattle.sct_message.specs.declared.draft.Draft.{Draft}
use Rattle.sct_message.specs.declared.keys.Identity.{Identity}
use Rattle.sct_message.specs.declared.keys.TransferKey.{TransferKey}
use Rattle.sct_case.specs.declared.said.ReturnMade.{ReturnMade}
use Rattle.sct_case.specs.Said.{IsSaid, is_acceptance, is_investigation, rejections_by, returns_by}
use Rattle.sct_case.specs.Told.{findings_of}
use Rattle.sct_case.specs.Statuses.{Standing, Contradicted, Unknown, Missing, Rejected, Returned, Accepted, Investigated, Pending, transfer_status_of}
use Rattle.sct_case.specs.Laws.{HaveDistinctIdentities}

abbrev pub IsConsistent : TransferKey → List Draft → List Identity → Type 0
IsConsistent transfer clean asides = findings_of transfer clean asides ≡ []

abbrev pub IsInstructed : List Draft → Type 0
IsInstructed clean = (m : Draft) × Contains clean m × (is_instruction m ≡ true)

abbrev pub IsRejectedFor : List Draft → Reason → Type 0
IsRejectedFor clean reason = IsSaid rejections_by clean (record { reason = reason })

abbrev pub IsRejected : List Draft → Type 0
IsRejected clean = (reason : Reason) × IsRejectedFor clean reason

abbrev pub IsAccepted : List Draft → Type 0
IsAccepted clean = (m : Draft) × Contains clean m × (is_acceptance m ≡ true)

-- that amount was returned
abbrev pub IsReturned : TransferKey → List Draft → ℕ → Type 0
IsReturned transfer clean amount =
    (made : ReturnMade) × IsSaid (returns_by transfer) clean made × (made.amount ≡ amount)

abbrev pub IsInvestigated : List Draft → Type 0
IsInvestigated clean = (m : Draft) × Contains clean m × (is_investigation m ≡ true)

abbrev pub Not : Type 0 → Type 0
Not A = A → ⊥

-- A message instructs the transfer, no message rejects it, and it has no finding.
pub record Goes (transfer : TransferKey) (clean : List Draft) (asides : List Identity) : Type 0 where
  pub consistent : IsConsistent transfer clean asides
  pub instructed : IsInstructed clean
  pub not_rejected : Not (IsRejected clean)

abbrev pub IsStatus : TransferKey → List Draft → List Identity → Standing → Type 0
IsStatus transfer clean asides (Contradicted found) = (found ≡ findings_of transfer clean asides) × (found ≢ [])
IsStatus transfer clean asides Unknown = (clean ≡ []) × (asides ≡ [])
IsStatus transfer clean asides Missing =
    IsConsistent transfer clean asides × (clean ≢ []) × Not (IsInstructed clean)
IsStatus transfer clean asides (Rejected reason) =
    IsConsistent transfer clean asides × IsInstructed clean × IsRejectedFor clean reason
IsStatus transfer clean asides (Returned amount) =
    Goes transfer clean asides × IsAccepted clean × IsReturned transfer clean amount
IsStatus transfer clean asides Accepted =
    Goes transfer clean asides × IsAccepted clean × Not ((amount : ℕ) × IsReturned transfer clean amount)
IsStatus transfer clean asides Investigated =
    Goes transfer clean asides × Not (IsAccepted clean) × IsInvestigated clean
IsStatus transfer clean asides Pending =
    Goes transfer clean asides × Not (IsAccepted clean) × Not (IsInvestigated clean)

-- each status is returned exactly if its sentence holds
abbrev pub TellsEachStatus : Type 0
TellsEachStatus = (transfer : TransferKey) (clean : List Draft) (asides : List Identity) → HaveDistinctIdentities clean
    → (stands : Standing) → (transfer_status_of transfer clean asides ≡ stands)
    ↔ IsStatus transfer clean asides stands
