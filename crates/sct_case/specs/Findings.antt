-- The contradictions among the messages on a transfer, for auditors: one relation for each finding.
use Rattle.std.specs.Prelude.{◌≡◌, ◌≢◌, ℕ, List, true, Contains}
use Rattle.sct_message.specs.Transfers.{is_instruction}
use Rattle.sct_message.specs.declared.draft.Draft.{Draft}
use Rattle.sct_message.specs.declared.keys.Identity.{Identity}
use Rattle.sct_message.specs.declared.keys.TransferKey.{TransferKey}
use Rattle.sct_case.specs.declared.finding.Finding.{Finding}
use Rattle.sct_case.specs.declared.finding.Finding.TheVariants as finding
use Rattle.sct_case.specs.declared.said.InstructedAmount.{InstructedAmount}
use Rattle.sct_case.specs.declared.said.RejectionReason.{RejectionReason}
use Rattle.sct_case.specs.declared.said.RecallMade.{RecallMade}
use Rattle.sct_case.specs.declared.said.OriginalAmount.{OriginalAmount}
use Rattle.sct_case.specs.declared.said.ReturnMade.{ReturnMade}
use Rattle.sct_case.specs.declared.said.RefusalMade.{RefusalMade}
use Rattle.sct_case.specs.Said.{IsSaid, is_acceptance, instructions_by, rejections_by, recalls_made_by, amounts_by, returns_by, refusals_by}

-- Two different messages instruct the transfer.
pub record HasTwoInstructions (clean : List Draft) : Type 0 where
  pub one : Draft
  pub other : Draft
  pub one_held : Contains clean one
  pub other_held : Contains clean other
  pub one_instructs : is_instruction one ≡ true
  pub other_instructs : is_instruction other ≡ true
  pub different : one ≢ other

-- One message accepts the transfer and one rejects it.
pub record IsBothConfirmed (clean : List Draft) : Type 0 where
  pub acceptance : Draft
  pub held : Contains clean acceptance
  pub accepts : is_acceptance acceptance ≡ true
  pub reason : RejectionReason
  pub rejected : IsSaid rejections_by clean reason

-- Two rejections give different reasons.
pub record DoReasonsDiffer (clean : List Draft) : Type 0 where
  pub one : RejectionReason
  pub other : RejectionReason
  pub one_given : IsSaid rejections_by clean one
  pub other_given : IsSaid rejections_by clean other
  pub different : one ≢ other

-- The message instructs the transfer, and no other does.
pub record IsSoleInstruction (clean : List Draft) (instruction : Draft) : Type 0 where
  pub held : Contains clean instruction
  pub instructs : is_instruction instruction ≡ true
  pub sole : (other : Draft) → Contains clean other → is_instruction other ≡ true → other ≡ instruction

-- Exactly one message instructs the transfer, and a recall or a return names an original amount that differs.
pub record DoesAmountDiffer (transfer : TransferKey) (clean : List Draft) : Type 0 where
  pub instruction : Draft
  pub sole : IsSoleInstruction clean instruction
  pub instructed : InstructedAmount
  pub of_instruction : Contains (instructions_by instruction) instructed
  pub named : OriginalAmount
  pub is_named : IsSaid (amounts_by transfer) clean named
  pub different : named.amount ≢ instructed.amount

-- Two recalls of that identification differ in their original amount or their reason.
pub record DoRecallsDiffer (transfer : TransferKey) (clean : List Draft) (cxl : List ℕ) : Type 0 where
  pub one : RecallMade
  pub other : RecallMade
  pub one_made : IsSaid (recalls_made_by transfer) clean one
  pub other_made : IsSaid (recalls_made_by transfer) clean other
  pub one_of_it : one.cxl ≡ cxl
  pub other_of_it : other.cxl ≡ cxl
  pub different : one ≢ other

-- The recall is refused and answered by a return.
pub record IsBothAnswered (transfer : TransferKey) (clean : List Draft) (cxl : List ℕ) : Type 0 where
  pub refusal : RefusalMade
  pub return : ReturnMade
  pub refused : IsSaid (refusals_by transfer) clean refusal
  pub returned : IsSaid (returns_by transfer) clean return
  pub refusal_of_it : refusal.cxl ≡ cxl
  pub return_of_it : return.cxl ≡ cxl

-- Two refusals of the recall give different reasons.
pub record DoRefusalsDiffer (transfer : TransferKey) (clean : List Draft) (cxl : List ℕ) : Type 0 where
  pub one : RefusalMade
  pub other : RefusalMade
  pub one_made : IsSaid (refusals_by transfer) clean one
  pub other_made : IsSaid (refusals_by transfer) clean other
  pub one_of_it : one.cxl ≡ cxl
  pub other_of_it : other.cxl ≡ cxl
  pub different : one ≢ other

-- Two returns differ in their identification, their recall or the returned amount.
pub record HasTwoReturns (transfer : TransferKey) (clean : List Draft) : Type 0 where
  pub one : ReturnMade
  pub other : ReturnMade
  pub one_made : IsSaid (returns_by transfer) clean one
  pub other_made : IsSaid (returns_by transfer) clean other
  pub different : one ≢ other

-- Money was returned for a transfer that was rejected.
pub record HasReturnOfRejected (transfer : TransferKey) (clean : List Draft) : Type 0 where
  pub return : ReturnMade
  pub returned : IsSaid (returns_by transfer) clean return
  pub reason : RejectionReason
  pub rejected : IsSaid rejections_by clean reason

-- The finding holds for a transfer with these clean messages and these contradicted identities.
abbrev pub IsFound : TransferKey → List Draft → List Identity → Finding → Type 0
IsFound transfer clean asides (finding.Identity identity) = Contains asides identity
IsFound transfer clean asides finding.TwoInstructions = HasTwoInstructions clean
IsFound transfer clean asides finding.BothConfirmed = IsBothConfirmed clean
IsFound transfer clean asides finding.ReasonsDiffer = DoReasonsDiffer clean
IsFound transfer clean asides finding.AmountDiffers = DoesAmountDiffer transfer clean
IsFound transfer clean asides (finding.RecallsDiffer cxl) = DoRecallsDiffer transfer clean cxl
IsFound transfer clean asides (finding.BothAnswers cxl) = IsBothAnswered transfer clean cxl
IsFound transfer clean asides (finding.RefusalsDiffer cxl) = DoRefusalsDiffer transfer clean cxl
IsFound transfer clean asides finding.TwoReturns = HasTwoReturns transfer clean
IsFound transfer clean asides finding.ReturnOfRejected = HasReturnOfRejected transfer clean
