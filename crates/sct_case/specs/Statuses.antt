-- The statuses of a transfer and of its recalls, for auditors: the first of a list of sentences that holds.
use Rattle.std.specs.Prelude.{◌&&◌, ◌==◌, ℕ, List, [], ◌∷◌, length, find, not, Bool, Option, Some, None, option_map, if◌then◌else◌}
use Rattle.std.specs.List.{list_any, flat_map}
use Rattle.sct_reason.specs.declared.reasons.Reason.{Reason}
use Rattle.sct_element.specs.Text.{is_text}
use Rattle.sct_message.specs.declared.draft.Draft.{Draft}
use Rattle.sct_message.specs.declared.keys.Identity.{Identity}
use Rattle.sct_message.specs.declared.keys.TransferKey.{TransferKey}
use Rattle.sct_case.specs.declared.finding.Finding.{Finding}
use Rattle.sct_case.specs.declared.status.Status.{Status}
use Rattle.sct_case.specs.declared.status.Status.TheVariants as status
use Rattle.sct_case.specs.declared.status.RecallStatus.{RecallStatus}
use Rattle.sct_case.specs.declared.status.RecallStatus.TheVariants as recall
use Rattle.sct_case.specs.declared.said.RecallAsked.{RecallAsked}
use Rattle.sct_case.specs.declared.said.ReturnMade.{ReturnMade}
use Rattle.sct_case.specs.declared.said.RefusalMade.{RefusalMade}
use Rattle.sct_case.specs.Said.{is_acceptance, is_investigation, instructions_by, rejections_by, recalls_made_by, returns_by, refusals_by, requests_by, recalls_named_by, RecallNamed}
use Rattle.sct_case.specs.Told.{findings_of, has_some, recall_of_it, return_of_it, refusal_of_it}

-- ---- tables of statuses

-- a row of a table: its status, if the row holds
abbrev pub row : {X : Type 0} → Bool → X → Option X
row holds status = if holds then Some status else None

-- a row that holds if there is a finding
abbrev pub if_found : {X : Type 0} → List Finding → X → Option X
if_found [] status = None
if_found (f ∷ found) status = Some status

-- the status of the first row that holds, or the last status if none does
abbrev pub first_row : {X : Type 0} → List (Option X) → X → X
first_row [] last = last
first_row (None ∷ rows) last = first_row rows last
first_row (Some status ∷ rows) last = status

-- ---- the transfer

-- A status whose findings are a list.
pub data Standing : Type 0 where
  Contradicted : List Finding → Standing
  Unknown : Standing
  Missing : Standing
  Rejected : Reason → Standing
  Returned : ℕ → Standing
  Accepted : Standing
  Investigated : Standing
  Pending : Standing

-- the status with its findings as a list
abbrev pub as_standing : Status → Standing
as_standing (status.Contradicted found) = Contradicted found.items
as_standing status.Unknown = Unknown
as_standing status.Missing = Missing
as_standing (status.Rejected reason) = Rejected reason
as_standing (status.Returned amount) = Returned amount
as_standing status.Accepted = Accepted
as_standing status.Investigated = Investigated
as_standing status.Pending = Pending

abbrev pub first : {X : Type 0} → List X → Option X
first [] = None
first (x ∷ xs) = Some x

-- the reason of the first rejection; if there is no finding, all rejections give the same reason
abbrev pub rejection_reason : List Draft → Option Reason
rejection_reason clean = option_map (λ r. r.reason) (first (flat_map rejections_by clean))

-- the amount of the first return; if there is no finding, all returns have the same amount
abbrev pub return_amount : TransferKey → List Draft → Option ℕ
return_amount transfer clean = option_map (λ r. r.amount) (first (flat_map (returns_by transfer) clean))

-- What the clean messages on a transfer say of it: whether one instructs it, the reason of a rejection, whether one
-- accepts it, the amount of a return, and whether one asks for its status.
pub record TransferFacts : Type 0 where
  pub instructed : Bool
  pub rejected : Option Reason
  pub accepted : Bool
  pub returned : Option ℕ
  pub investigated : Bool

abbrev pub facts_of : TransferKey → List Draft → TransferFacts
facts_of transfer clean = record {
  instructed = has_some (flat_map instructions_by clean);
  rejected = rejection_reason clean;
  accepted = list_any is_acceptance clean;
  returned = return_amount transfer clean;
  investigated = list_any is_investigation clean;
}

-- the status of a transfer that has messages and no finding: the first row that holds, or pending
abbrev pub standing_by : TransferFacts → Standing
standing_by facts =
    first_row
    (row (not facts.instructed) Missing
    ∷ option_map (λ reason. Rejected reason) facts.rejected
    ∷ (if facts.accepted then option_map (λ amount. Returned amount) facts.returned else None)
    ∷ row facts.accepted Accepted
    ∷ row facts.investigated Investigated
    ∷ [])
    Pending

abbrev pub standing_of : TransferKey → List Draft → Standing
standing_of transfer clean = standing_by (facts_of transfer clean)

-- a transfer with findings is contradicted, and one without a message is unknown; any other has the given status
abbrev pub first_standing : List Finding → Bool → Standing → Standing
first_standing found unknown standing =
    first_row (if_found found (Contradicted found) ∷ row unknown Unknown ∷ []) standing

-- no message is on the transfer, neither a clean one nor one of a contradicted identity
abbrev pub is_unknown : List Draft → List Identity → Bool
is_unknown clean asides = (length clean == 0) && (length asides == 0)

unfoldable pub transfer_status_of : TransferKey → List Draft → List Identity → Standing
transfer_status_of transfer clean asides =
    first_standing (findings_of transfer clean asides) (is_unknown clean asides) (standing_of transfer clean)

-- ---- a recall of the transfer

abbrev pub named_of_it : List ℕ → RecallNamed → Bool
named_of_it cxl named = is_text named.cxl cxl

abbrev pub request_of_it : List ℕ → RecallAsked → Bool
request_of_it cxl asked = is_text asked.cxl cxl

abbrev pub amount_returned : List ℕ → List ReturnMade → Option ℕ
amount_returned cxl returns = option_map (λ r. r.amount) (find (return_of_it cxl) returns)

abbrev pub reason_refused : List ℕ → List RefusalMade → Option Reason
reason_refused cxl refusals = option_map (λ r. r.reason) (find (refusal_of_it cxl) refusals)

abbrev pub is_named : TransferKey → List Draft → List ℕ → Bool
is_named transfer clean cxl = list_any (named_of_it cxl) (flat_map (recalls_named_by transfer) clean)

abbrev pub is_made : TransferKey → List Draft → List ℕ → Bool
is_made transfer clean cxl = list_any (recall_of_it cxl) (flat_map (recalls_made_by transfer) clean)

-- What the clean messages on a transfer say of one of its recalls: whether one names it, whether one makes it, the amount
-- of a return, the reason of a refusal, and whether one asks for its status.
pub record RecallFacts : Type 0 where
  pub named : Bool
  pub made : Bool
  pub returned : Option ℕ
  pub refused : Option Reason
  pub chased : Bool

abbrev pub recall_facts_of : TransferKey → List Draft → List ℕ → RecallFacts
recall_facts_of transfer clean cxl = record {
  named = is_named transfer clean cxl;
  made = is_made transfer clean cxl;
  returned = amount_returned cxl (flat_map (returns_by transfer) clean);
  refused = reason_refused cxl (flat_map (refusals_by transfer) clean);
  chased = list_any (request_of_it cxl) (flat_map (requests_by transfer) clean);
}

-- the status of a recall whose transfer has no finding: the first row that holds, or open
abbrev pub recall_standing_by : RecallFacts → RecallStatus
recall_standing_by facts =
    first_row
    (row (not facts.named) recall.Unknown
    ∷ row (not facts.made) recall.Unasked
    ∷ option_map (λ amount. recall.Returned amount) facts.returned
    ∷ option_map (λ reason. recall.Refused reason) facts.refused
    ∷ row facts.chased recall.Chased
    ∷ [])
    recall.Open

abbrev pub recall_standing_of : TransferKey → List Draft → List ℕ → RecallStatus
recall_standing_of transfer clean cxl = recall_standing_by (recall_facts_of transfer clean cxl)

-- a recall of a transfer with findings is contradicted; any other has the given status
abbrev pub first_recall : List Finding → RecallStatus → RecallStatus
first_recall found standing = first_row (if_found found recall.Contradicted ∷ []) standing

unfoldable pub recall_status_of : TransferKey → List Draft → List Identity → List ℕ → RecallStatus
recall_status_of transfer clean asides cxl =
    first_recall (findings_of transfer clean asides) (recall_standing_of transfer clean cxl)
