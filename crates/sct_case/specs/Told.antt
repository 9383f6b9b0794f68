-- The findings of a transfer in the order in which they are reported, as they are computed, for auditors. It is a law
-- of this crate that each is reported exactly if its relation holds.
use Rattle.std.specs.Prelude.{ℕ, ◌&&◌, ◌==◌, List, [], ◌∷◌, ◌++◌, length, map, filter, find, not, nat_eq, nat_lt, Bool, true, false, Option, Some, None, if◌then◌else◌}
use Rattle.std.specs.List.{list_any, flat_map}
use Rattle.sct_reason.specs.Codes.{reason_text}
use Rattle.sct_message.specs.Ascending.{ascending}
use Rattle.sct_element.specs.Text.{is_text}
use Rattle.sct_message.specs.Order.{text_order}
use Rattle.sct_message.specs.declared.draft.Draft.{Draft}
use Rattle.sct_message.specs.declared.keys.Identity.{Identity}
use Rattle.sct_message.specs.declared.keys.TransferKey.{TransferKey}
use Rattle.sct_case.specs.declared.finding.Finding.{Finding}
use Rattle.sct_case.specs.declared.finding.Finding.TheVariants as finding
use Rattle.sct_case.specs.declared.said.InstructedAmount.{InstructedAmount}
use Rattle.sct_case.specs.declared.said.RejectionReason.{RejectionReason}
use Rattle.sct_case.specs.declared.said.RecallMade.{RecallMade}
use Rattle.sct_case.specs.declared.said.OriginalAmount.{OriginalAmount}
use Rattle.sct_case.specs.declared.said.ReturnMade.{ReturnMade}
use Rattle.sct_case.specs.declared.said.RefusalMade.{RefusalMade}
use Rattle.sct_case.specs.Said.{is_acceptance, instructions_by, rejections_by, recalls_made_by, amounts_by, returns_by, refusals_by}

-- ---- statements, compared in all their parts

abbrev pub same_reason : RejectionReason → RejectionReason → Bool
same_reason one other = is_text (reason_text one.reason) (reason_text other.reason)

abbrev pub same_recall_made : RecallMade → RecallMade → Bool
same_recall_made one other =
    is_text one.cxl other.cxl && nat_eq one.amount other.amount
    && is_text (reason_text one.reason) (reason_text other.reason)

abbrev pub same_return : ReturnMade → ReturnMade → Bool
same_return one other =
    is_text one.return_id other.return_id && is_text one.cxl other.cxl && nat_eq one.amount other.amount

abbrev pub same_refusal : RefusalMade → RefusalMade → Bool
same_refusal one other =
    is_text one.cxl other.cxl && is_text (reason_text one.reason) (reason_text other.reason)

-- ---- items of a list that differ

abbrev pub differ_from : {X : Type 0} → (X → Bool) → (X → X → Bool) → Option X → List X → Bool
differ_from among same None xs = false
differ_from among same (Some one) xs = list_any (λ other. among other && not (same one other)) xs

-- among the items that pass the test, one differs from the first
abbrev pub differ_among : {X : Type 0} → (X → Bool) → (X → X → Bool) → List X → Bool
differ_among among same xs = differ_from among same (find among xs) xs

abbrev pub differ : {X : Type 0} → (X → X → Bool) → List X → Bool
differ same xs = differ_among (λ x. true) same xs

-- ---- the ten tests, over the statements of the messages

abbrev pub has_some : {X : Type 0} → List X → Bool
has_some xs = not (length xs == 0)

abbrev pub has_two_instructions : List Draft → Bool
has_two_instructions clean = nat_lt 1 (length (flat_map instructions_by clean))

abbrev pub is_both_confirmed : List Draft → Bool
is_both_confirmed clean = list_any is_acceptance clean && has_some (flat_map rejections_by clean)

abbrev pub do_reasons_differ : List Draft → Bool
do_reasons_differ clean = differ same_reason (flat_map rejections_by clean)

-- there is exactly one instruction, and another amount is named
abbrev pub names_another : List InstructedAmount → List OriginalAmount → Bool
names_another [] named = false
names_another (instructed ∷ []) named = list_any (λ other. not (nat_eq other.amount instructed.amount)) named
names_another (instructed ∷ (other ∷ more)) named = false

abbrev pub does_amount_differ : TransferKey → List Draft → Bool
does_amount_differ transfer clean =
    names_another (flat_map instructions_by clean) (flat_map (amounts_by transfer) clean)

abbrev pub recall_of_it : List ℕ → RecallMade → Bool
recall_of_it cxl made = is_text made.cxl cxl

abbrev pub return_of_it : List ℕ → ReturnMade → Bool
return_of_it cxl made = is_text made.cxl cxl

abbrev pub refusal_of_it : List ℕ → RefusalMade → Bool
refusal_of_it cxl made = is_text made.cxl cxl

-- identifications, each once, ascending
abbrev pub cxls : List (List ℕ) → List (List ℕ)
cxls found = ascending text_order found

abbrev pub recalls_that_differ : List RecallMade → List (List ℕ)
recalls_that_differ made =
    filter (λ cxl. differ_among (recall_of_it cxl) same_recall_made made) (cxls (map (λ m. m.cxl) made))

abbrev pub answered_both_ways : List RefusalMade → List ReturnMade → List (List ℕ)
answered_both_ways refusals returns =
    filter (λ cxl. list_any (return_of_it cxl) returns) (cxls (map (λ m. m.cxl) refusals))

abbrev pub refusals_that_differ : List RefusalMade → List (List ℕ)
refusals_that_differ made =
    filter (λ cxl. differ_among (refusal_of_it cxl) same_refusal made) (cxls (map (λ m. m.cxl) made))

abbrev pub has_two_returns : TransferKey → List Draft → Bool
has_two_returns transfer clean = differ same_return (flat_map (returns_by transfer) clean)

abbrev pub has_return_of_rejected : TransferKey → List Draft → Bool
has_return_of_rejected transfer clean =
    has_some (flat_map (returns_by transfer) clean) && has_some (flat_map rejections_by clean)

-- ---- the list

abbrev pub where_found : Bool → Finding → List Finding
where_found holds found = if holds then found ∷ [] else []

-- the findings on the contradicted identities, the instruction and its confirmations
unfoldable pub findings_of_instruction : TransferKey → List Draft → List Identity → List Finding
findings_of_instruction transfer clean asides =
    map (λ i. finding.Identity i) asides
    ++ where_found (has_two_instructions clean) finding.TwoInstructions
    ++ where_found (is_both_confirmed clean) finding.BothConfirmed
    ++ where_found (do_reasons_differ clean) finding.ReasonsDiffer
    ++ where_found (does_amount_differ transfer clean) finding.AmountDiffers

-- the findings on each recall, ascending
abbrev pub recall_findings : TransferKey → List Draft → List Finding
recall_findings transfer clean =
    map (λ c. finding.RecallsDiffer c) (recalls_that_differ (flat_map (recalls_made_by transfer) clean))

abbrev pub answer_findings : TransferKey → List Draft → List Finding
answer_findings transfer clean =
    map (λ c. finding.BothAnswers c) (answered_both_ways (flat_map (refusals_by transfer) clean) (flat_map (returns_by transfer) clean))

abbrev pub refusal_findings : TransferKey → List Draft → List Finding
refusal_findings transfer clean =
    map (λ c. finding.RefusalsDiffer c) (refusals_that_differ (flat_map (refusals_by transfer) clean))

-- the findings on the recalls and their answers
unfoldable pub findings_of_recalls : TransferKey → List Draft → List Finding
findings_of_recalls transfer clean =
    recall_findings transfer clean
    ++ answer_findings transfer clean
    ++ refusal_findings transfer clean
    ++ where_found (has_two_returns transfer clean) finding.TwoReturns
    ++ where_found (has_return_of_rejected transfer clean) finding.ReturnOfRejected

-- all findings of a transfer
unfoldable pub findings_of : TransferKey → List Draft → List Identity → List Finding
findings_of transfer clean asides =
    findings_of_instruction transfer clean asides ++ findings_of_recalls transfer clean
