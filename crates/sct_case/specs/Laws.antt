-- Laws of findings and statuses, for all messages, for auditors. Each law is the contract of a function.
use Rattle.std.specs.FinSet as set
use Rattle.std.specs.Prelude.{◌≡◌, ◌≢◌, ◌↔◌, ⊤, ℕ, true, List, [], ◌∷◌, Contains}
use Rattle.std.specs.List.Sorted.{IsStrictlySortedBy}
use Rattle.std.specs.Ordering.{nat_cmp, ordering_then}
use Rattle.std.specs.declared.cmp.Ordering.{Ordering}
use Rattle.std.specs.declared.cmp.Ordering.TheVariants.{Equal}
use Rattle.sct_message.specs.Keys.{identity_of}
use Rattle.sct_message.specs.Order.{identity_order, text_order}
use Rattle.sct_message.specs.Sets.{MessageSet}
use Rattle.sct_message.specs.Transfers.{messages_on, asides_of}
use Rattle.sct_message.specs.declared.draft.Draft.{Draft}
use Rattle.sct_message.specs.declared.keys.Identity.{Identity}
use Rattle.sct_message.specs.declared.keys.TransferKey.{TransferKey}
use Rattle.sct_case.specs.declared.finding.Finding.{Finding}
use Rattle.sct_case.specs.declared.finding.Finding.TheVariants as finding
use Rattle.sct_case.specs.declared.said.RejectionReason.{RejectionReason}
use Rattle.sct_case.specs.declared.said.ReturnMade.{ReturnMade}
use Rattle.sct_case.specs.declared.said.RefusalMade.{RefusalMade}
use Rattle.sct_case.specs.Said.{IsSaid, rejections_by, returns_by, refusals_by}
use Rattle.sct_case.specs.Findings.{IsFound}
use Rattle.sct_case.specs.Told.{findings_of}

-- no two of the messages have the same identity, so no message is among them twice
abbrev pub HaveDistinctIdentities : List Draft → Type 0
HaveDistinctIdentities [] = ⊤
HaveDistinctIdentities (m ∷ ms) = ((n : Draft) → Contains ms n → identity_of m ≢ identity_of n) × HaveDistinctIdentities ms

-- a finding is reported exactly if its relation holds
abbrev pub TellsExactly : Type 0
TellsExactly = (transfer : TransferKey) (clean : List Draft) (asides : List Identity) → HaveDistinctIdentities clean
    → (found : Finding) → Contains (findings_of transfer clean asides) found
    ↔ IsFound transfer clean asides found

-- ---- the order of findings: by their place in the list of findings, and in one place by what they name

abbrev pub place : Finding → ℕ
place (finding.Identity i) = 1
place finding.TwoInstructions = 2
place finding.BothConfirmed = 3
place finding.ReasonsDiffer = 4
place finding.AmountDiffers = 5
place (finding.RecallsDiffer c) = 6
place (finding.BothAnswers c) = 7
place (finding.RefusalsDiffer c) = 8
place finding.TwoReturns = 9
place finding.ReturnOfRejected = 10

abbrev pub named_order : Finding → Finding → Ordering
named_order (finding.Identity i) (finding.Identity j) = identity_order i j
named_order (finding.RecallsDiffer c) (finding.RecallsDiffer d) = text_order c d
named_order (finding.BothAnswers c) (finding.BothAnswers d) = text_order c d
named_order (finding.RefusalsDiffer c) (finding.RefusalsDiffer d) = text_order c d
named_order f g = Equal

abbrev pub finding_order : Finding → Finding → Ordering
finding_order f g = ordering_then (nat_cmp (place f) (place g)) (named_order f g)

-- findings are reported in that order, each once
abbrev pub TellsFindingsInOrder : Type 0
TellsFindingsInOrder =
    (transfer : TransferKey) (clean : List Draft) (asides : List Identity)
    → IsStrictlySortedBy identity_order asides
    → IsStrictlySortedBy finding_order (findings_of transfer clean asides)

-- ---- sets

-- the findings of a transfer in a set of messages
abbrev pub findings_in : MessageSet → TransferKey → List Finding
findings_in held transfer = findings_of transfer (messages_on held transfer) (asides_of held transfer)

-- every message of the first set is in the second
abbrev pub IsWithin : MessageSet → MessageSet → Type 0
IsWithin held larger = (m : Draft) → set.contains held m ≡ true → set.contains larger m ≡ true

-- a contradiction stays: a transfer that is contradicted in a set is contradicted in every larger one
abbrev pub ContradictionsStay : Type 0
ContradictionsStay =
    (held larger : MessageSet) (transfer : TransferKey) → IsWithin held larger
    → findings_in held transfer ≢ [] → findings_in larger transfer ≢ []

-- in a set the messages on a transfer have no identity twice
abbrev pub MessagesAreApart : Type 0
MessagesAreApart = (held : MessageSet) (transfer : TransferKey) → HaveDistinctIdentities (messages_on held transfer)

-- ---- transfers without findings

-- all rejections give one reason, all returns are equal, and all refusals of one recall give one reason
pub record SaysOneThing (transfer : TransferKey) (clean : List Draft) : Type 0 where
  pub rejections : (one other : RejectionReason) → IsSaid rejections_by clean one
      → IsSaid rejections_by clean other → one ≡ other
  pub returns : (one other : ReturnMade) → IsSaid (returns_by transfer) clean one
      → IsSaid (returns_by transfer) clean other → one ≡ other
  pub refusals : (one other : RefusalMade) → IsSaid (refusals_by transfer) clean one
      → IsSaid (refusals_by transfer) clean other → one.cxl ≡ other.cxl → one ≡ other

abbrev pub ConsistentSayOneThing : Type 0
ConsistentSayOneThing = (transfer : TransferKey) (clean : List Draft) (asides : List Identity) → HaveDistinctIdentities clean
    → findings_of transfer clean asides ≡ [] → SaysOneThing transfer clean
