-- Messages passed in any order give the same answers, for auditors.
use Rattle.std.specs.Prelude.{◌≡◌, ◌↔◌, ℕ, List, Contains}
use Rattle.std.specs.List.Sorted.{IsStrictlySortedBy}
use Rattle.sct_message.specs.Order.{identity_order}
use Rattle.sct_message.specs.declared.draft.Draft.{Draft}
use Rattle.sct_message.specs.declared.keys.Identity.{Identity}
use Rattle.sct_message.specs.declared.keys.TransferKey.{TransferKey}
use Rattle.sct_case.specs.Told.{findings_of}
use Rattle.sct_case.specs.Statuses.{transfer_status_of, recall_status_of}
use Rattle.sct_case.specs.Laws.{HaveDistinctIdentities}

-- the lists have the same messages
abbrev pub AreEqualAsSets : List Draft → List Draft → Type 0
AreEqualAsSets clean other = (m : Draft) → Contains clean m ↔ Contains other m

-- The same messages in another order have the same findings and statuses.
pub record AnswersAlike (transfer : TransferKey) (clean other : List Draft) (asides : List Identity) : Type 0 where
  pub findings : findings_of transfer clean asides ≡ findings_of transfer other asides
  pub status : transfer_status_of transfer clean asides ≡ transfer_status_of transfer other asides
  pub recalls : (cxl : List ℕ)
      → recall_status_of transfer clean asides cxl ≡ recall_status_of transfer other asides cxl

abbrev pub AnswersInAnyOrder : Type 0
AnswersInAnyOrder =
    (transfer : TransferKey) (clean other : List Draft) (asides : List Identity) → HaveDistinctIdentities clean
    → HaveDistinctIdentities other
    → IsStrictlySortedBy identity_order asides → AreEqualAsSets clean other
    → AnswersAlike transfer clean other asides
