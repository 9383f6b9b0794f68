-- The faults of workers: their numbers, and the faults that a desk and a delta may end a
-- worker with. Read by an auditor.
use Rattle.std.specs.Prelude.{◌≡◌, ◌≤◌, ◌⊎◌, ℕ, List}
use Rattle.sct_delta.specs.Faults.{delta_fault_number}
use Rattle.sct_delta.specs.declared.fault.DeltaFault.{DeltaFault}
use Rattle.sct_delta.specs.declared.fault.DeltaFault.TheVariants as delta
use Rattle.sct_desk.specs.Faults.{desk_fault_number}
use Rattle.sct_desk.specs.Passes.{Told}
use Rattle.sct_desk.specs.Tilings.{FailsToClose}
use Rattle.sct_desk.specs.declared.fault.DeskFault.{DeskFault}
use Rattle.sct_desk.specs.declared.fault.DeskFault.TheVariants as desk
use Rattle.sct_workers.specs.declared.fault.WorkFault.{WorkFault}
use Rattle.sct_workers.specs.declared.fault.WorkFault.TheVariants as fault

-- the number of a fault
abbrev pub work_fault_number : WorkFault → ℕ
work_fault_number fault.Held = 61
work_fault_number fault.Memory = 65
work_fault_number (fault.Refused number) = 66
work_fault_number fault.NoWorker = 67

-- the fault of a worker whose desk refuses a call: out of memory (50, 51), or any other refusal with its number
abbrev pub fault_of_desk : DeskFault → WorkFault
fault_of_desk desk.Memory = fault.Memory
fault_of_desk (desk.Unpublished from) = fault.Memory
fault_of_desk refusal = fault.Refused (desk_fault_number refusal)

-- the fault of a worker whose site, entry or delta is refused: out of memory (40), or any other refusal with its number
abbrev pub fault_of_delta : DeltaFault → WorkFault
fault_of_delta delta.Memory = fault.Memory
fault_of_delta refusal = fault.Refused (delta_fault_number refusal)

-- the refusal to close a desk: 53 or 54
abbrev pub IsNotClosed : WorkFault → Type 0
IsNotClosed refusal = (refusal ≡ fault.Refused 53) ⊎ (refusal ≡ fault.Refused 54)

-- The desk of this site refused to be closed with these receipts, and the worker's fault is that refusal: 53 if an
-- arrival is pending, else 54 if a position is not covered by exactly one of the receipts.
pub record IsRefusalToClose (number : ℕ) (receipts : List Told) (reason : WorkFault) : Type 0 where
  pub refusal : DeskFault
  pub fails : FailsToClose number receipts refusal
  pub told_by : reason ≡ fault_of_desk refusal

-- The numbers with which a call is refused (66): 42 to 44 for an entry, a delta or a site, and
-- 52 to 55 for a desk. There are no others.
abbrev pub IsRefusalNumber : ℕ → Type 0
IsRefusalNumber number = ((42 ≤ number) × (number ≤ 44)) ⊎ ((52 ≤ number) × (number ≤ 55))
