-- The numbers of faults. Read by an auditor.
use Rattle.std.specs.Prelude.{ℕ}
use Rattle.sct_desk.specs.declared.fault.DeskFault.{DeskFault}
use Rattle.sct_desk.specs.declared.fault.DeskFault.TheVariants as fault

-- the number of a fault
abbrev pub desk_fault_number : DeskFault → ℕ
desk_fault_number fault.BadSite = 44
desk_fault_number fault.Memory = 50
desk_fault_number (fault.Unpublished from) = 51
desk_fault_number fault.NoPlace = 52
desk_fault_number (fault.Pending from) = 53
desk_fault_number (fault.Untold position) = 54
desk_fault_number fault.Closed = 55
