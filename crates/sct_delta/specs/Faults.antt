-- The numbers of faults and their texts. Read by an auditor.
use Rattle.std.specs.Prelude.{ℕ, List, ◌++◌, codes, decimal}
use Rattle.sct_delta.specs.declared.fault.DeltaFault.{DeltaFault}
use Rattle.sct_delta.specs.declared.fault.DeltaFault.TheVariants as fault

-- the number of a fault
abbrev pub delta_fault_number : DeltaFault → ℕ
delta_fault_number fault.Memory = 40
delta_fault_number (fault.Gap origin have first) = 41
delta_fault_number (fault.Fork origin n) = 42
delta_fault_number (fault.OwnAhead n) = 43
delta_fault_number fault.BadSite = 44
delta_fault_number (fault.BadDelta line) = 45

-- the number of a fault and its fields, with the separator between each two
unfoldable pub fields_of_fault : List ℕ → DeltaFault → List ℕ
fields_of_fault separator fault.Memory = codes "40"
fields_of_fault separator (fault.Gap origin have first) =
    codes "41" ++ separator ++ decimal origin ++ separator ++ decimal have ++ separator ++ decimal first
fields_of_fault separator (fault.Fork origin n) = codes "42" ++ separator ++ decimal origin ++ separator ++ decimal n
fields_of_fault separator (fault.OwnAhead n) = codes "43" ++ separator ++ decimal n
fields_of_fault separator fault.BadSite = codes "44"
fields_of_fault separator (fault.BadDelta line) = codes "45" ++ separator ++ decimal line
