-- Read by an auditor: the number of each fault of an element.
use Rattle.std.specs.Prelude.{ℕ}
use Rattle.sct_element.specs.declared.faults.ElementFault.{ElementFault}
use Rattle.sct_element.specs.declared.faults.ElementFault.TheVariants.{BadBic, BadIban, BadId, BadAmount, BadDay, BadText, BadStamp, Memory, BadCode}

abbrev pub element_fault_number : ElementFault → ℕ
element_fault_number BadBic = 1
element_fault_number BadIban = 2
element_fault_number BadId = 3
element_fault_number BadAmount = 4
element_fault_number BadDay = 5
element_fault_number BadText = 6
element_fault_number BadStamp = 7
element_fault_number Memory = 8
element_fault_number BadCode = 9
