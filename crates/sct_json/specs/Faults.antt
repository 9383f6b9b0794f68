-- The numbers by which a refused object is told, and faults of an element of a list. Read by an auditor.
use Rattle.std.specs.Prelude.{ℕ}
use Rattle.sct_json.specs.declared.faults.KeyFault.{KeyFault}
use Rattle.sct_json.specs.declared.faults.KeyFault.TheVariants as key_fault
use Rattle.sct_json.specs.declared.faults.JsonFault.{JsonFault}
use Rattle.sct_json.specs.declared.faults.JsonFault.TheVariants.{Memory, NotJson, NotObject, UnknownKind, Missing, NotText, Element, Extra, Rule, BadTransactions, At}

abbrev pub key_fault_number : KeyFault → ℕ
key_fault_number (key_fault.Missing key) = 34
key_fault_number (key_fault.NotText key) = 35
key_fault_number (key_fault.Element key fault) = 36
key_fault_number (key_fault.Extra name) = 37

abbrev pub json_fault_number : JsonFault → ℕ
json_fault_number Memory = 30
json_fault_number NotJson = 31
json_fault_number NotObject = 32
json_fault_number UnknownKind = 33
json_fault_number (Missing key) = 34
json_fault_number (NotText key) = 35
json_fault_number (Element key fault) = 36
json_fault_number (Extra name) = 37
json_fault_number (Rule fault) = 38
json_fault_number (BadTransactions place) = 46
json_fault_number (At place fault) = 56

-- a fault of an object's keys, as one of the element at a place of a list; another fault stays as it is
abbrev pub placed : ℕ → JsonFault → JsonFault
placed place (Missing key) = At place (key_fault.Missing key)
placed place (NotText key) = At place (key_fault.NotText key)
placed place (Element key fault) = At place (key_fault.Element key fault)
placed place (Extra name) = At place (key_fault.Extra name)
placed place other = other
