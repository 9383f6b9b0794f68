-- The faults of an embedded site: the number and the place of each, and which fault of another crate becomes which.
-- Read by an auditor.
use Rattle.std.specs.Prelude.{ℕ}
use Rattle.sct_json.specs.Faults.{json_fault_number}
use Rattle.sct_json.specs.declared.faults.JsonFault.{JsonFault}
use Rattle.sct_json.specs.declared.faults.JsonFault.TheVariants as json
use Rattle.sct_delta.specs.Faults.{delta_fault_number}
use Rattle.sct_delta.specs.declared.fault.DeltaFault.{DeltaFault}
use Rattle.sct_delta.specs.declared.fault.DeltaFault.TheVariants as delta
use Rattle.sct_embed.specs.declared.faults.EmbedFault.{EmbedFault}
use Rattle.sct_reconcile.specs.declared.fault.ReconcileFault.{ReconcileFault}
use Rattle.sct_reconcile.specs.declared.fault.ReconcileFault.TheVariants as list
use Rattle.sct_rights.specs.declared.permission.Permission.{Permission}
use Rattle.sct_rights.specs.declared.permission.Permission.TheVariants as permission
use Rattle.sct_embed.specs.declared.faults.EmbedFault.TheVariants.{Message, Delta, BadList, Memory, Empty, Full, BadVector, BadArgument, NotYours, Withheld, Snapshot}

-- the number of why a message may not be sent; 0 if it may
abbrev pub permission_number : Permission → ℕ
permission_number permission.Allowed = 0
permission_number permission.NotSender = 81
permission_number (permission.NotOriginator place) = 82
permission_number permission.NotBeneficiary = 83
permission_number (permission.Waits transfer) = 84

-- the number of a fault
abbrev pub embed_fault_number : EmbedFault → ℕ
embed_fault_number (Message reason) = json_fault_number reason
embed_fault_number (Delta reason) = delta_fault_number reason
embed_fault_number (BadList row) = 48
embed_fault_number Memory = 65
embed_fault_number Empty = 70
embed_fault_number Full = 71
embed_fault_number BadVector = 72
embed_fault_number (BadArgument place) = 73
embed_fault_number NotYours = 79
embed_fault_number (Withheld reason) = permission_number reason
embed_fault_number Snapshot = 85

-- where a fault is: the transaction of a message, the line of a delta text, the record of a list, the argument of the
-- call; else 0. Of a message that may not be sent it is the first transaction with another originator bank
abbrev pub embed_fault_place : EmbedFault → ℕ
embed_fault_place (Message (json.BadTransactions place)) = place
embed_fault_place (Message (json.At place reason)) = place
embed_fault_place (Delta (delta.BadDelta line)) = line
embed_fault_place (BadList row) = row
embed_fault_place (BadArgument place) = place
embed_fault_place (Withheld (permission.NotOriginator place)) = place
embed_fault_place other = 0

-- the fault, if a message is not read
abbrev pub embed_fault_of_json : JsonFault → EmbedFault
embed_fault_of_json json.Memory = Memory
embed_fault_of_json reason = Message reason

-- the fault, if a delta is not read or not accepted
abbrev pub embed_fault_of_delta : DeltaFault → EmbedFault
embed_fault_of_delta delta.Memory = Memory
embed_fault_of_delta reason = Delta reason

-- the fault, if a list is not read or a report is not made
abbrev pub embed_fault_of_list : ReconcileFault → EmbedFault
embed_fault_of_list list.Memory = Memory
embed_fault_of_list (list.BadList row) = BadList row
