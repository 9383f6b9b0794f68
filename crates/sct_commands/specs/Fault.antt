-- The faults that end a run: their numbers, and how many calls of a stream failed at each. Read by an auditor.
use Rattle.std.specs.Prelude.{ℕ}
use Rattle.sct_commands.specs.declared.fault.ProgramFault.{ProgramFault}
use Rattle.sct_commands.specs.declared.fault.ProgramFault.TheVariants.{BadList, TooLong, Held, Read, Write, Usage, Memory, Refused, NoWorker, NoJournal, OtherSite, Busy, Disk}
use Rattle.sct_journal.specs.declared.error.JournalError.{JournalError}
use Rattle.sct_journal.specs.declared.error.JournalError.TheVariants as journal
use Rattle.sct_reconcile.specs.declared.fault.ReconcileFault.{ReconcileFault}
use Rattle.sct_reconcile.specs.declared.fault.ReconcileFault.TheVariants as list
use Rattle.sct_script.specs.declared.fault.ScriptFault.{ScriptFault}
use Rattle.sct_script.specs.declared.fault.ScriptFault.TheVariants as script
use Rattle.sct_streams.specs.declared.whole.ReadFault.{ReadFault}
use Rattle.sct_streams.specs.declared.whole.ReadFault.TheVariants as read
use Rattle.sct_workers.specs.declared.fault.WorkFault.{WorkFault}
use Rattle.sct_workers.specs.declared.fault.WorkFault.TheVariants as work

-- the number of a fault that ends a run
abbrev pub program_fault_number : ProgramFault → ℕ
program_fault_number (BadList row) = 48
program_fault_number TooLong = 60
program_fault_number Held = 61
program_fault_number Read = 62
program_fault_number Write = 63
program_fault_number Usage = 64
program_fault_number Memory = 65
program_fault_number (Refused number) = 66
program_fault_number NoWorker = 67
program_fault_number NoJournal = 75
program_fault_number OtherSite = 76
program_fault_number Busy = 77
program_fault_number Disk = 78

-- how many reads have failed in a run that ended with this fault
abbrev pub failed_reads : ProgramFault → ℕ
failed_reads Read = 1
failed_reads _ = 0

-- the fault of the program if an input is not read whole
abbrev pub fault_of_read : ReadFault → ProgramFault
fault_of_read read.TooLong = TooLong
fault_of_read read.Failed = Read
fault_of_read read.Memory = Memory

-- the fault of the program if a list is not read, or no report is made of it
abbrev pub fault_of_list : ReconcileFault → ProgramFault
fault_of_list (list.BadList row) = BadList row
fault_of_list list.Memory = Memory

-- the fault of the program if an input is not read as a script
abbrev pub fault_of_script : ScriptFault → ProgramFault
fault_of_script script.NoScript = Usage
fault_of_script script.Memory = Memory

-- the fault of the program, by the fault that ended the work at one of its sites
abbrev pub fault_of_work : WorkFault → ProgramFault
fault_of_work work.Held = Held
fault_of_work work.Memory = Memory
fault_of_work (work.Refused number) = Refused number
fault_of_work work.NoWorker = NoWorker

-- the fault of the program, by the error of a journal: a journal that cannot grow counts as a failed disk
abbrev pub fault_of_journal : JournalError → ProgramFault
fault_of_journal journal.Memory = Memory
fault_of_journal journal.Disk = Disk
fault_of_journal journal.Full = Disk
fault_of_journal journal.NoJournal = NoJournal
fault_of_journal journal.OtherSite = OtherSite
fault_of_journal journal.Busy = Busy
