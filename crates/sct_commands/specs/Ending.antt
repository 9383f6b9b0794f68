-- The end of a run: its exit status, and the text on standard error about it. Read by an auditor.
use Rattle.std.specs.Prelude.{ℕ, List, [], ◌∷◌, ◌++◌, ◌==◌, if◌then◌else◌, codes, string_bytes, Result, Ok, Err}
use Rattle.std.specs.Fmt.{decimal}
use Rattle.std.specs.declared.io.ErrorKind.{ErrorKind}
use Rattle.std.specs.declared.io.ErrorKind.TheVariants.{OutOfMemory}
use Rattle.sct_commands.specs.Fault.{program_fault_number}
use Rattle.sct_commands.specs.declared.ending.Ending.{Ending}
use Rattle.sct_commands.specs.declared.ending.Ending.TheVariants as ending
use Rattle.sct_commands.specs.declared.fault.ProgramFault.{ProgramFault}
use Rattle.sct_commands.specs.declared.fault.ProgramFault.TheVariants as fault

-- the exit status: 0 if every line was taken, a site was served to the end of its requests or help was shown, 1 if some line was
-- refused, 3 for out of memory, and 2 for any other fault, a mistake in the command line included
abbrev pub exit_status_of : Result Ending ProgramFault → ℕ
exit_status_of (Ok (ending.Done done)) = if done.refused == 0 then 0 else 1
exit_status_of (Ok ending.Served) = 0
exit_status_of (Ok ending.Helped) = 0
exit_status_of (Ok (ending.Mistaken text)) = 2
exit_status_of (Err fault.Memory) = 3
exit_status_of (Err _) = 2

-- the faults that may end a run before the command line is known
abbrev pub EndsAsking : ProgramFault → Type 0
EndsAsking fault.Usage = Unit {0}
EndsAsking fault.Memory = Unit {0}
EndsAsking _ = ⊥

-- the fault if the words of the command line could not be read
abbrev pub words_fault : ErrorKind → ProgramFault
words_fault OutOfMemory = fault.Memory
words_fault _ = fault.Usage

-- what follows the number of a fault: the row of a bad list, or the number of the refusal at a site
abbrev pub fault_arguments_of : ProgramFault → List ℕ
fault_arguments_of (fault.BadList row) = codes " " ++ decimal row
fault_arguments_of (fault.Refused number) = codes " " ++ decimal number
fault_arguments_of _ = []

-- the line that reports a fault by its number
abbrev pub fault_line_of : ProgramFault → List ℕ
fault_line_of fault = codes "fault " ++ decimal (program_fault_number fault) ++ fault_arguments_of fault ++ 10 ∷ []

-- what standard error gets at the end of a run, besides the refused lines: nothing for a finished job, for a site that was served and for help,
-- fault 64 and the text that says why for a mistake in the command line, and the number of any other fault
abbrev pub ending_text_of : Result Ending ProgramFault → List ℕ
ending_text_of (Ok (ending.Done done)) = []
ending_text_of (Ok ending.Served) = []
ending_text_of (Ok ending.Helped) = []
ending_text_of (Ok (ending.Mistaken text)) = fault_line_of fault.Usage ++ string_bytes text
ending_text_of (Err fault) = fault_line_of fault
