-- The faults that end the serving of a site, as faults of the program. Read by an auditor.
use Rattle.sct_keeper.specs.declared.fault.KeeperError.{KeeperError}
use Rattle.sct_keeper.specs.declared.fault.KeeperError.TheVariants as keeper
use Rattle.sct_serve.specs.declared.fault.ServeFault.{ServeFault}
use Rattle.sct_serve.specs.declared.fault.ServeFault.TheVariants as serve
use Rattle.sct_commands.specs.Fault.{fault_of_journal}
use Rattle.sct_commands.specs.declared.fault.ProgramFault.{ProgramFault}
use Rattle.sct_commands.specs.declared.fault.ProgramFault.TheVariants.{TooLong, Read, Write, Usage, Memory}

-- the fault of the program, by the error of a site with a journal
abbrev pub fault_of_keeper : KeeperError → ProgramFault
fault_of_keeper keeper.Memory = Memory
fault_of_keeper keeper.BadSite = Usage
fault_of_keeper (keeper.Journal error) = fault_of_journal error

-- by the fault that ended the serving of a site
abbrev pub fault_of_serve : ServeFault → ProgramFault
fault_of_serve serve.Memory = Memory
fault_of_serve serve.TooLong = TooLong
fault_of_serve serve.Read = Read
fault_of_serve serve.Write = Write
fault_of_serve (serve.Keeper error) = fault_of_keeper error
