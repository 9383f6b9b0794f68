-- What ends the settling of inputs. Proof plumbing.
use Rattle.sct_commands.specs.Runs.{RunEndsWhere}
use Rattle.sct_commands.specs.Tasks.{EndsSettling}
use Rattle.sct_commands.specs.declared.fault.ProgramFault.{ProgramFault}
use Rattle.sct_commands.specs.declared.fault.ProgramFault.TheVariants as fault

-- where no gate may hold a worker, none was held
pub ends_settling : (f : ProgramFault) → RunEndsWhere (λ point. ⊥) f → EndsSettling f
ends_settling fault.Usage ends = tt
ends_settling fault.Held ends = absurd ends.1
ends_settling fault.Memory ends = tt
ends_settling (fault.Refused number) ends = ends
ends_settling fault.NoWorker ends = tt
ends_settling (fault.BadList row) ends = absurd ends
ends_settling fault.TooLong ends = absurd ends
ends_settling fault.Read ends = absurd ends
ends_settling fault.Write ends = absurd ends
ends_settling fault.NoJournal ends = absurd ends
ends_settling fault.OtherSite ends = absurd ends
ends_settling fault.Busy ends = absurd ends
ends_settling fault.Disk ends = absurd ends
