-- A request that is done as the task of its files. Proof plumbing.
use Rattle.std.proofs.Common.{◌≡◌, ℕ, ◌+◌, Bool, List, Option, Result, Ok, Err, refl, ap}
use Rattle.std.specs.Result.{IsErrAnd}
use Rattle.sct_journal.specs.declared.error.JournalError.{JournalError}
use Rattle.sct_commands.specs.Fault.{failed_reads}
use Rattle.sct_engine.specs.Run.{IsDoneAsAsked, IsPerformed}
use Rattle.sct_commands.specs.Stream.{Streams}
use Rattle.sct_commands.specs.Tasks.{EndsFilesOf, IsTaskOf, Task}
use Rattle.sct_commands.specs.declared.ending.Ending.{Ending}
use Rattle.sct_commands.specs.declared.fault.ProgramFault.{ProgramFault}
use Rattle.sct_commands.specs.declared.request.Request.{Request}

-- its files were read, and the task is performed
pub as_task : {D : Type 0} (seen : D → List ℕ) (may_leave : D → List ℕ → Type 0) (is_clean : D → Bool) (faults : D → ℕ) (holds : List ℕ → List ℕ) (fails : List ℕ → JournalError → Type 0) (left left_now : Option D)
    (gives : List ℕ → Option (List ℕ)) (failed failed_now : ℕ) (request : Request) (task : Task) (before after : Streams) (ended : Result Ending ProgramFault)
    → IsTaskOf gives request task → failed_now ≡ failed → IsPerformed seen may_leave is_clean faults holds fails left left_now task before after ended
    → IsDoneAsAsked seen may_leave is_clean faults holds fails left left_now gives failed failed_now request before after ended
as_task seen may_leave is_clean faults holds fails left left_now gives failed failed_now request task before after ended is quiet done =
    record { prepared = Ok task; is_prepared = (is, quiet); is_answered = done }

-- a file of it could not be read, which ends the run
pub unread : {D : Type 0} (seen : D → List ℕ) (may_leave : D → List ℕ → Type 0) (is_clean : D → Bool) (faults : D → ℕ) (holds : List ℕ → List ℕ) (fails : List ℕ → JournalError → Type 0) (left : Option D)
    (gives : List ℕ → Option (List ℕ)) (failed failed_now : ℕ) (request : Request) (f : ProgramFault) (before : Streams) (ended : Result Ending ProgramFault)
    → EndsFilesOf gives request f → failed_now ≡ failed + failed_reads f → IsErrAnd ended (λ e. e ≡ f)
    → IsDoneAsAsked seen may_leave is_clean faults holds fails left left gives failed failed_now request before before ended
unread seen may_leave is_clean faults holds fails left gives failed failed_now request f before (Ok ending) ends counted is = absurd is
unread seen may_leave is_clean faults holds fails left gives failed failed_now request f before (Err e) ends counted is =
    record { prepared = Err f; is_prepared = (ends, counted); is_answered = (ap Err is, refl, refl) }
