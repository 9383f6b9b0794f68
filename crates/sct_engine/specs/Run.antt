-- One run of the program: its request, its answer and its report. Read by an auditor.
use Rattle.std.specs.Prelude.{ℕ, ◌≡◌, ◌≢◌, ◌+◌, ◌≤◌, Bool, false, List, length, map, Option, Some, Result, Ok, Err, IfOk, IfErr, IfSome, OnOk, Vec, String, string_bytes}
use Rattle.std.specs.declared.alloc.Global.{Global}
use Rattle.sct_journal.specs.declared.error.JournalError.{JournalError}
use Rattle.sct_commands.specs.declared.ending.Ending.{Ending}
use Rattle.sct_commands.specs.declared.fault.ProgramFault.{ProgramFault}
use Rattle.sct_commands.specs.declared.fault.ProgramFault.TheVariants as fault
use Rattle.sct_commands.specs.declared.request.Request.{Request}
use Rattle.sct_commands.specs.CommandLine.{AreAsking}
use Rattle.sct_commands.specs.Ending.{ending_text_of, exit_status_of}
use Rattle.sct_commands.specs.Engine.{AreCutOff, EndsWork, IsRefusedInput, StandsOnList}
use Rattle.sct_commands.specs.Exchanging.{is_possible, EndsExchange}
use Rattle.sct_commands.specs.Fault.{failed_reads}
use Rattle.sct_engine.specs.Serves.{IsServed}
use Rattle.sct_commands.specs.Stream.{Streams}
use Rattle.sct_commands.specs.Tasks.{bad_row_in, out_text_of, refusals_text_of, EndsSettling, IsEndingOf, IsPrepared, LeavesInput, ReadsInput, TakesInput, Task}
use Rattle.sct_commands.specs.Tasks as task
use Rattle.sct_commands.specs.Runs.{are_sites}
use Rattle.sct_streams.specs.Stream.{HasTakenIfTold, Input, IsWritten, IsWrittenOrCutOff}

-- the words of a command line as texts, or the fault by which they could not be read
abbrev pub words_told : Result (Vec (String Global) Global) ProgramFault → Result (List (List ℕ)) ProgramFault
words_told (Ok words) = Ok (map string_bytes words.items)
words_told (Err fault) = Err fault

-- nothing was written between the two moments
pub record IsUnwritten (before after : Streams) : Type 0 where
  pub out : after.out ≡ before.out
  pub err : after.err ≡ before.err

-- the task cannot be done: standard input was read whole and the job does not take it, the inputs cannot be run, or there is
-- no such site
abbrev pub CannotBeDone : Task → Input → Input → Type 0
CannotBeDone (task.work job) before after = IsRefusedInput job 1073741824 before after
CannotBeDone (task.settle inputs) before after = are_sites (length inputs.items) ≡ false
CannotBeDone (task.exchange gathered) before after = is_possible gathered ≡ false
CannotBeDone _ before after = ⊥

-- the faults that may end a task that has its files: a help and a mistake only by a failed write
abbrev pub EndsTask : Task → ProgramFault → Type 0
EndsTask (task.work job) fault = EndsWork fault
EndsTask (task.settle inputs) fault = EndsSettling fault
EndsTask (task.exchange gathered) fault = EndsExchange fault
EndsTask (task.help text) fault.Write = Unit {0}
EndsTask (task.mistake text) fault.Write = Unit {0}
EndsTask _ fault = ⊥

-- how a task is answered, from the streams before to the streams after: the text on standard output, the refused lines
-- on standard error, the input that was read, and the cases of each fault. An input has at most 1,073,741,824 bytes.
pub record IsAnswered (task : Task) (before after : Streams) (ended : Result Ending ProgramFault) : Type 0 where
  pub ending : IfOk ended (IsEndingOf task before.input.left)
  pub printed : OnOk ended (IsWritten before.out after.out (out_text_of task before.input.left))
  pub told : OnOk ended (IsWritten before.err after.err (refusals_text_of task before.input.left))
  pub read : OnOk ended (ReadsInput task before.input after.input)
  pub taken : OnOk ended (IfSome before.input.left (TakesInput task))
  pub usage : ended ≡ Err fault.Usage → CannotBeDone task before.input after.input
  pub list : StandsOnList (bad_row_in task) ended
  pub unlisted : (row : ℕ) → ended ≡ Err (fault.BadList row) → after.input.left ≡ before.input.left
  pub too_long : ended ≡ Err fault.TooLong → HasTakenIfTold before.input.left after.input.left 1073741825
  pub cut_input : ended ≡ Err fault.Read → (n : ℕ) × ((n ≤ 1073741824) × HasTakenIfTold before.input.left after.input.left n)
  pub reads : OnOk ended (after.input.failures ≡ before.input.failures)
  pub failed_read : IfErr ended (λ e. after.input.failures ≡ before.input.failures + failed_reads e)
  pub left : LeavesInput task → after.input ≡ before.input
  pub cut_off : ended ≡ Err fault.Write
      → AreCutOff before.err after.err before.out after.out
      (refusals_text_of task before.input.left) (out_text_of task before.input.left)
  pub unwritten : IfErr ended (λ e. e ≢ fault.Write → IsUnwritten before after)
  pub ends : IfErr ended (EndsTask task)

-- the task of a request with the bytes of its files; a command line that could not be read, or
-- that asks for nothing, ends the run at once, and no file is read
abbrev pub IsPreparedIfAsked : (List ℕ → Option (List ℕ)) → ℕ → ℕ → Result Request ProgramFault → Result Task ProgramFault → Type 0
IsPreparedIfAsked gives failed failed_now (Ok request) prepared = IsPrepared gives failed failed_now request prepared
IsPreparedIfAsked gives failed failed_now (Err fault) prepared = (prepared ≡ Err fault) × (failed_now ≡ failed)

-- a task is performed: a site is served, and each other task is answered. The first six words are of disks: what a file holds,
-- what a crash may leave of it, whether no read of it was wrong, how many of its calls failed, what the file at a path holds, and how
-- the opening of a path fails. The next two are the disk that is handed back, before and after: a site that is served hands its own
-- back, and no other task changes it.
abbrev pub IsPerformed : {D : Type 0} → (D → List ℕ) → (D → List ℕ → Type 0) → (D → Bool) → (D → ℕ) → (List ℕ → List ℕ) → (List ℕ → JournalError → Type 0) → Option D → Option D → Task → Streams → Streams → Result Ending ProgramFault → Type 0
IsPerformed seen may_leave is_clean faults holds fails left left_now (task.serve command) before after ended =
    IsServed seen may_leave is_clean faults holds fails left left_now command before after ended
IsPerformed seen may_leave is_clean faults holds fails left left_now task before after ended = IsAnswered task before after ended × (left_now ≡ left)

-- the answer to that task; files that could not be read end the run at once
abbrev pub IsAnsweredIfPrepared : {D : Type 0} → (D → List ℕ) → (D → List ℕ → Type 0) → (D → Bool) → (D → ℕ) → (List ℕ → List ℕ) → (List ℕ → JournalError → Type 0) → Option D → Option D → Result Task ProgramFault → Streams → Streams → Result Ending ProgramFault → Type 0
IsAnsweredIfPrepared seen may_leave is_clean faults holds fails left left_now (Ok task) before after ended =
    IsPerformed seen may_leave is_clean faults holds fails left left_now task before after ended
IsAnsweredIfPrepared seen may_leave is_clean faults holds fails left left_now (Err fault) before after ended = (ended ≡ Err fault) × (after ≡ before) × (left_now ≡ left)

-- A request is performed: its files are read, and then the task that it is with their bytes is performed. The two numbers are of the
-- opens and reads of files that failed, before and after.
pub record IsDoneAsAsked {D : Type 0} (seen : D → List ℕ) (may_leave : D → List ℕ → Type 0) (is_clean : D → Bool) (faults : D → ℕ) (holds : List ℕ → List ℕ) (fails : List ℕ → JournalError → Type 0) (left left_now : Option D) (gives : List ℕ → Option (List ℕ)) (failed failed_now : ℕ) (request : Request) (before after : Streams) (ended : Result Ending ProgramFault) : Type 0 where
  pub prepared : Result Task ProgramFault
  pub is_prepared : IsPrepared gives failed failed_now request prepared
  pub is_answered : IsAnsweredIfPrepared seen may_leave is_clean faults holds fails left left_now prepared before after ended

-- the request of the words of a command line, if these could be read
abbrev pub IsAskedBy : Result (List (List ℕ)) ProgramFault → Result Request ProgramFault → Type 0
IsAskedBy (Err fault) asked = asked ≡ Err fault
IsAskedBy (Ok words) asked = AreAsking words asked

-- The answer to the words of a command line: that to the task of their request. The two numbers are of the opens and
-- reads of files that failed, before and after.
pub record IsAnsweredTo {D : Type 0} (seen : D → List ℕ) (may_leave : D → List ℕ → Type 0) (is_clean : D → Bool) (faults : D → ℕ) (holds : List ℕ → List ℕ) (fails : List ℕ → JournalError → Type 0) (left left_now : Option D) (gives : List ℕ → Option (List ℕ)) (failed failed_now : ℕ) (words : Result (List (List ℕ)) ProgramFault) (before after : Streams) (ended : Result Ending ProgramFault) : Type 0 where
  pub asked : Result Request ProgramFault
  pub prepared : Result Task ProgramFault
  pub is_asked : IsAskedBy words asked
  pub is_prepared : IsPreparedIfAsked gives failed failed_now asked prepared
  pub is_answered : IsAnsweredIfPrepared seen may_leave is_clean faults holds fails left left_now prepared before after ended

-- One run. It reads the request of the words and the files that the request names, which have these bytes. It answers
-- the request, reports its end on standard error, and returns the exit status of its end. A site that is served has its journal
-- on a disk, of which the first six words speak, and which is handed back in `left_now`. The two numbers are of the opens and reads of files that failed, before and after.
pub record IsRun {D : Type 0} (seen : D → List ℕ) (may_leave : D → List ℕ → Type 0) (is_clean : D → Bool) (faults : D → ℕ) (holds : List ℕ → List ℕ) (fails : List ℕ → JournalError → Type 0) (left left_now : Option D) (gives : List ℕ → Option (List ℕ)) (failed failed_now : ℕ) (words : Result (List (List ℕ)) ProgramFault) (before after : Streams) (status : ℕ) : Type 0 where
  pub asked : Result Request ProgramFault
  pub prepared : Result Task ProgramFault
  pub answered : Streams
  pub ended : Result Ending ProgramFault
  pub is_asked : IsAskedBy words asked
  pub is_prepared : IsPreparedIfAsked gives failed failed_now asked prepared
  pub is_answered : IsAnsweredIfPrepared seen may_leave is_clean faults holds fails left left_now prepared before answered ended
  pub is_told : IsWrittenOrCutOff answered.err after.err (Some (ending_text_of ended))
  pub others : (after.input ≡ answered.input) × (after.out ≡ answered.out)
  pub status_is : status ≡ exit_status_of ended
