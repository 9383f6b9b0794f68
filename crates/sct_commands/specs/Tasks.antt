-- The task of a run after the files that the command line names are read, and the texts that
-- the run then writes. Read by an auditor.
use Rattle.std.specs.Prelude.{ℕ, ◌≡◌, ◌+◌, ◌≤◌, length, List, [], ◌∷◌, map, Option, Some, None, IfSome, Result, Ok, Err, String, string_bytes}
use Rattle.std.specs.Global.{Vec}
use Rattle.std.specs.declared.alloc.Global.{Global}
use Rattle.sct_workers.specs.Faults.{IsRefusalNumber}
use Rattle.sct_commands.specs.Runs.{set_of_all}
use Rattle.sct_view.specs.StatusText.{status_text_of}
use Rattle.sct_workers.specs.Files.{bytes_of, refused_in, told_from}
use Rattle.sct_commands.specs.declared.jobs.Job.{Job}
use Rattle.sct_commands.specs.declared.jobs.Job.TheVariants.{Report}
use Rattle.sct_commands.specs.declared.ending.Ending.{Ending}
use Rattle.sct_commands.specs.declared.ending.Ending.TheVariants.{Done, Helped, Mistaken}
use Rattle.sct_commands.specs.declared.fault.ProgramFault.{ProgramFault}
use Rattle.sct_commands.specs.declared.fault.ProgramFault.TheVariants as fault
use Rattle.sct_commands.specs.declared.request.Reconciliation.{Reconciliation}
use Rattle.sct_commands.specs.declared.request.Request.{Request}
use Rattle.sct_commands.specs.declared.request.Request.TheVariants as request
use Rattle.sct_commands.specs.Exchanging.{count_by_exchange, text_by_exchange, told_by_exchange, IsGathered}
use Rattle.sct_commands.specs.declared.exchanging.Gathered.{Gathered}
use Rattle.sct_commands.specs.declared.places.ServeCommand.{ServeCommand}
use Rattle.sct_commands.specs.Engine.{bad_row_of, job_text_if_told, refused_of, told_text_if_told, IsInputOf, IsReadWhole}
use Rattle.sct_commands.specs.Fault.{failed_reads}
use Rattle.sct_commands.specs.Stream.{AreWithin, EndsFile, EndsFiles}
use Rattle.sct_streams.specs.Files.{AreGiven, IsGiven}
use Rattle.sct_streams.specs.Stream.{Input}

-- A request with the bytes of the files that it names: a job on standard input; to settle the sites that are filled from
-- some inputs; a site that is gathered from its files; to serve a site; a help; or a mistake.
pub data Task : Type 0 where
  work : Job → Task
  settle : Vec (Vec ℕ) → Task
  exchange : Gathered → Task
  serve : ServeCommand → Task
  help : String Global → Task
  mistake : String Global → Task

-- ---- the files

-- the job compares with the list in the file at the path, for the bank and the day; the file has at most 1,073,741,824 bytes
abbrev pub IsReportWith : (List ℕ → Option (List ℕ)) → Reconciliation → Job → Type 0
IsReportWith gives with (Report bank day list) =
    (bank ≡ with.bank) × (day ≡ with.day) × IsGiven gives with.list.now list.items
    × (length list.items ≤ 1073741824)
IsReportWith gives with _ = ⊥

-- The task of a request with the bytes of its files, each of at most 1,073,741,824 bytes. The list of `report` has the bytes of
-- its file. The inputs of `run` have the bytes of the files, in the order of the paths. So have the journal and the deltas of a
-- command on one site. The journal of `serve` is opened later.
abbrev pub IsTaskOf : (List ℕ → Option (List ℕ)) → Request → Task → Type 0
IsTaskOf gives (request.Run job) (work done) = done ≡ job
IsTaskOf gives (request.Reconcile with) (work job) = IsReportWith gives with job
IsTaskOf gives (request.Settle files) (settle inputs) =
    AreGiven gives (map (λ path. path.now) files.items) (bytes_of inputs.items) × AreWithin (bytes_of inputs.items)
IsTaskOf gives (request.Exchange command) (exchange gathered) = IsGathered gives command gathered
IsTaskOf gives (request.Serve command) (serve served) = served ≡ command
IsTaskOf gives (request.Help text) (help told) = told ≡ text
IsTaskOf gives (request.Mistake text) (mistake told) = told ≡ text
IsTaskOf gives _ _ = ⊥

-- a file that cannot be read ends a request that names it
abbrev pub EndsFilesOf : (List ℕ → Option (List ℕ)) → Request → ProgramFault → Type 0
EndsFilesOf gives (request.Reconcile with) fault = EndsFile (gives with.list.now) fault
EndsFilesOf gives (request.Settle files) fault = EndsFiles gives (map (λ path. path.now) files.items) fault
EndsFilesOf gives (request.Exchange command) fault = EndsFiles gives (command.journal.now ∷ map (λ path. path.now) command.deltas.items) fault
EndsFilesOf gives _ fault = ⊥

-- The task of a request with the bytes of its files, or the fault by which these could not be read. The two numbers are of the
-- opens and reads of files that failed, before and after: it is one more for 62, and else none.
abbrev pub IsPrepared : (List ℕ → Option (List ℕ)) → ℕ → ℕ → Request → Result Task ProgramFault → Type 0
IsPrepared gives failed failed_now request (Ok task) = IsTaskOf gives request task × (failed_now ≡ failed)
IsPrepared gives failed failed_now request (Err fault) = EndsFilesOf gives request fault × (failed_now ≡ failed + failed_reads fault)

-- ---- the texts that are written

-- the text on standard output: the text of the job, if standard input is known; the status text of the union of the
-- sets that are read from the inputs; what is wanted of a site; or the help. What `serve` writes is no text of the task
-- and standard input alone.
abbrev pub out_text_of : Task → Option (List ℕ) → Option (List ℕ)
out_text_of (work job) input = job_text_if_told job input
out_text_of (settle inputs) input = Some (status_text_of (set_of_all (bytes_of inputs.items)))
out_text_of (exchange gathered) input = Some (text_by_exchange gathered)
out_text_of (serve command) input = None
out_text_of (help text) input = Some (string_bytes text)
out_text_of (mistake text) input = Some []

-- the text on standard error before the end of the run: the lines that report the refused lines, with
-- the numbers of the files if there are files, and the refused files
abbrev pub refusals_text_of : Task → Option (List ℕ) → Option (List ℕ)
refusals_text_of (work job) input = told_text_if_told job input
refusals_text_of (settle inputs) input = Some (told_from 1 (bytes_of inputs.items))
refusals_text_of (exchange gathered) input = Some (told_by_exchange gathered)
refusals_text_of (serve command) input = Some []
refusals_text_of (help text) input = Some []
refusals_text_of (mistake text) input = Some []

-- the end of a task without a fault: the number of the refused lines and files, if the input is known
abbrev pub IsEndingOf : Task → Option (List ℕ) → Ending → Type 0
IsEndingOf (work job) input (Done done) = IfSome input (λ bytes. done.refused ≡ refused_of job bytes)
IsEndingOf (settle inputs) input (Done done) = done.refused ≡ refused_in (bytes_of inputs.items)
IsEndingOf (exchange gathered) input (Done done) = done.refused ≡ count_by_exchange gathered
IsEndingOf (help text) input Helped = Unit {0}
IsEndingOf (mistake text) input (Mistaken told) = told ≡ text
IsEndingOf _ _ _ = ⊥

-- ---- lists and inputs

-- the first bad record of the list that a task compares with, if it has one
abbrev pub bad_row_in : Task → Option ℕ
bad_row_in (work job) = bad_row_of job
bad_row_in _ = None

-- standard input is not read
abbrev pub LeavesInput : Task → Type 0
LeavesInput (work job) = ⊥
LeavesInput _ = Unit {0}

-- an input within 1,073,741,824 bytes was read whole, if the task is a job on standard input
abbrev pub ReadsInput : Task → Input → Input → Type 0
ReadsInput (work job) before after = IsReadWhole 1073741824 before after
ReadsInput _ before after = Unit {0}

-- the task takes standard input with these bytes: a replay takes only a script
abbrev pub TakesInput : Task → List ℕ → Type 0
TakesInput (work job) input = IsInputOf job input
TakesInput _ input = Unit {0}

-- the faults that may end the settling of inputs. No gate holds a worker (61). A refused
-- call has the number of a refusal.
abbrev pub EndsSettling : ProgramFault → Type 0
EndsSettling fault.Write = Unit {0}
EndsSettling fault.Usage = Unit {0}
EndsSettling fault.Memory = Unit {0}
EndsSettling (fault.Refused number) = IsRefusalNumber number
EndsSettling fault.NoWorker = Unit {0}
EndsSettling _ = ⊥
