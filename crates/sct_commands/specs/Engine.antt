-- The texts that the engine writes for an input, and how a run of it ends. Read by an auditor.
use Rattle.std.specs.Prelude.{ℕ, ◌≡◌, ◌+◌, ◌<◌, ◌≤◌, ◌⊎◌, List, [], length, Option, Some, None, IfSome, IsSome, Result, Ok, Err, string_bytes}
use Rattle.std.specs.Option.{option_map}
use Rattle.sct_commands.specs.declared.jobs.Job.{Job}
use Rattle.sct_commands.specs.declared.fault.ProgramFault.{ProgramFault}
use Rattle.sct_commands.specs.declared.fault.ProgramFault.TheVariants as fault
use Rattle.sct_reconcile.specs.Lists.{list_of}
use Rattle.sct_reconcile.specs.Reports.{report_of, report_text_of}
use Rattle.sct_reconcile.specs.declared.fault.ReconcileFault.{ReconcileFault}
use Rattle.sct_reconcile.specs.declared.fault.ReconcileFault.TheVariants.{BadList}
use Rattle.sct_reconcile.specs.declared.rows.ListedRow.{ListedRow}
use Rattle.sct_commands.specs.declared.jobs.Job.TheVariants as job
use Rattle.sct_commands.specs.declared.answers.ProgramAnswer.{ProgramAnswer}
use Rattle.sct_lines.specs.Lines.{refusals_told, set_read, told_text_of}
use Rattle.sct_view.specs.StatusText.{status_text_of}
use Rattle.sct_view.specs.TotalsText.{totals_text_of}
use Rattle.sct_set.specs.Archive.{archive_text_of}
use Rattle.sct_keep.specs.Keep.{closed_of, kept_of}
use Rattle.sct_set.specs.Contents.{Contents}
use Rattle.sct_set.specs.Pieces.{joined}
use Rattle.sct_script.specs.Replays.{replay_of}
use Rattle.sct_script.specs.Scripts as script
use Rattle.sct_script.specs.Scripts.{sites_told}
use Rattle.sct_streams.specs.Stream.{HasTakenIfTold, Input, Output, IsCutOff, IsWritten}
use Rattle.sct_commands.specs.Stream.{Streams}

-- ---- the text of a job

-- the report on a list, if its text is a valid list
abbrev pub reported : Contents → List ℕ → List ℕ → Result (List ListedRow) ReconcileFault → List ℕ
reported contents bank day (Ok rows) = report_text_of (report_of contents bank day rows)
reported contents bank day (Err fault) = []

-- the text of a job for an input: the status text, the archive text or the totals text of the set of the messages read, the report on
-- a list, the archive text of what is kept or of what is closed on a day, or the replay of a script
abbrev pub job_text_of : Job → List ℕ → List ℕ
job_text_of job.Status input = status_text_of (set_read input)
job_text_of job.Archive input = archive_text_of (set_read input)
job_text_of job.Totals input = totals_text_of (set_read input)
job_text_of (job.Report bank day list) input = reported (set_read input) bank day (list_of list.items)
job_text_of (job.Keep day) input = archive_text_of (kept_of day (set_read input))
job_text_of (job.Closed day) input = archive_text_of (closed_of (set_read input) (kept_of day (set_read input)))
job_text_of job.Replay input = replay_of input

-- the text of a job, if the input is known
abbrev pub job_text_if_told : Job → Option (List ℕ) → Option (List ℕ)
job_text_if_told job input = option_map (job_text_of job) input

-- the lines that report the refused lines of a job's input, which are lines of messages or of a script
abbrev pub told_of : Job → List ℕ → List ℕ
told_of job.Replay input = script.event_refusals_text (script.event_refusals_told input)
told_of _ input = told_text_of (refusals_told input)

-- the lines that report the refused lines, if the input is known
abbrev pub told_text_if_told : Job → Option (List ℕ) → Option (List ℕ)
told_text_if_told job input = option_map (told_of job) input

-- how many lines of a job's input are refused
abbrev pub refused_of : Job → List ℕ → ℕ
refused_of job.Replay input = length (script.event_refusals_told input)
refused_of _ input = length (refusals_told input)

-- ---- lists

-- the number of the first bad record of a list, if it has one
abbrev pub bad_row : Result (List ListedRow) ReconcileFault → Option ℕ
bad_row (Err (BadList row)) = Some row
bad_row _ = None

-- the number of the first bad record of the list that a job compares with
abbrev pub bad_row_of : Job → Option ℕ
bad_row_of (job.Report bank day list) = bad_row (list_of list.items)
bad_row_of _ = None

-- A run reports the first bad record of its job's list only if there is one. If there is one, the run reports it, or
-- ends before the list is read, or is out of memory.
abbrev pub StandsOnList : {T : Type 0} → Option ℕ → Result T ProgramFault → Type 0
StandsOnList row (Err (fault.BadList told)) = row ≡ Some told
StandsOnList row (Err fault.Usage) = Unit {0}
StandsOnList row (Err fault.Memory) = Unit {0}
StandsOnList row _ = row ≡ None

-- ---- inputs that a job does not take: a replay takes only a script

abbrev pub IsInputOf : Job → List ℕ → Type 0
IsInputOf job.Replay input = IsSome (sites_told input)
IsInputOf _ input = Unit {0}

abbrev pub IsNoInputOf : Job → List ℕ → Type 0
IsNoInputOf job.Replay input = sites_told input ≡ None
IsNoInputOf _ input = ⊥

-- the bytes of an input, which was read whole and is within the limit, are not taken by the job
pub record IsRefusedInput (work : Job) (limit : ℕ) (before after : Input) : Type 0 where
  pub bytes : List ℕ
  pub within : length bytes ≤ limit
  pub no_input : IsNoInputOf work bytes
  pub read : IfSome before.left (λ input. (input ≡ bytes) × (after.left ≡ Some []))

-- a limit that a run cannot have: a limit is 1 to 1,073,741,824 bytes
abbrev pub IsBadLimit : ℕ → Type 0
IsBadLimit limit = (limit ≡ 0) ⊎ (1073741824 < limit)

-- ---- the answer of a job

-- The answer of a job to the input that was left. The input was read whole, and is within the limit. If the bytes left before are
-- known, they are the input. If they are not known, as those of the real standard input, the input is some text.
pub record IsAnswerOf (work : Job) (limit : ℕ) (before after : Input) (answer : ProgramAnswer) : Type 0 where
  pub input : List ℕ
  pub within : length input ≤ limit
  pub whole : IfSome before.left (λ left. (left ≡ input) × (after.left ≡ Some []))
  pub none_failed : after.failures ≡ before.failures
  pub taken : IsInputOf work input
  pub text : joined answer.pieces.items ≡ job_text_of work input
  pub told : string_bytes answer.refusals ≡ told_of work input
  pub count : answer.refused ≡ refused_of work input

-- ---- how a run ends

-- an input within the limit was read whole, if it is known
abbrev pub IsReadWhole : ℕ → Input → Input → Type 0
IsReadWhole limit before after = IfSome before.left (λ input. (length input ≤ limit) × (after.left ≡ Some []))

-- The job was done, with this number of refused lines. An input that the job takes was read whole. Standard error got
-- the lines that report the refused ones, and standard output the text of the job.
pub record IsDone (work : Job) (limit : ℕ) (before after : Streams) (refused : ℕ) : Type 0 where
  pub read : IsReadWhole limit before.input after.input
  pub none_failed : after.input.failures ≡ before.input.failures
  pub taken : IfSome before.input.left (IsInputOf work)
  pub told : IsWritten before.err after.err (told_text_if_told work before.input.left)
  pub text : IsWritten before.out after.out (job_text_if_told work before.input.left)
  pub count : IfSome before.input.left (λ input. refused ≡ refused_of work input)

-- the input has more bytes than the limit, and exactly one byte more than the limit was taken
pub record IsPastLimit (limit : ℕ) (before after : Input) : Type 0 where
  pub longer : IfSome before.left (λ input. limit < length input)
  pub taken : HasTakenIfTold before.left after.left (limit + 1)

-- the faults that may end a job: a bad list (48), an input past the limit (60), a failed read (62) or write (63), a limit
-- or an input that the job cannot have (64), and out of memory (65)
abbrev pub EndsWork : ProgramFault → Type 0
EndsWork (fault.BadList row) = Unit {0}
EndsWork fault.TooLong = Unit {0}
EndsWork fault.Read = Unit {0}
EndsWork fault.Write = Unit {0}
EndsWork fault.Usage = Unit {0}
EndsWork fault.Memory = Unit {0}
EndsWork _ = ⊥

-- the faults that may end a job before its answer is written
abbrev pub EndsUnwritten : ProgramFault → Type 0
EndsUnwritten fault.Write = ⊥
EndsUnwritten other = EndsWork other

-- One write failed. Either standard error got a prefix of its text, and standard output is as it was. Or standard error
-- got its whole text, and standard output a prefix of its own.
abbrev pub AreCutOff : (err err_now out out_now : Output) (told text : Option (List ℕ)) → Type 0
AreCutOff err err_now out out_now told text =
    (IsCutOff err err_now told × (out_now ≡ out)) ⊎ (IsWritten err err_now told × IsCutOff out out_now text)
