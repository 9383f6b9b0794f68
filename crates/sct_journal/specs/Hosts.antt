-- Why the file of a journal is not opened. Read by an auditor.
use Rattle.std.specs.IoError.{error_kind}
use Rattle.std.specs.declared.io.ErrorKind.{ErrorKind}
use Rattle.std.specs.declared.io.ErrorKind.TheVariants as kind
use Rattle.sqlite_std_file.specs.declared.pair.OpenError.{OpenError}
use Rattle.sqlite_std_file.specs.declared.pair.OpenError.TheVariants as opening
use Rattle.sct_journal.specs.declared.error.JournalError.{JournalError}
use Rattle.sct_journal.specs.declared.error.JournalError.TheVariants.{Busy, Disk, Memory}

-- the error of a call of the host
abbrev pub error_of_kind : ErrorKind → JournalError
error_of_kind kind.OutOfMemory = Memory
error_of_kind _ = Disk

-- The error of a journal, by that of the opening of its file: it is busy exactly if another process has the file.
abbrev pub error_of_open : OpenError → JournalError
error_of_open opening.OutOfMemory = Memory
error_of_open opening.Busy = Busy
error_of_open opening.HotJournal = Disk
error_of_open (opening.Io failed) = error_of_kind (error_kind failed)
