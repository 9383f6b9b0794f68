-- The text that a writer of csv has written. Proof plumbing.
use Rattle.std.specs.Prelude.{◌≡◌, ◌++◌, ℕ, List, Some, false}
use Rattle.std.specs.Global.{Vec}
use Rattle.csv.specs.Writing.{default_writer, fields_written, has_written, row_text, text_written, writer_setup}
use Rattle.csv.specs.declared.writer.Writer.{Writer}

-- A writer with the defaults is between two rows, and this text has been written.
pub record HasWritten (writer : Writer (Vec ℕ)) (text : List ℕ) : Type 0 where
  pub setup : writer_setup writer ≡ default_writer
  pub between : fields_written writer ≡ 0
  pub clean : has_written writer ≡ false
  pub text_is : text_written (λ v. Some v.items) writer ≡ Some text

-- This text was appended to all that the writer had written.
abbrev pub Appends : Writer (Vec ℕ) → Writer (Vec ℕ) → List ℕ → Type 0
Appends old new more = (text : List ℕ) → HasWritten old text → HasWritten new (text ++ more)

-- a record of these fields was appended
abbrev pub AppendsRecord : Writer (Vec ℕ) → Writer (Vec ℕ) → List (List ℕ) → Type 0
AppendsRecord old new fields = Appends old new (row_text default_writer fields)
