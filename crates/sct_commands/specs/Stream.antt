-- The streams of a run, and the faults that may end the reading of files. Read by an auditor.
use Rattle.std.specs.Prelude.{ℕ, ◌≡◌, ◌<◌, ◌++◌, ◌∷◌, List, length, Option, IfSome, ◌≤◌, []}
use Rattle.sct_commands.specs.declared.fault.ProgramFault.{ProgramFault}
use Rattle.sct_commands.specs.declared.fault.ProgramFault.TheVariants.{TooLong, Read, Memory}
use Rattle.sct_streams.specs.Files.{AreGiven}
use Rattle.sct_streams.specs.Stream.{Input, Output}

-- the three streams at one moment: standard input, standard output and standard error
pub record Streams : Type 0 where
  pub input : Input
  pub out : Output
  pub err : Output

abbrev pub streams : Input → Output → Output → Streams
streams input out err = record { input = input; out = out; err = err }

-- the faults that may end the reading of a file with these bytes, if they are known: it cannot be opened or a read
-- fails, it has more than 1,073,741,824 bytes, or it is out of memory
abbrev pub EndsFile : Option (List ℕ) → ProgramFault → Type 0
EndsFile bytes Read = Unit {0}
EndsFile bytes TooLong = IfSome bytes (λ known. 1073741824 < length known)
EndsFile bytes Memory = Unit {0}
EndsFile bytes _ = ⊥

-- none of the inputs has more than 1,073,741,824 bytes
abbrev pub AreWithin : List (List ℕ) → Type 0
AreWithin [] = Unit {0}
AreWithin (input ∷ inputs) = (length input ≤ 1073741824) × AreWithin inputs

-- The file of the first path that cannot be read ends the reading. Those before it were read, and none of them was too long.
pub record EndsFiles (gives : List ℕ → Option (List ℕ)) (paths : List (List ℕ)) (fault : ProgramFault) : Type 0 where
  pub before : List (List ℕ)
  pub path : List ℕ
  pub after : List (List ℕ)
  pub inputs : List (List ℕ)
  pub paths_are : paths ≡ before ++ path ∷ after
  pub read : AreGiven gives before inputs
  pub within : AreWithin inputs
  pub ends : EndsFile (gives path) fault
