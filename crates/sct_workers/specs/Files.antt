-- How the refused lines of several files are reported. Read by an auditor. Runs use these words.
use Rattle.std.specs.Prelude.{ℕ, ◌+◌, List, [], ◌∷◌, ◌++◌, codes, length, map, Vec}
use Rattle.std.specs.Fmt.{decimal}
use Rattle.std.specs.declared.alloc.Global.{Global}
use Rattle.sct_lines.specs.Lines.{refusals_told, told_after}

-- the bytes of each input
abbrev pub bytes_of : List (Vec ℕ Global) → List (List ℕ)
bytes_of inputs = map (λ input. input.items) inputs

-- the text before each line that reports a refused line of a file
abbrev pub file_front : ℕ → List ℕ
file_front file = codes "file " ++ decimal file ++ codes " "

-- the lines that report the refused lines of a file
abbrev pub told_of_file : ℕ → List ℕ → List ℕ
told_of_file file input = told_after (file_front file) (refusals_told input)

-- the lines that report the refused lines of all inputs, file by file; the first file has the number `file`
abbrev pub told_from : ℕ → List (List ℕ) → List ℕ
told_from file [] = []
told_from file (input ∷ inputs) = told_of_file file input ++ told_from (file + 1) inputs

-- how many lines of all inputs are refused
abbrev pub refused_in : List (List ℕ) → ℕ
refused_in [] = 0
refused_in (input ∷ inputs) = length (refusals_told input) + refused_in inputs
