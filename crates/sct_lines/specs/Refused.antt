-- Refused lines as the program keeps them, and the line that reports one. Read by an auditor.
use Rattle.std.specs.Prelude.{ℕ, List, [], ◌∷◌, ◌++◌, codes}
use Rattle.std.specs.Fmt.{decimal}

-- refused lines: the text that reports them, and how many they are
pub record Refused : Type 0 where
  pub text : List ℕ
  pub count : ℕ

-- the line that reports a refused line by its number, with the text of the reason and a line feed
abbrev pub reporting_line : ℕ → List ℕ → List ℕ
reporting_line number reason = codes "line " ++ decimal number ++ codes ": " ++ reason ++ 10 ∷ []
