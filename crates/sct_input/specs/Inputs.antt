-- What is read of an input. Read by an auditor.
use Rattle.std.specs.Prelude.{ℕ, ◌≡◌, ◌≤◌, List, [], length, Option, Some, IfSome}
use Rattle.sct_lines.specs.Blocks.{IsReadOf}
use Rattle.sct_lines.specs.declared.intake.Intake.{Intake}

-- What is read of a whole input, which is within the limit. If the bytes left before are known, they are the input, and none
-- is left now. If they are not known, as those of the real standard input, the input is some text.
pub record IsIntake (limit : ℕ) (before after : Option (List ℕ)) (intake : Intake) : Type 0 where
  pub input : List ℕ
  pub within : length input ≤ limit
  pub whole : IfSome before (λ left. (left ≡ input) × (after ≡ Some []))
  pub read : IsReadOf input intake
