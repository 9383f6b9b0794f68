-- A site that lived on a disk. Proof plumbing.
use Rattle.std.proofs.Common.{◌≡◌, ℕ, Bool, List, Option, Result, subst}
use Rattle.sct_streams.specs.Stream.{Input, Output}
use Rattle.sct_engine.specs.Serves.{Lived}
use Rattle.sct_commands.specs.declared.ending.Ending.{Ending}
use Rattle.sct_commands.specs.declared.fault.ProgramFault.{ProgramFault}
use Rattle.sct_commands.specs.declared.places.ServeCommand.{ServeCommand}

-- its file is one of these bytes
pub lived_on : {D : Type 0} (seen : D → List ℕ) (may_leave : D → List ℕ → Type 0) (is_clean : D → Bool) (faults : D → ℕ) (held file : List ℕ) (command : ServeCommand)
    (input input_now : Input) (out out_now : Output) (left_now : Option D) (ended : Result Ending ProgramFault) → held ≡ file
    → Lived seen may_leave is_clean faults held command input input_now out out_now left_now ended → Lived seen may_leave is_clean faults file command input input_now out out_now left_now ended
lived_on seen may_leave is_clean faults held file command input input_now out out_now left_now ended is lived =
    subst (λ bytes. Lived seen may_leave is_clean faults bytes command input input_now out out_now left_now ended) is lived
