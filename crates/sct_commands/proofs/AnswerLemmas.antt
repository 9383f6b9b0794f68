-- The answer of a run, by what its sites came to. Proof plumbing.
use Rattle.std.proofs.Common.{◌≡◌, ◌<◌, ◌∙◌, sym, ap, subst, ℕ, List, length}
use Rattle.std.specs.Prelude.{Result, Ok, Err, IfErr, IfOk, OnOk, string_bytes}
use Rattle.sct_workers.specs.declared.fault.WorkFault.{WorkFault}
use Rattle.sct_view.specs.StatusText.{status_text_of}
use Rattle.sct_workers.specs.Files.{refused_in, told_from}
use Rattle.sct_workers.specs.Filling.{AreFilled}
use Rattle.sct_workers.specs.Holds.{EndsWhere}
use Rattle.sct_workers.specs.declared.filled.Sites.{Sites}
use Rattle.sct_workers.specs.declared.gate.Point.{Point}
use Rattle.sct_commands.specs.Fault.{fault_of_work}
use Rattle.sct_commands.specs.Runs.{set_of_all, IsSettledAnswer, IsSettlingFault, RunEndsWhere}
use Rattle.sct_commands.specs.declared.runs.RunAnswer.{RunAnswer}
use Rattle.sct_commands.specs.declared.fault.ProgramFault.{ProgramFault}
use Rattle.sct_commands.proofs.RunLemmas.{run_ends, settling_ends}
use Rattle.sct_commands.proofs.UnionLemmas.{union_is}

-- what a run over these inputs answers
pub record IsAnswerOf (inputs : List (List ℕ)) (answer : RunAnswer) : Type 0 where
  pub status : answer.status.items ≡ status_text_of (set_of_all inputs)
  pub told : string_bytes answer.told ≡ told_from 1 inputs
  pub refused : answer.refused ≡ refused_in inputs

settled_is : (inputs : List (List ℕ)) (sites : Sites) (answer : RunAnswer) → AreFilled (length inputs) inputs sites → 0 < length sites.cores.items
    → IsSettledAnswer sites answer → IsAnswerOf inputs answer
settled_is inputs sites answer filled some is = record {
  status = is.status ∙ ap status_text_of (union_is sites.cores.items is.settled inputs filled.stand is.are_settled 0 some);
  told = is.told ∙ filled.told;
  refused = is.refused ∙ filled.refused;
}

pub answer_is : (size : ℕ) (inputs : List (List ℕ)) (filled : Result Sites WorkFault) (result : Result RunAnswer ProgramFault) → size ≡ length inputs
    → IfOk filled (AreFilled size inputs) → IfOk filled (λ sites. 0 < length sites.cores.items)
    → IfErr filled (λ reason. result ≡ Err (fault_of_work reason)) → IfOk result (λ answer. IfOk filled (λ sites. IsSettledAnswer sites answer))
    → IfOk result (IsAnswerOf inputs)
answer_is size inputs (Ok sites) (Ok answer) same stand some first settled =
    settled_is inputs sites answer (subst (λ (n : ℕ). AreFilled n inputs sites) same stand) some settled
answer_is size inputs (Ok sites) (Err e) same stand some first settled = tt
answer_is size inputs (Err reason) (Ok answer) same stand some first settled = absurd cc
answer_is size inputs (Err reason) (Err e) same stand some first settled = tt

abbrev Is : Result RunAnswer ProgramFault → Result RunAnswer ProgramFault → Type 0
Is some other = some ≡ other

pub answer_ends : (may : Point → Type 0) (filled : Result Sites WorkFault) (result : Result RunAnswer ProgramFault) → IfErr filled (EndsWhere may)
    → IfErr filled (λ reason. result ≡ Err (fault_of_work reason)) → OnOk filled (IfErr result IsSettlingFault) → IfErr result (RunEndsWhere may)
answer_ends may (Ok sites) (Ok answer) ends first then = tt
answer_ends may (Ok sites) (Err e) ends first then = settling_ends may e then
answer_ends may (Err reason) result ends first then =
    subst (λ (r : Result RunAnswer ProgramFault). IfErr r (RunEndsWhere may)) (sym first) (run_ends may reason ends)
