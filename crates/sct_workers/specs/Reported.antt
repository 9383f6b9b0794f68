-- Which fault is reported of several sites that were to be filled from inputs. Read by an auditor.
use Rattle.std.specs.Prelude.{ℕ, ◌≡◌, ◌≤◌, ◌<◌, ◌+◌, List, Option, None, Some, Result, Err, IfErr, IfOk, IsOk}
use Rattle.std.specs.List.{slice_get}
use Rattle.sct_workers.specs.declared.fault.SiteFault.{SiteFault}
use Rattle.sct_workers.specs.declared.filled.Filled.{Filled}
use Rattle.sct_workers.specs.Each.{AtEach}
use Rattle.sct_workers.specs.Filling.{IsFilled}
use Rattle.sct_workers.specs.Holds.{site_rank_of}

-- the answer of the site that is filled from the input at its place, in a group of this size
abbrev pub AnswersTo : ℕ → List (List ℕ) → ℕ → Result Filled SiteFault → Type 0
AnswersTo size inputs place answer =
    (input : List ℕ) → slice_get inputs place ≡ Some input → IfOk answer (IsFilled (place + 1) size input)

-- no site failed
abbrev pub NoneFails : List (Result Filled SiteFault) → Type 0
NoneFails answers = AtEach (λ place answer. IsOk answer) answers

-- The fault that is reported of several sites is the fault of one of them. In the order of faults no site's fault comes
-- before it, and the fault of an earlier site comes after it.
pub record IsReported (answers : List (Result Filled SiteFault)) (reported : SiteFault) : Type 0 where
  pub site : ℕ
  pub its : slice_get answers site ≡ Some (Err reported)
  pub least : AtEach (λ place answer. IfErr answer (λ reason. site_rank_of reported ≤ site_rank_of reason)) answers
  pub first : AtEach (λ place answer. place < site → IfErr answer (λ reason. site_rank_of reported < site_rank_of reason)) answers

-- the report of several sites: a fault, or none if no site failed
abbrev pub Reports : List (Result Filled SiteFault) → Option SiteFault → Type 0
Reports answers None = NoneFails answers
Reports answers (Some reported) = IsReported answers reported
