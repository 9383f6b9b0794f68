-- So far, a finding for each of the first refused recalls that something was returned for.
use Rattle.std.proofs.Common.{◌≡◌, ◌++◌, map, filter, take}
use Rattle.std.specs.List.{list_any}
use Rattle.sct_case.specs.declared.finding.Finding.TheVariants as finding
use Rattle.sct_case.specs.Told.{return_of_it}
use Rattle.sct_case.proofs.contradictions.push_both_answers.Given as goal

abbrev pub invariant-loop-cxl : goal.invariant-loop-cxl
invariant-loop-cxl l = l.found.items ≡ l.initial.found.items ++ map (λ c. finding.BothAnswers c) (filter (λ c. list_any (return_of_it c) l.fn.returns.items) (take l.cxl-index l.cxls))
