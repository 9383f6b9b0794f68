-- So far, a finding for each of the first recalls that two messages refuse differently.
use Rattle.std.proofs.Common.{◌≡◌, ◌++◌, map, filter, take}
use Rattle.sct_case.specs.declared.finding.Finding.TheVariants as finding
use Rattle.sct_case.specs.Told.{differ_among, refusal_of_it, same_refusal}
use Rattle.sct_case.proofs.contradictions.push_differing_refusals.Given as goal

abbrev pub invariant-loop-cxl : goal.invariant-loop-cxl
invariant-loop-cxl l = l.found.items ≡ l.initial.found.items ++ map (λ c. finding.RefusalsDiffer c) (filter (λ c. differ_among (refusal_of_it c) same_refusal l.fn.made.items) (take l.cxl-index l.cxls))
