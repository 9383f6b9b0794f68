-- So far, a finding for each of the first recalls that two messages make differently.
use Rattle.std.proofs.Common.{◌≡◌, ◌++◌, map, filter, take}
use Rattle.sct_case.specs.declared.finding.Finding.TheVariants as finding
use Rattle.sct_case.specs.Told.{differ_among, recall_of_it, same_recall_made}
use Rattle.sct_case.proofs.contradictions.push_differing_recalls.Given as goal

abbrev pub invariant-loop-cxl : goal.invariant-loop-cxl
invariant-loop-cxl l = l.found.items ≡ l.initial.found.items ++ map (λ c. finding.RecallsDiffer c) (filter (λ c. differ_among (recall_of_it c) same_recall_made l.fn.made.items) (take l.cxl-index l.cxls))
