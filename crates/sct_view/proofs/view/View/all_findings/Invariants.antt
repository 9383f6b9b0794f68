-- The findings of the transfers so far.
use Rattle.std.proofs.Common.{◌≡◌, take}
use Rattle.std.specs.List.{flat_map}
use Rattle.sct_view.specs.Answers.{found_on}
use Rattle.sct_view.specs.Listed.{beside}
use Rattle.sct_view.proofs.view.View.all_findings.Given as goal

abbrev pub invariant-loop-transfer : goal.invariant-loop-transfer
invariant-loop-transfer l =
    l.found.items ≡ flat_map (λ t. beside t (found_on l.self t)) (take l.transfer-index l.transfer-items)
