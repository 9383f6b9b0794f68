-- The findings so far.
use Rattle.std.proofs.Common.{◌≡◌, ◌++◌, take}
use Rattle.sct_view.specs.Listed.{beside}
use Rattle.sct_view.proofs.listed.push_beside.Given as goal

abbrev pub invariant-loop-finding : goal.invariant-loop-finding
invariant-loop-finding l = l.found.items ≡ l.initial.found.items ++ beside l.transfer (take l.finding-index l.findings)
