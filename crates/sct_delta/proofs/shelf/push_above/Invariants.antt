-- What is out, and what is left.
use Rattle.std.proofs.Common.{◌≡◌, ◌++◌, ◌+◌, ◌-◌, map, drop, length}
use Rattle.std.specs.Arc.{arc_value}
use Rattle.sct_delta.specs.Entries.{numbered}
use Rattle.sct_delta.proofs.shelf.push_above.Given as goal

abbrev pub invariant-loop-place : goal.invariant-loop-place
invariant-loop-place l =
    l.out.items ++ numbered l.origin (l.place + 1) (drop l.place (map arc_value l.log))
    ≡ l.initial.out.items ++ numbered l.origin (l.have + 1) (drop l.have (map arc_value l.log))

abbrev pub decreases-loop-place : goal.decreases-loop-place
decreases-loop-place l = length l.log - l.place
