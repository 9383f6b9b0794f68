-- The entries of the ranges that were looked at.
use Rattle.std.proofs.Common.{◌≡◌, ◌-◌, take}
use Rattle.std.specs.List.{sum_by}
use Rattle.sct_site.specs.declared.ranges.LogRange.{LogRange}
use Rattle.sct_site.proofs.ranges.entries_in.Given as goal

abbrev pub invariant-loop-range : goal.invariant-loop-range
invariant-loop-range l = l.entries ≡ sum_by (λ (range : LogRange). range.upto - range.above) (take l.range-index l.ranges)
