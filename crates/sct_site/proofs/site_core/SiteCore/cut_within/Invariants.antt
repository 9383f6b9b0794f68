-- What is above the vector in the ranges that were read.
use Rattle.std.proofs.Common.{◌≡◌, filter, take}
use Rattle.sct_delta.specs.Vectors.{count_in}
use Rattle.sct_site.specs.Cores.{is_above, logs_of}
use Rattle.sct_site.specs.Ranges.{in_ranges}
use Rattle.sct_site.proofs.site_core.SiteCore.cut_within.Given as goal

abbrev pub invariant-loop-range : goal.invariant-loop-range
invariant-loop-range l = l.out.items ≡ filter (is_above (count_in l.vector)) (in_ranges (logs_of l.self.arrivals) (take l.range-index l.ranges))
