-- What the ranges of the origins that were looked at have, and what is left.
use Rattle.std.proofs.Common.{◌≡◌, ◌++◌, All}
use Rattle.sct_delta.specs.Vectors.{count_in}
use Rattle.sct_site.specs.Cores.{logs_of}
use Rattle.sct_site.specs.Ranges.{in_ranges, HaveEntries, ReachEnds}
use Rattle.sct_site.proofs.CutRangeLemmas.{IsCounted, blocks}
use Rattle.sct_site.proofs.site_core.SiteCore.cut_ranges.Given as goal

abbrev pub invariant-loop-origin : goal.invariant-loop-origin
invariant-loop-origin l =
    (in_ranges (logs_of l.self.arrivals) l.ranges.items ++ blocks (count_in l.vector) (logs_of l.self.arrivals) l.origin-iterator
    ≡ blocks (count_in l.vector) (logs_of l.self.arrivals) l.initial.origin-iterator)
    × (All (IsCounted (logs_of l.self.arrivals)) l.origin-iterator
    × (ReachEnds (logs_of l.self.arrivals) l.ranges.items × HaveEntries l.ranges.items))
