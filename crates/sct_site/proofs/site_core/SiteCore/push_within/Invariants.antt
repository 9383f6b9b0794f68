-- What is out, and what is left of the range.
use Rattle.std.proofs.Common.{◌≡◌, ◌++◌, ◌+◌, ◌-◌, drop, take}
use Rattle.sct_delta.specs.Entries.{numbered, log_of}
use Rattle.sct_site.proofs.site_core.SiteCore.push_within.Given as goal

abbrev pub invariant-loop-n : goal.invariant-loop-n
invariant-loop-n l =
    l.out.items ++ numbered l.origin (l.n + 1) (drop l.n (take l.range.upto (log_of l.origin l.self.arrivals)))
    ≡ l.initial.out.items ++ numbered l.origin (l.initial.n + 1) (drop l.initial.n (take l.range.upto (log_of l.origin l.self.arrivals)))

abbrev pub decreases-loop-n : goal.decreases-loop-n
decreases-loop-n l = l.range.upto - l.n
