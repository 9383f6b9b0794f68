-- The lines so far were given, and the others are still to come.
use Rattle.std.proofs.Common.{◌≡◌, length}
use Rattle.sct_journal.specs.Kept.{kept}
use Rattle.sct_requests.specs.Steps.{core_after}
use Rattle.sct_requests.proofs.steps.give_kept.Given as goal

abbrev pub invariant-loop-line : goal.invariant-loop-line
invariant-loop-line l = record {
  core : core_after l.site.core (kept l.rest) ≡ core_after l.fn.site.core (kept l.file);
  watched : l.site.watched ≡ l.fn.site.watched;
}

abbrev pub decreases-loop-line : goal.decreases-loop-line
decreases-loop-line l = length l.rest
