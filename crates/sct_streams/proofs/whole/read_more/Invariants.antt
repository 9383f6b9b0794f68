-- The bytes appended so far are the front of those that were left.
use Rattle.std.proofs.Common.{◌≡◌, ◌≤◌, ◌-◌}
use Rattle.sct_streams.specs.Whole.{HasAppended}
use Rattle.sct_streams.proofs.whole.read_more.Given as goal

abbrev pub invariant-loop-done : goal.invariant-loop-done
invariant-loop-done g l = record {
  within : l.done ≤ l.most;
  appended : HasAppended l.done l.initial.bytes.items l.bytes.items (g.R.Source.state l.initial.source).left (g.R.Source.state l.source).left;
  quiet : (g.R.Source.state l.source).failures ≡ (g.R.Source.state l.initial.source).failures;
}

abbrev pub decreases-loop-done : goal.decreases-loop-done
decreases-loop-done g l = l.most - l.done
