-- The bytes taken so far are the front of those that were left. The lines at their front are read, and the rest is kept.
use Rattle.std.proofs.Common.{◌≡◌, ◌≤◌, ◌-◌}
use Rattle.sct_input.proofs.BlockLemmas.{HasTaken}
use Rattle.sct_input.proofs.blocks.read_messages.Given as goal

abbrev pub invariant-loop-text : goal.invariant-loop-text
invariant-loop-text g l = record {
  within : l.room ≤ l.limit;
  taken : HasTaken (l.limit - l.room) (g.R.Source.state l.initial.source).left (g.R.Source.state l.source).left l.text.items l.lines;
  quiet : (g.R.Source.state l.source).failures ≡ (g.R.Source.state l.initial.source).failures;
}

abbrev pub decreases-loop-text : goal.decreases-loop-text
decreases-loop-text g l = l.room
