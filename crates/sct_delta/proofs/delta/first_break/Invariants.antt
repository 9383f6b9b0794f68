-- What is left decides.
use Rattle.std.proofs.Common.{◌≡◌, ◌+◌, drop}
use Rattle.sct_delta.specs.Shapes.{first_break}
use Rattle.sct_delta.proofs.delta.first_break.Given as goal

abbrev pub invariant-loop-entry : goal.invariant-loop-entry
invariant-loop-entry l = record {
  count : l.place ≡ l.entry-index + 1;
  left : first_break 1 0 0 l.entries ≡ first_break l.place l.origin l.n (drop l.entry-index l.entries);
}
