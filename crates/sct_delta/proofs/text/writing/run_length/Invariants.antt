-- The entries so far are of the origin.
use Rattle.std.proofs.Common.{◌≡◌, ◌+◌, length}
use Rattle.sct_delta.specs.GroupText.{run_length}
use Rattle.sct_delta.proofs.text.writing.run_length.Given as goal

abbrev pub invariant-loop-entry : goal.invariant-loop-entry
invariant-loop-entry l = record {
  run : run_length l.origin l.entries ≡ l.count + run_length l.origin l.rest;
  few : l.count + length l.rest ≡ length l.entries;
}

abbrev pub decreases-loop-entry : goal.decreases-loop-entry
decreases-loop-entry l = length l.rest
