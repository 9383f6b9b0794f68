-- What is left decides.
use Rattle.std.proofs.Common.{◌≡◌, ◌+◌, drop}
use Rattle.sct_delta.specs.Shapes.{first_fall}
use Rattle.sct_delta.proofs.vector.first_fall.Given as goal

abbrev pub invariant-loop-pair : goal.invariant-loop-pair
invariant-loop-pair l = record {
  count : l.place ≡ l.pair-index + 1;
  left : first_fall 1 0 l.pairs ≡ first_fall l.place l.before (drop l.pair-index l.pairs);
}
