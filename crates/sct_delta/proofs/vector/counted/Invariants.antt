-- What is left is counted over what was counted so far.
use Rattle.std.proofs.Common.{ℕ, ◌≡◌, drop}
use Rattle.sct_delta.specs.Shapes.{count_among}
use Rattle.sct_delta.specs.Vectors.{count_in}
use Rattle.sct_delta.proofs.vector.counted.Given as goal

abbrev pub invariant-loop-pair : goal.invariant-loop-pair
invariant-loop-pair l = (origin : ℕ) → count_among (drop l.pair-index l.pairs) origin (count_in l.vector origin) ≡ count_among l.pairs origin 0
