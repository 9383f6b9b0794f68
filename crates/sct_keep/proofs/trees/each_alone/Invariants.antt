-- The numbers so far.
use Rattle.std.proofs.Common.{◌≡◌, ◌<◌, ℕ, length}
use Rattle.std.specs.Prelude.{slice_index}
use Rattle.sct_keep.proofs.trees.each_alone.Given as goal

abbrev pub invariant-loop-number : goal.invariant-loop-number
invariant-loop-number l = (length l.parents.items ≡ l.number) × ((i : ℕ) → i < l.number → slice_index l.parents.items i ≡ i)
