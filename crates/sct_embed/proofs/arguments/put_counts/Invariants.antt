-- The counts so far are written.
use Rattle.std.proofs.Common.{◌≡◌, ◌<◌, ◌+◌, ℕ, length}
use Rattle.std.specs.Prelude.{slice_index}
use Rattle.sct_delta.specs.Vectors.{count_in}
use Rattle.sct_embed.proofs.arguments.put_counts.Given as goal

abbrev pub invariant-loop-at : goal.invariant-loop-at
invariant-loop-at l =
    (length l.out ≡ length l.initial.out) × ((k : ℕ) → k < l.at → slice_index l.out k ≡ count_in l.vector (k + 1))
