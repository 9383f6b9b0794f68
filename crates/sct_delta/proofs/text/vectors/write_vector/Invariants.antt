-- The pairs of the origins so far are written.
use Rattle.std.proofs.Common.{◌≡◌, ◌-◌, string_bytes}
use Rattle.sct_delta.specs.Vectors.{count_in}
use Rattle.sct_delta.specs.VectorText.{joined_pairs, pairs_to}
use Rattle.sct_delta.proofs.text.vectors.write_vector.Given as goal

abbrev pub invariant-loop-origin : goal.invariant-loop-origin
invariant-loop-origin l = string_bytes l.text ≡ joined_pairs (pairs_to (count_in l.vector) (l.origin - 1))
