-- The marks so far are 0.
use Rattle.std.proofs.Common.{◌≡◌, ◌<◌, ℕ, length}
use Rattle.std.specs.Prelude.{slice_index}
use Rattle.sct_desk.proofs.closing.clear.Given as goal

abbrev pub invariant-loop-at : goal.invariant-loop-at
invariant-loop-at l = (length l.marks ≡ length l.initial.marks) × ((k : ℕ) → k < l.at → slice_index l.marks k ≡ 0)
