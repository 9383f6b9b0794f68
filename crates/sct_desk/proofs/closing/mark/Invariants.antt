-- The marks from the start on count one more, and the others are what they were.
use Rattle.std.proofs.Common.{◌≡◌, ◌<◌, ◌≤◌, ◌+◌, ◌⊎◌, ℕ, length}
use Rattle.std.specs.Prelude.{slice_index}
use Rattle.sct_desk.specs.Tilings.{up_to_two}
use Rattle.sct_desk.proofs.closing.mark.Given as goal

abbrev pub invariant-loop-at : goal.invariant-loop-at
invariant-loop-at l =
    (length l.marks ≡ length l.initial.marks)
    × ((k : ℕ) → l.start ≤ k → k < l.at → slice_index l.marks k ≡ up_to_two (slice_index l.initial.marks k + 1))
    × ((k : ℕ) → (k < l.start) ⊎ (l.at ≤ k) → slice_index l.marks k ≡ slice_index l.initial.marks k)
