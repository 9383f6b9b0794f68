-- Properties of the elements of a list by their places. Proof plumbing.
use Rattle.std.specs.Prelude.{ℕ, ◌≡◌, List, Some}
use Rattle.std.specs.List.{slice_get}

-- each element has the property that belongs to its place, from 0
abbrev pub AtEach : {X : Type 0} → (ℕ → X → Type 0) → List X → Type 0
AtEach {X} P xs = (at : ℕ) (x : X) → slice_get xs at ≡ Some x → P at x
