-- The item at index 0 is the first.
use Rattle.std.proofs.Common.{◌≡◌, ◌∙◌, refl, List, [], ◌∷◌}
use Rattle.std.specs.List.{slice_get}
use Rattle.sct_case.specs.Statuses.{first}
use Rattle.sct_case.proofs.differ.first.Goals as goal

is_first : {X : Type 0} (xs : List X) → slice_get xs 0 ≡ first xs
is_first [] = refl
is_first (x ∷ xs) = refl

pub returns : goal.returns
returns g c = c.first.ensures.value ∙ is_first c.args.said.now
