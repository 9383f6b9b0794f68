-- The first of a list is the first that passes a test which all pass.
use Rattle.std.proofs.Common.{◌≡◌, ◌∙◌, ap, Bool, List, [], ◌∷◌, Some, not}
use Rattle.std.specs.List.{list_any, slice_get}
use Rattle.sct_case.specs.Told.{differ}
use Rattle.sct_case.proofs.differ.differ.Goals as goal

from_first : {X : Type 0} (same : X → X → Bool) (x : X) (xs : List X) → Some x ≡ slice_get xs 0 → list_any (λ other. not (same x other)) xs ≡ differ same xs
from_first same x [] e = cc
from_first same x (y ∷ ys) e = let h : Some x ≡ Some y = e in let k : x ≡ y = cc in ap (λ one. list_any (λ other. not (same one other)) (y ∷ ys)) k

pub returns-in-Some : goal.returns-in-Some
returns-in-Some g c = c.differs.ensures ∙ from_first g.S.Compared.same c.in-Some.one.now c.args.said.now c.in-Some.ensures.value
