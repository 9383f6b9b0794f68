-- The place of the first transaction with a foreign originator bank. Proof plumbing.
use Rattle.std.proofs.Common.{◌≡◌, refl, Bool, List, [], ◌∷◌, map, arith}
use Rattle.std.specs.Prelude.{position}

-- the first place at which a test passes, over the values of a function
pub position_over : {X Y : Type 0} (p : Y → Bool) (f : X → Y) (xs : List X) → position (λ x. p (f x)) xs ≡ position p (map f xs)
position_over p f [] = refl
position_over p f (x ∷ xs) = grind (arith, position_over p f xs)
