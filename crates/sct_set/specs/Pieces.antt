-- A text in pieces. Read by an auditor.
use Rattle.std.specs.Prelude.{ℕ, List}
use Rattle.std.specs.Global.{Vec}
use Rattle.std.specs.List.{flat_map}

-- the pieces of a text, one after another
abbrev pub joined : List (Vec ℕ) → List ℕ
joined pieces = flat_map (λ piece. piece.items) pieces
