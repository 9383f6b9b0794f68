-- Entries in blocks that are shared. Read by an auditor.
use Rattle.std.specs.Prelude.{◌++◌, List, [], ◌∷◌, map, Vec}
use Rattle.std.specs.Global.{Global}
use Rattle.std.specs.Arc.{arc_value}
use Rattle.std.specs.declared.sync.Arc.{Arc}
use Rattle.sct_delta.specs.Entries.{Placed}

abbrev pub joined_items : List (Vec Placed Global) → List Placed
joined_items [] = []
joined_items (block ∷ blocks) = block.items ++ joined_items blocks

-- the entries of blocks, one after another
abbrev pub in_blocks : List (Arc (Vec Placed Global) Global) → List Placed
in_blocks blocks = joined_items (map arc_value blocks)
