-- What is out, and the logs that are left.
use Rattle.std.proofs.Common.{◌≡◌, ◌++◌}
use Rattle.std.specs.List.{flat_map}
use Rattle.sct_delta.specs.Shelves.{above_on}
use Rattle.sct_delta.specs.Vectors.{count_in}
use Rattle.sct_delta.proofs.shelf.Shelf.above.Given as goal

abbrev pub invariant-loop-origin : goal.invariant-loop-origin
invariant-loop-origin l =
    l.out.items ++ flat_map (above_on (count_in l.vector)) l.origin-iterator
    ≡ flat_map (above_on (count_in l.vector)) l.self.logs.entries
