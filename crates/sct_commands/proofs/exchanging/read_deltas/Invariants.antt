-- The files so far are what the texts of the paths gone through are read as. None failed.
use Rattle.std.proofs.Common.{◌≡◌, map, take}
use Rattle.sct_commands.specs.Exchanging.{AreReadAs}
use Rattle.sct_commands.proofs.exchanging.read_deltas.Given as goal

abbrev pub invariant-loop-path : goal.invariant-loop-path
invariant-loop-path g l =
    AreReadAs (g.R.Files.gives l.files) (map (λ path. path.now) (take l.path-index l.paths)) l.deltas.items
    × (l.reading.failures ≡ l.initial.reading.failures)
