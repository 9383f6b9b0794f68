-- The inputs so far are what the files of the paths gone through give, and none is too long. None failed.
use Rattle.std.proofs.Common.{◌≡◌, map, take}
use Rattle.sct_streams.specs.Files.{AreGiven}
use Rattle.sct_workers.specs.Files.{bytes_of}
use Rattle.sct_commands.specs.Stream.{AreWithin}
use Rattle.sct_commands.proofs.files.read_files.Given as goal

abbrev pub invariant-loop-path : goal.invariant-loop-path
invariant-loop-path g l =
    AreGiven (g.R.Files.gives l.files) (map (λ path. path.now) (take l.path-index l.paths)) (bytes_of l.inputs.items)
    × AreWithin (bytes_of l.inputs.items)
    × (l.reading.failures ≡ l.initial.reading.failures)
