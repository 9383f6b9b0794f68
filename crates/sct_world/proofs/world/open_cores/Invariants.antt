-- The sites so far are numbered from 1.
use Rattle.std.proofs.Common.{◌≡◌, []}
use Rattle.std.specs.Prelude.{replicate}
use Rattle.sct_world.specs.Inside.{cores_from}
use Rattle.sct_world.proofs.world.open_cores.Given as goal

abbrev pub invariant-loop-number : goal.invariant-loop-number
invariant-loop-number l = l.cores.items ≡ cores_from 1 l.sites (replicate l.number [])
