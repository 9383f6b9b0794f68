-- Each call has one site less.
use Rattle.std.proofs.Common.{length}
use Rattle.sct_world.proofs.settling.+are_one_group.Given as goal

abbrev pub decreases-are_one_group : goal.decreases-are_one_group
decreases-are_one_group l = length l.cores.now
