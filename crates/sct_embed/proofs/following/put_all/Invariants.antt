-- Some entries are in.
use Rattle.std.proofs.Common.{length}
use Rattle.sct_embed.proofs.FollowLemmas.{ArePut}
use Rattle.sct_embed.proofs.following.put_all.Given as goal

abbrev pub invariant-loop-entry : goal.invariant-loop-entry
invariant-loop-entry l = ArePut l.fn.core l.core l.entries l.rest

abbrev pub decreases-loop-entry : goal.decreases-loop-entry
decreases-loop-entry l = length l.rest
