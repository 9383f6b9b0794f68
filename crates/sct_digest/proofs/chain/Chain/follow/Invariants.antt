-- What is kept is of the log.
use Rattle.std.proofs.Common.{length, ◌-◌}
use Rattle.sct_message.specs.Sets.{messages_in}
use Rattle.sct_digest.specs.Keeping.{IsKept}
use Rattle.sct_digest.proofs.chain.Chain.follow.Given as goal

abbrev pub invariant-loop-self : goal.invariant-loop-self
invariant-loop-self l = IsKept l.self (messages_in l.log)

abbrev pub decreases-loop-self : goal.decreases-loop-self
decreases-loop-self l = length l.log - l.self.count
