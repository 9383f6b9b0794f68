-- A message breaks no rule, and so is about 1 to 100 transfers.
use Rattle.sct_message.proofs.AllRules.{few_transfers}
use Rattle.sct_message.proofs.messages.Message.transfer_count.Goals as goal

pub returns-clause-some : goal.returns-clause-some
returns-clause-some c = rw (c.transfer_count.ensures) (few_transfers c.self.inside.draft c.self.invariant).0

pub returns-clause-few : goal.returns-clause-few
returns-clause-few c = rw (c.transfer_count.ensures) (few_transfers c.self.inside.draft c.self.invariant).1
