-- The clean messages of a set on a transfer have no identity twice.
use Rattle.sct_case.proofs.Stays.{messages_apart}
use Rattle.sct_case.proofs.laws.messages_are_apart.Goals as goal

pub returns : goal.returns
returns c = messages_apart
