-- The object has keys of a transaction alone.
use Rattle.sct_json.proofs.PlainLists.{element_given}
use Rattle.sct_json.proofs.transaction.PlainTransactionListElement.read_alone.Goals as goal

pub returns : goal.returns
returns c = element_given c.read.result c.object.result.now c.args.self.now c.object.ensures.object c.object.ensures.keys c.read.ensures
