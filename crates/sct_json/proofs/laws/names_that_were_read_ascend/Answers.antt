-- The names of an object that was read ascend.
use Rattle.sct_json.proofs.Names.{names_read}
use Rattle.sct_json.proofs.laws.names_that_were_read_ascend.Goals as goal

pub returns : goal.returns
returns c = names_read
