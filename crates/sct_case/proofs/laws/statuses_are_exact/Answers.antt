-- Each status of a transfer is returned exactly if its sentence holds.
use Rattle.sct_case.proofs.Sentences.{tells_each_status}
use Rattle.sct_case.proofs.laws.statuses_are_exact.Goals as goal

pub returns : goal.returns
returns c = tells_each_status
