-- Each status of a recall is returned exactly if its sentence holds.
use Rattle.sct_case.proofs.RecallSentences.{tells_each_recall_status}
use Rattle.sct_case.proofs.laws.recall_statuses_are_exact.Goals as goal

pub returns : goal.returns
returns c = tells_each_recall_status
