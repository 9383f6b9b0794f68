-- Findings are reported in their order, each once.
use Rattle.sct_case.proofs.InOrder.{tells_in_order}
use Rattle.sct_case.proofs.laws.findings_are_in_order.Goals as goal

pub returns : goal.returns
returns c = tells_in_order
