-- A finding is reported exactly if its relation holds.
use Rattle.sct_case.proofs.Exact.{tells_exactly}
use Rattle.sct_case.proofs.laws.findings_are_exact.Goals as goal

pub returns : goal.returns
returns c = tells_exactly
