-- By the lemma of that law.
use Rattle.sct_world.proofs.LawLemmas.{equal_reports}
use Rattle.sct_world.proofs.laws.equal_sets_report_alike.Goals as goal

pub returns : goal.returns
returns c = equal_reports
