-- The findings of a transfer stand in its status.
use Rattle.std.proofs.Common.{◌∙◌, ap}
use Rattle.sct_view.specs.Listed.{found_in}
use Rattle.sct_view.proofs.ToldLemmas.{found_on_status}
use Rattle.sct_view.proofs.view.View.findings.Goals as goal

pub returns : goal.returns
returns c = c.findings_in.ensures ∙ ap found_in c.status.ensures ∙ found_on_status c.args.self.now c.args.transfer.now
