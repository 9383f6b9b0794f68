-- The case of a transfer has its status.
use Rattle.std.proofs.Common.{◌∙◌}
use Rattle.sct_view.specs.Kept.{kept_in, no_messages}
use Rattle.sct_view.proofs.ToldLemmas.{stands_kept}
use Rattle.sct_view.proofs.view.View.status.Goals as goal

pub returns-in-Some : goal.returns-in-Some
returns-in-Some c = stands_kept c.args.self.now c.args.transfer.now (kept_in c.in-Some.case.now) c.in-Some.ensures

pub returns-in-None : goal.returns-in-None
returns-in-None c = c.self.invariant.1 ∙ stands_kept c.args.self.now c.args.transfer.now no_messages c.in-None.ensures
