-- The table of cases has the case of each transfer.
use Rattle.std.proofs.Common.{◌∙◌, ap}
use Rattle.sct_message.specs.Sets.{MessageSet}
use Rattle.sct_view.specs.Kept.{case_of}
use Rattle.sct_view.proofs.view.View.case_on.Goals as goal

pub returns : goal.returns
returns c = c.case.ensures ∙ c.self.invariant.0 c.args.transfer.now ∙ ap (λ (v : MessageSet). case_of v c.args.transfer.now) c.self.view_is
