-- What is said of the recall is what passes its test.
use Rattle.std.proofs.Common.{◌∙◌, ap}
use Rattle.sct_element.specs.Text.{is_text}
use Rattle.sct_case.specs.Statuses.{first}
use Rattle.sct_case.proofs.OfOneRecall.{first_passed}
use Rattle.sct_case.proofs.differ.first_on.Goals as goal

pub returns : goal.returns
returns g c = c.first.ensures ∙ ap first c.on.ensures ∙ first_passed (λ m. is_text (g.S.OfRecall.recall m) c.args.cxl.now) c.args.said.now
