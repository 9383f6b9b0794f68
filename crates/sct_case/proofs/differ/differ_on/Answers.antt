-- What is said of the recall is what passes its test.
use Rattle.std.proofs.Common.{◌∙◌, ap}
use Rattle.sct_element.specs.Text.{is_text}
use Rattle.sct_case.specs.Told.{differ}
use Rattle.sct_case.proofs.OfOneRecall.{differ_passed}
use Rattle.sct_case.proofs.differ.differ_on.Goals as goal

pub returns : goal.returns
returns g c =
    c.differ.ensures ∙ ap (differ g.S.Compared.same) c.on.ensures
    ∙ differ_passed (λ m. is_text (g.S.OfRecall.recall m) c.args.cxl.now) g.S.Compared.same c.args.said.now
