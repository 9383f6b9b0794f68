-- What is said of the recall is what passes its test.
use Rattle.std.proofs.Common.{◌∙◌, ap, not, length, List}
use Rattle.std.specs.Prelude.{◌==◌}
use Rattle.sct_element.specs.Text.{is_text}
use Rattle.sct_case.proofs.OfOneRecall.{some_passed}
use Rattle.sct_case.proofs.differ.is_some_on.Goals as goal

pub returns : goal.returns
returns g c =
    ap not c.is_empty.ensures ∙ ap (λ (l : List _). not (length l == 0)) c.on.ensures
    ∙ some_passed (λ m. is_text (g.S.OfRecall.recall m) c.args.cxl.now) c.args.said.now
