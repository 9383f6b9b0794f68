-- One more recall, reported if it passes the test.
use Rattle.std.proofs.Common.{◌∙◌, ◌++◌, ap}
use Rattle.std.specs.List.{list_any}
use Rattle.sct_case.specs.declared.finding.Finding.TheVariants as finding
use Rattle.sct_case.specs.Told.{where_found, return_of_it}
use Rattle.sct_case.proofs.Lists.{told_more}
use Rattle.sct_case.proofs.OfOneRecall.{some_alike}
use Rattle.sct_case.proofs.contradictions.push_both_answers.Goals as goal

pub loop-cxl-preserved : goal.loop-cxl-preserved
loop-cxl-preserved c =
    let cxl = c.cxl-item.result in
    let answered = c.is_returned_after.ensures ∙ ap (list_any (return_of_it cxl)) c.deref.ensures.value ∙ some_alike (return_of_it cxl) _ _ (c.in_ok-sorted.ensures.alike cxl) in
    c.in_ok-push_if.ensures
    ∙ (λ i. c.loop-cxl.invariant i ++ where_found (answered i) (finding.BothAnswers (c.copy.ensures i)))
    ∙ told_more (λ x. finding.BothAnswers x) (λ x. list_any (return_of_it x) c.args.returns.items) c.args.found.now.items c.args.cxls.now c.loop-cxl.cxl-index cxl c.loop-cxl-test.true c.cxl-item.is
