-- One more recall, reported if it passes the test.
use Rattle.std.proofs.Common.{◌∙◌, ◌++◌, ap}
use Rattle.sct_case.specs.declared.finding.Finding.TheVariants as finding
use Rattle.sct_case.specs.Told.{where_found, differ_among, refusal_of_it, same_refusal}
use Rattle.sct_case.proofs.Lists.{told_more}
use Rattle.sct_case.proofs.OfOneRecall.{differ_alike}
use Rattle.sct_case.proofs.contradictions.push_differing_refusals.Goals as goal

pub loop-cxl-preserved : goal.loop-cxl-preserved
loop-cxl-preserved c =
    let cxl = c.cxl-item.result in
    let differs = c.differ_on.ensures ∙ ap (differ_among (refusal_of_it cxl) same_refusal) c.deref.ensures.value ∙ differ_alike (refusal_of_it cxl) _ _ (c.in_ok-sorted.ensures.alike cxl) same_refusal in
    c.in_ok-push_if.ensures
    ∙ (λ i. c.loop-cxl.invariant i ++ where_found (differs i) (finding.RefusalsDiffer (c.copy.ensures i)))
    ∙ told_more (λ x. finding.RefusalsDiffer x) (λ x. differ_among (refusal_of_it x) same_refusal c.args.made.items) c.args.found.now.items c.args.cxls.now c.loop-cxl.cxl-index cxl c.loop-cxl-test.true c.cxl-item.is
