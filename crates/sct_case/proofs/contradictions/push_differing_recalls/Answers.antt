-- One more recall, reported if it passes the test.
use Rattle.std.proofs.Common.{◌∙◌, ◌++◌, ap}
use Rattle.sct_case.specs.declared.finding.Finding.TheVariants as finding
use Rattle.sct_case.specs.Told.{where_found, differ_among, recall_of_it, same_recall_made}
use Rattle.sct_case.proofs.Lists.{told_more}
use Rattle.sct_case.proofs.OfOneRecall.{differ_alike}
use Rattle.sct_case.proofs.contradictions.push_differing_recalls.Goals as goal

pub loop-cxl-preserved : goal.loop-cxl-preserved
loop-cxl-preserved c =
    let cxl = c.cxl-item.result in
    let differs = c.differ_on.ensures ∙ ap (differ_among (recall_of_it cxl) same_recall_made) c.deref.ensures.value ∙ differ_alike (recall_of_it cxl) _ _ (c.in_ok-sorted.ensures.alike cxl) same_recall_made in
    c.in_ok-push_if.ensures
    ∙ (λ i. c.loop-cxl.invariant i ++ where_found (differs i) (finding.RecallsDiffer (c.copy.ensures i)))
    ∙ told_more (λ x. finding.RecallsDiffer x) (λ x. differ_among (recall_of_it x) same_recall_made c.args.made.items) c.args.found.now.items c.args.cxls.now c.loop-cxl.cxl-index cxl c.loop-cxl-test.true c.cxl-item.is
