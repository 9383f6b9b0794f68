-- Each recall of a contradicted transfer is contradicted, and any other has the status that its messages give.
use Rattle.std.proofs.Common.{◌∙◌, subst, sym, map, ℕ, List}
use Rattle.sct_message.specs.Sets.{messages_in}
use Rattle.sct_case.specs.Statuses.{as_standing}
use Rattle.sct_case.proofs.LookedUp.{IsContradictedStanding, recall_clear_by, recall_contradicted_by, told_clear}
use Rattle.sct_case.proofs.each_recall.recall_statuses.Goals as goal

pub returns-in_ok-all_contradicted-in-Contradicted : goal.returns-in_ok-all_contradicted-in-Contradicted
returns-in_ok-all_contradicted-in-Contradicted c = λ asides stands.
    let each = λ (cxl : List ℕ). recall_contradicted_by c.args.transfer.now (messages_in c.args.clean.now) asides cxl (as_standing c.args.status.now) stands
    (subst (λ s. IsContradictedStanding (as_standing s)) (sym c.in-Contradicted.is) tt) in
    c.in_ok-all_contradicted-in-Contradicted.ensures ∙ (λ i. map (λ cxl. (cxl, each cxl i)) c.args.cxls.now)

pub returns-in_ok-standings-in_default : goal.returns-in_ok-standings-in_default
returns-in_ok-standings-in_default c = λ asides stands.
    let clear = told_clear c.args.status.now c.in_default.not-Contradicted in
    let each = λ (cxl : List ℕ). recall_clear_by c.args.transfer.now (messages_in c.args.clean.now) asides cxl (as_standing c.args.status.now) stands clear in
    c.in_ok-standings-in_default.ensures ∙ (λ i. map (λ cxl. (cxl, each cxl i)) c.args.cxls.now)
