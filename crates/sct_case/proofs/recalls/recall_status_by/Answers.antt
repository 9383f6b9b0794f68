-- The findings decide; if there is none, what is said of the recall.
use Rattle.std.proofs.Common.{◌∙◌, subst, sym}
use Rattle.sct_message.specs.Sets.{messages_in}
use Rattle.sct_case.specs.Inside.{recall_standing_said}
use Rattle.sct_case.specs.Statuses.{as_standing}
use Rattle.sct_case.proofs.LookedUp.{IsContradictedStanding, recall_clear_by, recall_contradicted_by, told_clear}
use Rattle.sct_case.proofs.SaidOn.{judged_is}
use Rattle.sct_case.proofs.recalls.recall_status_by.Goals as goal

pub returns-in-Contradicted : goal.returns-in-Contradicted
returns-in-Contradicted c = λ asides stands.
    recall_contradicted_by c.args.transfer.now (messages_in c.args.clean.now) asides c.args.cxl.now (as_standing c.args.status.now) stands
    (subst (λ s. IsContradictedStanding (as_standing s)) (sym c.in-Contradicted.is) tt)

pub returns-in_default : goal.returns-in_default
returns-in_default c = λ asides stands.
    let said = c.of.ensures in
    c.status.ensures
    ∙ (λ i. recall_standing_said (record { made = said.made i; returned = said.returned i; refused = said.refused i; chased = said.chased i }))
    ∙ judged_is c.args.transfer.now c.args.cxl.now (messages_in c.args.clean.now)
    ∙ recall_clear_by c.args.transfer.now (messages_in c.args.clean.now) asides c.args.cxl.now (as_standing c.args.status.now) stands (told_clear c.args.status.now c.in_default.not-Contradicted)
