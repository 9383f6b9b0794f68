-- What is looked up gives the status of the recall.
use Rattle.std.proofs.Common.{◌∙◌, ap}
use Rattle.std.specs.List.{list_any}
use Rattle.sct_case.specs.Inside.{recall_standing_said}
use Rattle.sct_case.specs.Statuses.{amount_returned, reason_refused, request_of_it}
use Rattle.sct_case.specs.Told.{recall_of_it}
use Rattle.sct_case.proofs.each_recall.SaidByRecall.standing.Goals as goal

pub returns : goal.returns
returns c =
    let cxl = c.args.cxl.now in
    let made = c.is_some_on.ensures ∙ ap (list_any (recall_of_it cxl)) c.deref.ensures.value in
    let amount = c.amount_returned.ensures ∙ ap (amount_returned cxl) c.deref-2.ensures.value in
    let reason = c.reason_refused.ensures ∙ ap (reason_refused cxl) c.deref-3.ensures.value in
    let asked = c.is_some_on-2.ensures ∙ ap (list_any (request_of_it cxl)) c.deref-4.ensures.value in
    c.status.ensures ∙ (λ i. recall_standing_said (record { made = made i; returned = amount i; refused = reason i; chased = asked i }))
