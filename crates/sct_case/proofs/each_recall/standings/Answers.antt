-- One more recall.
use Rattle.std.proofs.Common.{◌≡◌, ◌∙◌, sym, ap, map, take, ℕ, List, [], ◌∷◌, ◌++◌}
use Rattle.std.proofs.lemmas.List.{map_more}
use Rattle.sct_message.specs.Sets.{messages_in}
use Rattle.sct_case.specs.declared.status.RecallStatus.{RecallStatus}
use Rattle.sct_case.specs.Statuses.{recall_standing_of}
use Rattle.sct_case.proofs.SaidOn.{judged_alike, judged_is}
use Rattle.sct_case.proofs.each_recall.standings.Goals as goal

pub loop-cxl-preserved : goal.loop-cxl-preserved
loop-cxl-preserved c =
    let said = c.in_ok-said.ensures in
    let t = c.args.transfer.now in
    let ms = messages_in c.args.clean.now in
    let cxl = c.cxl-item.result in
    let each : List ℕ → List ℕ × RecallStatus = λ x. (x, recall_standing_of t ms x) in
    let stands : c.standing.result ≡ recall_standing_of t ms cxl =
    c.standing.ensures
    ∙ judged_alike _ _ _ _ _ _ _ _ said.made said.returns said.refusals said.requests cxl
    ∙ judged_is t cxl ms in
    c.in_ok-push.ensures.items
    ∙ (λ i. let told : List ℕ × RecallStatus = (c.copy.ensures i, stands i) in c.loop-cxl.invariant i ++ told ∷ [])
    ∙ ap (λ (x : List ℕ). map each (take c.loop-cxl.cxl-index c.args.cxls.now) ++ each x ∷ []) c.cxl-item.is
    ∙ sym (map_more each c.args.cxls.now c.loop-cxl.cxl-index cxl c.loop-cxl-test.true)
