-- The statuses of the recalls by the case of their transfer are those in the set.
use Rattle.std.proofs.Common.{◌∙◌, ap, map, sym}
use Rattle.sct_message.specs.Sets.{messages_in}
use Rattle.sct_case.specs.Statuses.{recall_status_of, transfer_status_of}
use Rattle.sct_view.specs.Answers.{recall_of}
use Rattle.sct_view.specs.Kept.{kept_in}
use Rattle.sct_view.proofs.RebuildLemmas.{statuses_told}
use Rattle.sct_view.proofs.ToldLemmas.{no_recalls, recalls_kept}
use Rattle.sct_view.proofs.view.View.recalls_with_statuses.Goals as goal

pub returns : goal.returns
returns c =
    let s = c.args.self.now in
    let t = c.args.transfer.now in
    let kept = kept_in c.in-Some.case.now in
    statuses_told s t kept c.in-Some.ensures _ c.in_ok-recalls.recalls.items (λ asides stands.
    c.in_ok-recalls.ensures asides (stands ∙ ap (λ ms. transfer_status_of t (messages_in ms) asides) (sym c.deref.ensures.value))
    ∙ ap (λ ms. map (λ cxl. (cxl, recall_status_of t (messages_in ms) asides cxl)) c.deref-2.result.now) c.deref.ensures.value)
    ∙ ap (map (λ cxl. (cxl, recall_of s (record { transfer = t; cxl = cxl }))))
    (c.deref-2.ensures.value ∙ c.in_ok-cxls.ensures ∙ recalls_kept s t kept c.in-Some.ensures)

-- a transfer without a case has no recalls
pub returns-in_default : goal.returns-in_default
returns-in_default c =
    let s = c.args.self.now in
    let t = c.args.transfer.now in
    c.new.ensures.items ∙ ap (map (λ cxl. (cxl, recall_of s (record { transfer = t; cxl = cxl })))) (no_recalls s t c.in_default.ensures)
