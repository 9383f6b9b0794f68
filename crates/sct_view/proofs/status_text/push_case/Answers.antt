-- The lines of a transfer, one after another, by its case.
use Rattle.std.proofs.Common.{◌∙◌, ◌++◌, ap, map, sym, List, ℕ}
use Rattle.std.specs.Prelude.{string_bytes, flat_map}
use Rattle.sct_message.specs.Sets.{messages_in}
use Rattle.sct_case.specs.Statuses.{recall_status_of, transfer_status_of}
use Rattle.sct_case.specs.declared.status.RecallStatus.{RecallStatus}
use Rattle.sct_view.specs.Kept.{kept_in}
use Rattle.sct_view.specs.StatusText.{recall_line}
use Rattle.sct_view.proofs.RebuildLemmas.{lines_told}
use Rattle.sct_view.proofs.ToldLemmas.{case_told}
use Rattle.sct_view.proofs.status_text.push_case.Goals as goal

pub returns : goal.returns
returns c = λ held is.
    let t = c.args.transfer.now in
    let kept = kept_in c.args.case.now in
    case_told held t kept _ _ _ _ _ _ is
    c.findings_in.ensures (c.deref-2.ensures.value ∙ c.in_ok-cxls.ensures)
    c.in_ok-push_status_line.ensures c.in_ok-push_findings.ensures
    (c.in_ok-push_recall_lines.ensures
    ∙ ap (λ (l : List (List ℕ × RecallStatus)). string_bytes c.push_findings.new.text ++ flat_map (λ recall. recall_line t recall.0 recall.1) l) c.deref-3.ensures.value
    ∙ ap (λ (l : List ℕ). string_bytes c.push_findings.new.text ++ l)
    (lines_told held t kept is _ c.in_ok-recalls.recalls.items (λ asides stands.
    c.in_ok-recalls.ensures asides (stands ∙ ap (λ ms. transfer_status_of t (messages_in ms) asides) (sym c.deref.ensures.value))
    ∙ ap (λ ms. map (λ cxl. (cxl, recall_status_of t (messages_in ms) asides cxl)) c.deref-2.result.now) c.deref.ensures.value)))
