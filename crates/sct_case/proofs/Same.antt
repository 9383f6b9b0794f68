-- Statements are the same exactly if all their parts are.
use Rattle.std.proofs.Common.{◌≡◌, ap}
use Rattle.std.specs.Bool.{Decides}
use Rattle.std.specs.Cmp.Lexicographic.{bytes_decides}
use Rattle.std.proofs.lemmas.Bool.Decides.{Decides-and, Decides-eqb, Decides-like}
use Rattle.sct_reason.specs.declared.reasons.Reason.{Reason}
use Rattle.sct_reason.specs.Codes.{reason_text}
use Rattle.sct_reason.specs.ReasonLaws.{same_text}
use Rattle.sct_element.specs.Text.{is_text}
use Rattle.sct_case.specs.declared.said.RejectionReason.{RejectionReason}
use Rattle.sct_case.specs.declared.said.RecallMade.{RecallMade}
use Rattle.sct_case.specs.declared.said.ReturnMade.{ReturnMade}
use Rattle.sct_case.specs.declared.said.RefusalMade.{RefusalMade}
use Rattle.sct_case.specs.Told.{same_reason, same_recall_made, same_return, same_refusal}

code-Decides : (r q : Reason) → Decides (is_text (reason_text r) (reason_text q)) (r ≡ q)
code-Decides r q = Decides-like _ (same_text r q) (ap reason_text) (bytes_decides (reason_text r) (reason_text q))

pub reason-Decides : (a b : RejectionReason) → Decides (same_reason a b) (a ≡ b)
reason-Decides a b = Decides-like _ (λ e i. record { reason = e i }) (λ e i. (e i).reason) (code-Decides a.reason b.reason)

pub recall-Decides : (a b : RecallMade) → Decides (same_recall_made a b) (a ≡ b)
recall-Decides a b = Decides-like _
    (λ e i. record { cxl = e.0.0 i; amount = e.0.1 i; reason = e.1 i })
    (λ e. ((λ i. (e i).cxl, λ i. (e i).amount), λ i. (e i).reason))
    (Decides-and _ _ (Decides-and _ _ (bytes_decides a.cxl b.cxl) (Decides-eqb a.amount b.amount)) (code-Decides a.reason b.reason))

pub return-Decides : (a b : ReturnMade) → Decides (same_return a b) (a ≡ b)
return-Decides a b = Decides-like _
    (λ e i. record { return_id = e.0.0 i; cxl = e.0.1 i; amount = e.1 i })
    (λ e. ((λ i. (e i).return_id, λ i. (e i).cxl), λ i. (e i).amount))
    (Decides-and _ _ (Decides-and _ _ (bytes_decides a.return_id b.return_id) (bytes_decides a.cxl b.cxl)) (Decides-eqb a.amount b.amount))

pub refusal-Decides : (a b : RefusalMade) → Decides (same_refusal a b) (a ≡ b)
refusal-Decides a b = Decides-like _
    (λ e i. record { cxl = e.0 i; reason = e.1 i })
    (λ e. (λ i. (e i).cxl, λ i. (e i).reason))
    (Decides-and _ _ (bytes_decides a.cxl b.cxl) (code-Decides a.reason b.reason))
