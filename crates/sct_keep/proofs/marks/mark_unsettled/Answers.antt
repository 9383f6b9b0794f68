-- One transfer more.
use Rattle.std.proofs.Common.{◌≡◌, ◌∙◌, ◌+◌, sym, ap, subst, take, List, Bool, Some}
use Rattle.std.proofs.lemmas.Option.{slice_get-get_or}
use Rattle.std.specs.List.{slice_get}
use Rattle.sct_message.specs.declared.keys.TransferKey.{TransferKey}
use Rattle.sct_keep.specs.Marks.{AreMarkedMore, IsUnsettled}
use Rattle.sct_keep.proofs.MarkLemmas.{one_settled, one_unsettled}
use Rattle.sct_keep.proofs.marks.mark_unsettled.Goals as goal
use Rattle.sct_keep.proofs.marks.mark_unsettled.Goals.{then-not-branch, else-not-branch}

pub loop-transfer-preserved : goal.loop-transfer-preserved
loop-transfer-preserved c =
    let ls = c.args.labels.now in
    let ts = c.deref-transfer-items.result.now in
    let held = c.args.view.now in
    let index = c.args.first.now in
    let begun = c.args.marks.now in
    let n = c.loop-transfer.transfer-index in
    let t = c.transfer-item.result in
    let at : slice_get ts n ≡ Some t =
    slice_get-get_or ts n t c.loop-transfer-test.true ∙ ap (λ (x : TransferKey). Some x) (sym c.transfer-item.is) in
    elim c.if-not-branch.branch [
      | then-not-branch w ↦
          subst (λ (marks : List Bool). AreMarkedMore (IsUnsettled held index (take (n + 1) ts)) ls begun marks) (sym w.marks-is)
          (one_unsettled ls held index ts n t at begun c.loop-transfer.marks w.mark_transfer.new.marks (sym c.in_ok-is_settled.ensures ∙ w.if-not-branch.true)
          c.loop-transfer.invariant w.mark_transfer.ensures)
      | else-not-branch w ↦
          subst (λ (marks : List Bool). AreMarkedMore (IsUnsettled held index (take (n + 1) ts)) ls begun marks) (sym w.marks-is)
          (one_settled ls held index ts n t at begun c.loop-transfer.marks (sym c.in_ok-is_settled.ensures ∙ w.if-not-branch.false) c.loop-transfer.invariant)
    ]
