-- One transfer more, and in the end all of them.
use Rattle.std.proofs.Common.{◌≡◌, ◌∙◌, ◌+◌, ◌-◌, length, ap, sym, subst, arith, Some}
use Rattle.std.specs.Arc.{arc_value}
use Rattle.std.specs.List.{slice_get}
use Rattle.std.proofs.lemmas.List.{take_all}
use Rattle.sct_message.specs.Keys.{transfers_of}
use Rattle.sct_message.specs.declared.draft.Draft.{Draft}
use Rattle.sct_view.proofs.FiledLemmas.{IsFiledUpTo, filed_again, filed_all, filed_none, filed_one}
use Rattle.sct_rights.proofs.filed.file_each.Goals as goal
use Rattle.sct_rights.proofs.filed.file_each.Goals.{then-not-is_as_before+in_ok-clone+in_ok-file, else-not-is_as_before}

pub loop-i-init : goal.loop-i-init
loop-i-init c = λ ms filed. filed_none (arc_value c.args.message.now) ms c.args.index.now filed

pub loop-i-preserved : goal.loop-i-preserved
loop-i-preserved c =
    let message = arc_value c.args.message.now in
    let next : slice_get (transfers_of message) c.loop-i.i ≡ Some c.in-Some.transfer = ap (λ (d : Draft). slice_get (transfers_of d) c.loop-i.i) (sym c.deref-in-loop-i.ensures) ∙ sym c.in-Some.ensures in
    elim c.if-not-is_as_before.branch [
      | then-not-is_as_before+in_ok-clone+in_ok-file w ↦ λ ms filed.
          subst (λ index. IsFiledUpTo (c.loop-i.i + 1) message index ms) (sym w.index-is)
          (filed_one message ms c.loop-i.index w.file.new.index c.loop-i.i c.in-Some.transfer w.in_ok-clone.field-0 next w.in_ok-clone.ensures.cases w.in_ok-file.ensures.ok (c.loop-i.invariant ms filed))
      | else-not-is_as_before w ↦ λ ms filed.
          let as_before = c.is_as_before.ensures w.if-not-is_as_before.false in
          subst (λ index. IsFiledUpTo (c.loop-i.i + 1) message index ms) (sym w.index-is)
          (filed_again message ms c.loop-i.index c.loop-i.i c.in-Some.transfer as_before.0
          (ap (λ (d : Draft). slice_get (transfers_of d) (c.loop-i.i - 1)) (sym c.deref-in-loop-i-2.ensures) ∙ as_before.1) next (c.loop-i.invariant ms filed))
    ]

pub returns : goal.returns
returns c = λ ms filed.
    let many : length (transfers_of c.deref.result.now) ≡ length (transfers_of (arc_value c.args.message.now)) = ap (λ (d : Draft). length (transfers_of d)) c.deref.ensures in
    filed_all (arc_value c.args.message.now) ms c.loop-i.index c.loop-i.i (take_all c.loop-i.i (transfers_of (arc_value c.args.message.now)) (omega arith)) (c.loop-i.invariant ms filed)
