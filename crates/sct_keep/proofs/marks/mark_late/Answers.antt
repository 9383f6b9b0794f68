-- One message more.
use Rattle.std.proofs.Common.{◌≡◌, ◌+◌, sym, subst, arith, List, Bool, Some}
use Rattle.std.proofs.lemmas.List.{length-map}
use Rattle.std.specs.Arc.{arc_value}
use Rattle.std.specs.List.{slice_get}
use Rattle.sct_message.specs.Sets.{messages_in}
use Rattle.sct_keep.specs.Marks.{AreMarkedMore}
use Rattle.sct_keep.proofs.MarkLemmas.{LateBelow, all_late, not_late, one_late}
use Rattle.sct_keep.proofs.TieLemmas.{got_draft}
use Rattle.sct_keep.proofs.marks.mark_late.Goals as goal
use Rattle.sct_keep.proofs.marks.mark_late.Goals.{then-is_late, else-is_late}

pub loop-number-preserved : goal.loop-number-preserved
loop-number-preserved c =
    let ms = messages_in c.args.messages.now in
    let ls = c.args.labels.now in
    let day = c.args.day.now in
    let n = c.loop-number.number in
    let m = c.deref.result.now in
    let first = c.args.marks.now in
    let at : slice_get ms n ≡ Some m = got_draft c.args.messages.now n c.index-messages-number.result m c.loop-number-test.true c.index-messages-number.is c.deref.ensures in
    elim c.if-is_late.branch [
      | then-is_late w ↦
          let late = c.is_late.ensures.late w.if-is_late.true in
          subst (λ (marks : List Bool). AreMarkedMore (LateBelow ls day ms (n + 1)) ls first marks) (sym w.marks-is)
          (one_late ls day ms n m first c.loop-number.marks w.mark.new.marks at late.0 late.1 c.loop-number.invariant w.mark.ensures)
      | else-is_late w ↦
          subst (λ (marks : List Bool). AreMarkedMore (LateBelow ls day ms (n + 1)) ls first marks) (sym w.marks-is)
          (not_late ls day ms n m first c.loop-number.marks at (c.is_late.ensures.early w.if-is_late.false) c.loop-number.invariant)
    ]

pub returns : goal.returns
returns c =
    let long = length-map c.args.messages.now arc_value in
    let past = c.loop-number-test.false in
    all_late c.args.labels.now c.args.day.now (messages_in c.args.messages.now) c.loop-number.number c.args.marks.now c.loop-number.marks
    (omega (arith, long, past)) c.loop-number.invariant
