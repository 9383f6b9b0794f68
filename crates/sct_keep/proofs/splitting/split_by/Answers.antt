-- One message more.
use Rattle.std.proofs.Common.{◌≡◌, ◌∙◌, ◌+◌, sym, ap, subst, arith, ℕ, not, Some, [], ◌∷◌, ◌++◌}
use Rattle.std.proofs.lemmas.List.{length-map, map-append}
use Rattle.std.specs.Arc.{arc_value}
use Rattle.std.specs.List.{slice_get}
use Rattle.sct_message.specs.Sets.{messages_in}
use Rattle.sct_keep.specs.Marks.{is_marked}
use Rattle.sct_keep.proofs.SplitLemmas.{AreLabelledBelow, all_labelled, not_labelled, one_labelled}
use Rattle.sct_keep.proofs.TieLemmas.{got_draft}
use Rattle.sct_keep.proofs.splitting.split_by.Goals as goal
use Rattle.sct_keep.proofs.splitting.split_by.Goals.{then-is_marked+in_ok-push, else-is_marked+in_ok-push-2}

pub loop-number-preserved : goal.loop-number-preserved
loop-number-preserved c =
    let ms = messages_in c.args.messages.now in
    let ls = c.args.labels.now in
    let n = c.loop-number.number in
    let x = c.in_ok-message.message in
    let m = arc_value x in
    let yes = λ (l : ℕ). is_marked c.args.marks.now l in
    let nay = λ (l : ℕ). not (is_marked c.args.marks.now l) in
    let kept = c.loop-number.kept.items in
    let closed = c.loop-number.closed.items in
    let at : slice_get ms n ≡ Some m = got_draft c.args.messages.now n c.index-messages-number.result m c.loop-number-test.true c.index-messages-number.is c.in_ok-message.ensures.cases in
    let old = c.loop-number.invariant in
    elim c.if-is_marked.branch [
      | then-is_marked+in_ok-push w ↦
          let marked = sym c.is_marked.ensures ∙ w.if-is_marked.true in
          let more : messages_in w.push.new.self.items ≡ messages_in kept ++ m ∷ [] = ap messages_in w.in_ok-push.ensures.items ∙ map-append arc_value kept (x ∷ []) in (
            subst (λ v. AreLabelledBelow (n + 1) ms ls yes (messages_in v.items)) (sym w.kept-is)
                (subst (AreLabelledBelow (n + 1) ms ls yes) (sym more) (one_labelled ms ls yes n m (messages_in kept) at marked old.0)),
            subst (λ v. AreLabelledBelow (n + 1) ms ls nay (messages_in v.items)) (sym w.closed-is)
                (not_labelled ms ls nay n (messages_in closed) (ap not marked) old.1),
          )
      | else-is_marked+in_ok-push-2 w ↦
          let away = sym c.is_marked.ensures ∙ w.if-is_marked.false in
          let more : messages_in w.push-else-is_marked.new.self.items ≡ messages_in closed ++ m ∷ [] = ap messages_in w.in_ok-push-2.ensures.items ∙ map-append arc_value closed (x ∷ []) in (
            subst (λ v. AreLabelledBelow (n + 1) ms ls yes (messages_in v.items)) (sym w.kept-is)
                (not_labelled ms ls yes n (messages_in kept) away old.0),
            subst (λ v. AreLabelledBelow (n + 1) ms ls nay (messages_in v.items)) (sym w.closed-is)
                (subst (AreLabelledBelow (n + 1) ms ls nay) (sym more) (one_labelled ms ls nay n m (messages_in closed) at (ap not away) old.1)),
          )
    ]

pub returns-clause-kept : goal.returns-clause-kept
returns-clause-kept c =
    let long = length-map c.args.messages.now arc_value in
    let past = c.loop-number-test.false in
    all_labelled (messages_in c.args.messages.now) c.args.labels.now (is_marked c.args.marks.now) c.loop-number.number (messages_in c.loop-number.kept.items)
    (omega (arith, long, past)) c.loop-number.invariant.0

pub returns-clause-closed : goal.returns-clause-closed
returns-clause-closed c =
    let long = length-map c.args.messages.now arc_value in
    let past = c.loop-number-test.false in
    all_labelled (messages_in c.args.messages.now) c.args.labels.now (λ l. not (is_marked c.args.marks.now l)) c.loop-number.number (messages_in c.loop-number.closed.items)
    (omega (arith, long, past)) c.loop-number.invariant.1
