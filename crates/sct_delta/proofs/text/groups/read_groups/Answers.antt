-- One line more, and the end.
use Rattle.std.proofs.Common.{sym, ◌∙◌, arith, ◌≡◌, ◌≤◌, ◌+◌, ◌-◌, ◌^◌, [], true}
use Rattle.std.specs.Arc.{arc_value}
use Rattle.sct_delta.specs.GroupText.{groups_in, may_begin}
use Rattle.sct_delta.specs.TextLines.{lines_by_end, entries_ended}
use Rattle.sct_delta.proofs.GroupReadingLemmas.{read_message_more, read_message_wrong, begun, not_begun, read_origin_more, read_origin_wrong, read_groups_end}
use Rattle.sct_delta.proofs.GroupLemmas.{first_above_0, last_below}
use Rattle.sct_delta.proofs.text.groups.read_groups.Goals as goal
use Rattle.sct_delta.proofs.text.groups.read_groups.Goals.{then-due-eq0+in-Some-origin_of+in-Some-site_of_group, else-due-eq0+in_ok-message+in-Some-2+in_ok-message-2+in_ok-push}

at_end : (c : goal.After-ended) → groups_in 2 0 1 0 [] (lines_by_end c.args.text.now) ≡ entries_ended c.loop-line.place c.loop-line.entries.items c.in-Some.line.now (lines_by_end c.in-Some.after.now)
at_end c = c.loop-line.invariant.left ∙ read_groups_end _ _ _ _ _ _ _ _ c.in-Some.ensures.lines c.if-due-eq0.true c.in_default-origin_of.ensures

pub returns-in_default-origin_of-clause-read : goal.returns-in_default-origin_of-clause-read
returns-in_default-origin_of-clause-read c = rw (at_end c) c.ended.ensures.read

pub returns-in_default-origin_of-clause-wrong : goal.returns-in_default-origin_of-clause-wrong
returns-in_default-origin_of-clause-wrong c = rw (at_end c) c.ended.ensures.wrong

pub returns-in_default-site_of_group-clause-wrong : goal.returns-in_default-site_of_group-clause-wrong
returns-in_default-site_of_group-clause-wrong c =
    c.loop-line.invariant.left
    ∙ read_origin_wrong _ _ _ _ _ _ _ _ c.in-Some-origin_of.number c.in-Some-origin_of.first c.in-Some-origin_of.count c.in-Some.ensures.lines c.if-due-eq0.true c.in-Some-origin_of.ensures
    (not_begun _ _ c.in_default-site_of_group.ensures)

pub returns-in_default-2-clause-wrong : goal.returns-in_default-2-clause-wrong
returns-in_default-2-clause-wrong c =
    c.loop-line.invariant.left
    ∙ read_message_wrong _ _ _ _ _ _ _ _ c.in-Some.ensures.lines c.if-due-eq0.false (sym c.in_default-2.is ∙ c.in_ok-message.ensures)

pub loop-line-preserved : goal.loop-line-preserved
loop-line-preserved c =
    elim c.if-due-eq0.branch [
      | then-due-eq0+in-Some-origin_of+in-Some-site_of_group w ↦
          let begins : (may_begin c.loop-line.origin w.in-Some-origin_of.number w.in-Some-origin_of.first w.in-Some-origin_of.count ≡ true) × (w.in-Some-site_of_group.site ≡ w.in-Some-origin_of.number) =
          begun (may_begin c.loop-line.origin w.in-Some-origin_of.number w.in-Some-origin_of.first w.in-Some-origin_of.count) w.in-Some-origin_of.number w.in-Some-site_of_group.site w.in-Some-site_of_group.ensures in
          let above : 1 ≤ w.in-Some-origin_of.first = first_above_0 c.loop-line.origin w.in-Some-origin_of.number w.in-Some-origin_of.first w.in-Some-origin_of.count begins.0 in
          let last : w.in-Some-origin_of.first + w.in-Some-origin_of.count ≤ 2 ^ 64 = last_below c.loop-line.origin w.in-Some-origin_of.number w.in-Some-origin_of.first w.in-Some-origin_of.count begins.0 in
          let before_is : c.if-due-eq0.before ≡ w.in-Some-origin_of.first - 1 = w.before-is in
          let number : c.if-due-eq0.before + 1 ≡ w.in-Some-origin_of.first = omega (arith, above, before_is) in
          record {
            counted = omega (arith, c.in-Some.ensures.shorter);
            fits = let due_is : c.if-due-eq0.due ≡ w.in-Some-origin_of.count = w.due-is in omega (arith, above, last, before_is, due_is);
            left =
                let more = c.loop-line.invariant.left
                ∙ read_origin_more _ _ _ _ _ _ _ _ w.in-Some-origin_of.number w.in-Some-origin_of.first w.in-Some-origin_of.count c.in-Some.ensures.lines w.if-due-eq0.true w.in-Some-origin_of.ensures begins.0 in
                rw (number, w.origin-is, begins.1, w.due-is, w.entries-is) more;
          }
      | else-due-eq0+in_ok-message+in-Some-2+in_ok-message-2+in_ok-push w ↦
          let before_is : c.if-due-eq0.before ≡ c.loop-line.before + 1 = w.before-is in
          let due_is : c.if-due-eq0.due ≡ c.loop-line.due - 1 = w.due-is in
          record {
            counted = omega (arith, c.in-Some.ensures.shorter);
            fits = let some : c.loop-line.due ≡ 0 → ⊥ = w.if-due-eq0.false in grind (arith, some, before_is, due_is, c.loop-line.invariant.fits);
            left =
                let more = c.loop-line.invariant.left
                ∙ read_message_more _ _ _ _ _ _ _ _ w.in-Some-2.message c.in-Some.ensures.lines w.if-due-eq0.false (sym w.in-Some-2.is ∙ w.in_ok-message.ensures) in
                let shared : arc_value w.in_ok-message-2.message ≡ w.in-Some-2.message = w.in_ok-message-2.ensures.ok in
                rw (before_is, due_is, w.origin-is, w.entries-is, w.in_ok-push.ensures.items, shared) more;
          }
    ]
