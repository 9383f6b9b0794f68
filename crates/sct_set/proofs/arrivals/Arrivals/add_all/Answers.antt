-- A message more in the list is one more in the union.
use Rattle.std.proofs.Common.{ap, sym, ◌∙◌, arith}
use Rattle.std.specs.Arc.{arc_value}
use Rattle.std.specs.FinSet as set
use Rattle.std.proofs.Math.Seq.{take-length}
use Rattle.sct_set.specs.Contents.{contents_of}
use Rattle.sct_set.proofs.ArchiveLemmas.{drafts_in-more}
use Rattle.sct_set.proofs.ContentsLemmas.{contents-with_new, front-with_new, length-with_new, union-none, union-push, HasNoRepeat-with_new}
use Rattle.sct_set.proofs.arrivals.Arrivals.add_all.Goals as goal

pub loop-message-init : goal.loop-message-init
loop-message-init c =
    rw c.reserve.ensures (record {
      union = sym (union-none _);
      no_repeat = c.requires;
      front = rw c.len-before.ensures (take-length _);
      grows = omega arith;
      before = c.len-before.ensures;
    })

pub loop-message-preserved : goal.loop-message-preserved
loop-message-preserved c =
    let longer = length-with_new c.loop-message.self (arc_value c.message-item.result) in
    rw c.in_default.ensures.ok (record {
      union =
          contents-with_new _ _
          ∙ ap (λ s. set.insert s (arc_value c.message-item.result)) c.loop-message.invariant.union
          ∙ sym (union-push _ _ _)
          ∙ ap (λ ds. set.union (contents_of c.reserve.new.self) (contents_of ds)) (sym (drafts_in-more _ _ _ c.loop-message-test.true c.message-item.is));
      no_repeat = HasNoRepeat-with_new _ _ c.loop-message.invariant.no_repeat;
      front = front-with_new _ _ _ c.loop-message.invariant.grows ∙ c.loop-message.invariant.front;
      grows = omega (arith, longer);
      before = c.loop-message.invariant.before;
    })
