-- One entry more is out, and one less is left.
use Rattle.std.proofs.Common.{◌∙◌, sym, ap, ◌++◌, ◌+◌, List, map, drop, append_assoc}
use Rattle.std.specs.Arc.{arc_value}
use Rattle.sct_delta.specs.Entries.{Placed, numbered}
use Rattle.sct_delta.proofs.EntryLemmas.{shared-step}
use Rattle.sct_delta.proofs.shelf.push_above.Goals as goal

pub loop-place-preserved : goal.loop-place-preserved
loop-place-preserved c =
    let place = c.loop-place.place in
    let left : List Placed = numbered c.args.origin (place + 1 + 1) (drop (place + 1) (map arc_value c.args.log.now)) in
    ap (λ (out : List Placed). out ++ left) c.in_ok-push.ensures.items
    ∙ append_assoc c.loop-place.out.items _ left
    ∙ ap (λ (rest : List Placed). c.loop-place.out.items ++ rest)
    (sym (shared-step c.args.origin place c.args.log.now c.index-log-place.result _ c.loop-place-test.true c.index-log-place.is c.in_ok-clone.ensures.cases))
    ∙ c.loop-place.invariant
