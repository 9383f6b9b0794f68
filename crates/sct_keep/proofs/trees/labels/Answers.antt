-- One label more.
use Rattle.std.proofs.Common.{◌≡◌, ◌∙◌, ◌+◌, sym, subst, arith}
use Rattle.std.proofs.lemmas.List.{get_or_default}
use Rattle.std.specs.Prelude.{slice_index, slice_set}
use Rattle.sct_keep.proofs.TreeLemmas.{AreLabelsBelow, one_label}
use Rattle.sct_keep.proofs.trees.labels.Goals as goal

pub loop-number-preserved : goal.loop-number-preserved
loop-number-preserved c =
    let ps = c.args.parents.now in
    let ls = c.loop-number.labels.items in
    let n = c.loop-number.number in
    let v : c.index-label.result.now ≡ slice_index ls (slice_index ps n) =
    let low = c.requires.parents n c.loop-number-test.true in
    let within = c.loop-number-test.true in
    let long = c.loop-number.invariant.count in
    c.index-label.ensures ∙ get_or_default ls (slice_index ps n) c.index-label.result.now 0 (omega (arith, low, within, long)) in
    subst (λ x. AreLabelsBelow (n + 1) (slice_set ls n x) ps) (sym v) (one_label ps ls n c.requires.parents c.loop-number-test.true c.loop-number.invariant)
