-- The roots of both numbers are joined, and so are the numbers.
use Rattle.sct_keep.proofs.TreeLemmas.{other_way, roots_joined, still_joined, then_before}
use Rattle.sct_keep.proofs.trees.join.Goals as goal

pub returns-then-second-first : goal.returns-then-second-first
returns-then-second-first c =
    let a = c.args.parents.now in
    let b = c.root-first.new.parents in
    let d = c.root-second.new.parents in
    roots_joined a d c.link.new.parents c.args.one c.args.other c.root-first.result c.root-second.result
    (then_before a b d c.root-first.ensures.as_before c.root-second.ensures.as_before)
    (still_joined b d c.args.one c.root-first.result c.root-second.ensures.as_before c.root-first.ensures.joined)
    c.root-second.ensures.joined c.link.ensures

pub returns-else-second-first : goal.returns-else-second-first
returns-else-second-first c =
    let a = c.args.parents.now in
    let b = c.root-first.new.parents in
    let d = c.root-second.new.parents in
    let e = c.link-else-second-first.new.parents in
    roots_joined a d e c.args.one c.args.other c.root-first.result c.root-second.result
    (then_before a b d c.root-first.ensures.as_before c.root-second.ensures.as_before)
    (still_joined b d c.args.one c.root-first.result c.root-second.ensures.as_before c.root-first.ensures.joined)
    c.root-second.ensures.joined (other_way d e c.root-second.result c.root-first.result c.link-else-second-first.ensures)
