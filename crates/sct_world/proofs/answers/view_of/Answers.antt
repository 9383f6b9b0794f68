-- The archive shares the messages of the other, and the view those of the archive.
use Rattle.std.proofs.Common.{ap, ◌∙◌}
use Rattle.std.specs.FinSet as set
use Rattle.sct_set.specs.Contents.{Contents}
use Rattle.sct_set.proofs.ContentsLemmas.{union-none}
use Rattle.sct_set.proofs.LawLemmas.{commutative}
use Rattle.sct_world.proofs.answers.view_of.Goals as goal

pub returns : goal.returns
returns c =
    c.in_ok-of.ensures
    ∙ c.in_ok-merge.ensures.ok
    ∙ ap (λ (s : Contents). set.union s c.args.archive.now) c.new-shared.ensures
    ∙ commutative set.empty c.args.archive.now
    ∙ union-none c.args.archive.now
