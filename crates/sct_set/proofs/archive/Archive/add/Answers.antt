-- What is held after a message came.
use Rattle.std.proofs.Common.{ap, ◌∙◌}
use Rattle.std.specs.Arc.{arc_value}
use Rattle.std.specs.FinSet as set
use Rattle.sct_set.specs.Contents.{contents_of}
use Rattle.sct_set.proofs.ContentsLemmas.{contents-with_new, HasNoRepeat-with_new}
use Rattle.sct_set.proofs.archive.Archive.add.Goals as goal

pub invariant_of-self-2 : goal.invariant_of-self-2
invariant_of-self-2 c = rw c.in_ok-add.ensures.ok (HasNoRepeat-with_new _ _ c.self.invariant)

pub returns-clause-ok : goal.returns-clause-ok
returns-clause-ok c = ap contents_of c.in_ok-add.ensures.ok ∙ contents-with_new _ _ ∙ ap (λ s. set.insert s (arc_value c.args.message)) c.self.view_is
