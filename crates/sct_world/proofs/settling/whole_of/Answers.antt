-- The cut for the empty vector has all.
use Rattle.sct_delta.specs.Vectors.{count_in}
use Rattle.sct_world.proofs.HandLemmas.{whole_on}
use Rattle.sct_world.proofs.settling.whole_of.Goals as goal

pub returns-clause-whole : goal.returns-clause-whole
returns-clause-whole c =
    whole_on (count_in c.args.empty.now) c.requires c.args.core.now c.cut.ensures.site c.cut.result c.cut.ensures.cut c.cut.ensures.shape
