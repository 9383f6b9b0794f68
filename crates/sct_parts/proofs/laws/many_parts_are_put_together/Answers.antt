-- The law of what many parts list together.
use Rattle.sct_parts.proofs.TogetherLemmas.{put_together}
use Rattle.sct_parts.proofs.laws.many_parts_are_put_together.Goals as goal

pub returns : goal.returns
returns c = put_together
