-- The law of many parts.
use Rattle.sct_parts.proofs.ManyLemmas.{many_parts}
use Rattle.sct_parts.proofs.laws.many_parts_answer_together.Goals as goal

pub returns : goal.returns
returns c = many_parts
