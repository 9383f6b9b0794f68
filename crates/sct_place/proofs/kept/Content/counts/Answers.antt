-- Only a snapshot needs memory.
use Rattle.std.proofs.Common.{inr, refl}
use Rattle.sct_place.proofs.kept.Content.counts.Goals as goal

pub returns-in-Err-clause-err : goal.returns-in-Err-clause-err
returns-in-Err-clause-err c = inr (refl, c.in-Err.ensures.snapshot)
