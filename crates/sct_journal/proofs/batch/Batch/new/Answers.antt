-- No lines.
use Rattle.std.proofs.Common.{◌∙◌, ap, refl}
use Rattle.sct_journal.specs.Kept.{kept}
use Rattle.sct_journal.proofs.LineLemmas.{kept_nothing}
use Rattle.sct_journal.proofs.batch.Batch.new.Goals as goal

pub invariant_of-result : goal.invariant_of-result
invariant_of-result c = rw c.new.ensures.items (rw kept_nothing refl)

pub returns : goal.returns
returns c = ap kept c.new.ensures.items ∙ kept_nothing
