-- Empty tables are those of no message.
use Rattle.std.proofs.Common.{◌∙◌, refl}
use Rattle.sct_view.proofs.RebuildLemmas.{none_of_empty}
use Rattle.sct_view.proofs.view.View.new.Goals as goal

pub invariant_of-result : goal.invariant_of-result
invariant_of-result c = (λ t. c.new-2.ensures t ∙ none_of_empty c.new.result c.new.ensures t, refl)
