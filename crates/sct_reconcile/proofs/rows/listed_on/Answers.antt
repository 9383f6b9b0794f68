-- The list at a transfer is what its rows say.
use Rattle.std.proofs.Common.{◌∙◌}
use Rattle.sct_reconcile.proofs.FiledLemmas.{filed_at}
use Rattle.sct_reconcile.proofs.rows.listed_on.Goals as goal

pub returns : goal.returns
returns c = λ rows filed. c.items_at.ensures ∙ filed_at _ c.keys_are_ordered.ensures.transfers_equal c.args.index.now rows c.args.key.now filed
