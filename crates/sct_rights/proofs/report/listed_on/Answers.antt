-- The list at a transfer is what its rows say.
use Rattle.std.proofs.Common.{◌∙◌}
use Rattle.sct_reconcile.proofs.FiledLemmas.{filed_at}
use Rattle.sct_rights.proofs.report.listed_on.Goals as goal

pub returns : goal.returns
returns c = c.items_at.ensures ∙ filed_at _ c.keys_are_ordered.ensures.transfers_equal c.args.index.now c.args.rows.now c.args.key.now c.requires
