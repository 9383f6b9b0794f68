-- The messages that are filed under the transfer are those on it.
use Rattle.sct_rights.proofs.TheirsLemmas.{has_between_filed}
use Rattle.sct_rights.proofs.theirs.has_between.Goals as goal

pub returns : goal.returns
returns c = has_between_filed c.args.view.now c.args.transfer.now c.args.filed.now c.requires c.on_transfer.result.now c.on_transfer.ensures c.args.banks.now c.pass_between.result c.pass_between.ensures
