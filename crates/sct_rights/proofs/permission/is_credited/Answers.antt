-- The messages that are filed under the transfer are those on it.
use Rattle.sct_rights.proofs.TheirsLemmas.{has_credit_filed}
use Rattle.sct_rights.proofs.permission.is_credited.Goals as goal

pub returns : goal.returns
returns c = has_credit_filed c.args.held.now c.args.transfer.now c.args.filed.now c.requires c.on_transfer.result.now c.on_transfer.ensures c.args.banks.now c.credit.result c.credit.ensures
