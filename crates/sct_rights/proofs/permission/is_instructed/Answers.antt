-- The messages that are filed under the transfer are those on it.
use Rattle.sct_rights.proofs.TheirsLemmas.{has_instruction_filed}
use Rattle.sct_rights.proofs.permission.is_instructed.Goals as goal

pub returns : goal.returns
returns c = has_instruction_filed c.args.held.now c.args.transfer.now c.args.filed.now c.requires c.on_transfer.result.now c.on_transfer.ensures c.instruct.result c.instruct.ensures
