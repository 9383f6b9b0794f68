-- The key is the transfer's if its two parts are.
use Rattle.std.proofs.Common.{◌∙◌, nat_eq}
use Rattle.std.proofs.Math.Bool.{and_comm}
use Rattle.std.specs.Cmp.Lexicographic.{pointwise}
use Rattle.sct_message.specs.Keys.{transfer_key}
use Rattle.sct_message.specs.OrderLaws.{transfer_ties}
use Rattle.sct_case.proofs.said.is_of.Goals as goal

pub returns : goal.returns
returns c =
    c.has_parts_of.ensures
    ∙ and_comm (pointwise nat_eq c.args.tx.now c.args.transfer.now.tx) (pointwise nat_eq c.args.debtor_agent.now c.args.transfer.now.debtor_agent)
    ∙ transfer_ties (transfer_key c.args.debtor_agent.now c.args.tx.now) c.args.transfer.now
