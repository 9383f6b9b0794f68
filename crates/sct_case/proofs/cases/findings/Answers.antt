-- What messages say is what is found in them.
use Rattle.std.proofs.Common.{◌∙◌}
use Rattle.sct_message.specs.Sets.{messages_in}
use Rattle.sct_case.proofs.SaidOf.{found_of}
use Rattle.sct_case.proofs.cases.findings.Goals as goal

pub returns : goal.returns
returns c =
    c.in_ok-into_findings.ensures
    ∙ found_of c.args.transfer.now (messages_in c.args.clean.now) c.in_ok-said.said c.in_ok-said.ensures c.args.asides.now
