-- A group more is written with each identity.
use Rattle.std.proofs.Common.{subst, arith}
use Rattle.std.proofs.lemmas.List.{take_all}
use Rattle.sct_set.specs.Groups.{AreWritten}
use Rattle.sct_set.proofs.GroupLemmas.{group_more}
use Rattle.sct_set.proofs.text.lines_by.Goals as goal

pub loop-identity-preserved : goal.loop-identity-preserved
loop-identity-preserved c =
    group_more _ _ _ _ _ _ _ c.loop-identity-test.true c.identity-item.is c.of.ensures c.loop-identity.invariant c.in_ok-push_messages.ensures.text c.in_ok-push_messages.ensures.again

pub returns : goal.returns
returns c =
    subst (λ is. AreWritten c.args.arrivals.now is c.loop-identity.text.items) (take_all c.loop-identity.identity-index c.args.identities.now (omega arith)) c.loop-identity.invariant
