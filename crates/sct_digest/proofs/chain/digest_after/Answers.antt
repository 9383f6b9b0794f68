-- One message more.
use Rattle.std.proofs.Common.{◌∙◌}
use Rattle.sct_digest.specs.Digests.{next_digest}
use Rattle.sct_digest.proofs.ChainLemmas.{one_more}
use Rattle.sct_digest.proofs.chain.digest_after.Goals as goal

pub loop-message-preserved : goal.loop-message-preserved
loop-message-preserved c =
    c.in_ok-digest.ensures
    ∙ (λ i. next_digest (c.loop-message.invariant i) (c.deref.ensures i))
    ∙ one_more c.args.before c.args.messages.now c.loop-message.message-index c.message-item.result c.loop-message-test.true c.message-item.is
