-- One message more is one take more.
use Rattle.std.proofs.Common.{◌∙◌, ap}
use Rattle.sct_site.specs.Cores.{core_taken}
use Rattle.sct_embed.proofs.TakingLemmas.{one_more, taken_is}
use Rattle.sct_embed.proofs.taking.take_all.Goals as goal

pub loop-message-preserved : goal.loop-message-preserved
loop-message-preserved c =
    taken_is c.loop-message.core c.take.new.self _ c.in_ok-take.ensures.number c.in_ok-take.ensures.group c.in_ok-take.ensures.ok
    ∙ ap (core_taken c.loop-message.core) c.in_ok-clone.ensures.cases
    ∙ one_more c.args.core.now c.loop-message.core c.args.messages.now c.loop-message.message-index c.message-item.result
    c.loop-message-test.true c.message-item.is c.loop-message.invariant
