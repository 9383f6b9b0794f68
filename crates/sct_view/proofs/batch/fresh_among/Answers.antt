-- The fresh messages of a batch are found message by message.
use Rattle.std.proofs.Common.{◌∙◌, sym, ap, arith}
use Rattle.std.proofs.lemmas.List.{take_all}
use Rattle.sct_message.specs.Sets.{messages_in}
use Rattle.sct_set.specs.Contents.{contents_of}
use Rattle.sct_view.specs.Touched.{fresh_of}
use Rattle.sct_view.proofs.GatheredLemmas.{fresh_none, fresh_step}
use Rattle.sct_view.proofs.batch.fresh_among.Goals as goal

pub loop-message-init : goal.loop-message-init
loop-message-init c = c.new-fresh.ensures ∙ sym (fresh_none c.args.held.now)

pub loop-message-preserved : goal.loop-message-preserved
loop-message-preserved c =
    c.in_ok-add_fresh.ensures
    ∙ fresh_step c.args.held.now c.loop-message.fresh c.args.batch.now c.loop-message.message-index c.message-item.result c.loop-message-test.true c.message-item.is c.loop-message.invariant

pub returns : goal.returns
returns c =
    c.loop-message.invariant
    ∙ ap (λ ms. fresh_of c.args.held.now (contents_of (messages_in ms))) (take_all c.loop-message.message-index c.args.batch.now (omega arith))
