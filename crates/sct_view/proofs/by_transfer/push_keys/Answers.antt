-- One transfer more.
use Rattle.std.proofs.Common.{◌∙◌, sym}
use Rattle.sct_message.specs.Keys.{transfers_of}
use Rattle.sct_view.proofs.SlotLemmas.{one_added}
use Rattle.sct_view.proofs.by_transfer.push_keys.Goals as goal

pub loop-i-preserved : goal.loop-i-preserved
loop-i-preserved c =
    c.in_ok-push.ensures.items
    ∙ one_added (transfers_of c.args.message.now) c.loop-i.i c.args.found.now.items c.loop-i.found.items c.in-Some.transfer c.loop-i.invariant (sym c.in-Some.ensures)
