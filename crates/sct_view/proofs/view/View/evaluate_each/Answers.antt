-- What is kept of a touched transfer and what is fresh of it are all messages on it.
use Rattle.std.proofs.Common.{refl, rules}
use Rattle.sct_message.specs.Sets.{messages_in}
use Rattle.sct_view.proofs.RebuildLemmas.{gathered_kept}
use Rattle.sct_view.proofs.view.View.evaluate_each.Goals as goal

pub evaluate_anew-requires : goal.evaluate_anew-requires
evaluate_anew-requires c = record {
  room = search rules;
  case =
      gathered_kept c.args.self.now c.args.fresh.now c.transfer-item.result _ (messages_in c.messages.result.now) _ refl
      c.messages.ensures.held (c.on_transfer-messages.ensures (messages_in c.messages.result.now) c.in_ok-index.ensures);
}
