-- The messages of the case and the fresh ones are all messages on the transfer.
use Rattle.std.proofs.Common.{◌∙◌, ap, filter, sym}
use Rattle.std.specs.FinSet as set
use Rattle.sct_message.specs.Ascending.{ascending}
use Rattle.sct_message.specs.Order.{message_order}
use Rattle.sct_message.specs.Sets.{MessageSet, in_order, messages_in}
use Rattle.sct_message.specs.Transfers.{is_on}
use Rattle.sct_view.specs.Kept.{case_of}
use Rattle.sct_view.proofs.view.View.evaluate_anew.Goals as goal

pub evaluate-requires : goal.evaluate-requires
evaluate-requires c =
    ap (ascending message_order) (ap messages_in c.deref.ensures.value ∙ c.in_ok-gathered.ensures)
    ∙ c.requires.case
    ∙ ap (λ (v : MessageSet). filter (is_on c.args.transfer.now) (in_order (set.union v c.args.fresh.now))) (sym c.self.view_is)

pub returns-clause-case : goal.returns-clause-case
returns-clause-case c =
    let case = c.in_ok-case.ensures ∙ ap (λ (v : MessageSet). case_of (set.union v c.args.fresh.now) c.args.transfer.now) c.self.view_is in
    λ n. (c.copy.ensures n, case n)
