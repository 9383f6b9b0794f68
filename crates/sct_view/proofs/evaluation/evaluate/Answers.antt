-- The messages of the transfer in order, parted, are what is to be kept of it.
use Rattle.std.proofs.Common.{◌∙◌, ap, map}
use Rattle.std.specs.Option.{option_copied}
use Rattle.sct_message.specs.Ascending.{ascending}
use Rattle.sct_message.specs.Keys.{identity_of}
use Rattle.sct_message.specs.Order.{identity_order}
use Rattle.sct_message.specs.Sets.{messages_in}
use Rattle.sct_case.specs.Statuses.{transfer_status_of}
use Rattle.sct_view.specs.Changes.{with_fresh}
use Rattle.sct_view.proofs.EvaluationLemmas.{calm_on, evaluated}
use Rattle.sct_view.proofs.evaluation.evaluate.Goals as goal

pub returns : goal.returns
returns c =
    let t = c.args.transfer.now in
    evaluated (with_fresh c.args.held.now (option_copied c.args.fresh)) t _ _ _ c.in_ok-asides.asides.items _ (c.in_ok-sorted.ensures ∙ c.requires)
    c.in_ok-parted.ensures.clean c.in_ok-parted.ensures.contradicted
    (c.in_ok-asides.ensures ∙ ap (λ ms. ascending identity_order (map identity_of (messages_in ms))) c.deref.ensures.value)
    (c.in_ok-status.ensures ∙ (λ n. transfer_status_of t (messages_in (c.deref-2.ensures.value n)) (c.deref-3.ensures.value n)))

pub part-requires : goal.part-requires
part-requires c = calm_on (with_fresh c.args.held.now (option_copied c.args.fresh)) c.args.transfer.now _ (c.in_ok-sorted.ensures ∙ c.requires)
