-- With the fresh messages, an identity is contradicted where either contradicts it.
use Rattle.std.proofs.Common.{◌∙◌, ◌||◌, ap, sym}
use Rattle.std.specs.Option.{option_copied}
use Rattle.sct_message.specs.Sets.{is_contradicted}
use Rattle.sct_view.specs.Changes.{with_fresh}
use Rattle.sct_view.proofs.EvaluationLemmas.{contradicted_in_union}
use Rattle.sct_view.proofs.evaluation.is_disputed.Goals as goal

pub returns-then-disputes : goal.returns-then-disputes
returns-then-disputes c =
    c.if-disputes.true
    ∙ sym (ap (λ o. is_contradicted (with_fresh c.args.held.now (option_copied o)) c.args.message.now) c.in-Some.is
    ∙ contradicted_in_union c.args.held.now c.in-Some.fresh.now c.args.message.now
    ∙ ap (λ b. b || is_contradicted c.in-Some.fresh.now c.args.message.now) (sym c.disputes.ensures ∙ c.if-disputes.true))

pub returns-else-disputes : goal.returns-else-disputes
returns-else-disputes c =
    c.disputes-else-disputes.ensures
    ∙ sym (ap (λ o. is_contradicted (with_fresh c.args.held.now (option_copied o)) c.args.message.now) c.in-Some.is
    ∙ contradicted_in_union c.args.held.now c.in-Some.fresh.now c.args.message.now
    ∙ ap (λ b. b || is_contradicted c.in-Some.fresh.now c.args.message.now) (sym c.disputes.ensures ∙ c.if-disputes.false))
