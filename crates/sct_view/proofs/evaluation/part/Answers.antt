-- If no message is contradicted, all are clean.
use Rattle.std.proofs.Common.{◌≡◌, ◌∙◌, ap, false, sym}
use Rattle.std.specs.Arc.{arc_value}
use Rattle.std.specs.List.{list_any}
use Rattle.std.specs.Option.{option_copied}
use Rattle.sct_message.specs.Sets.{messages_in, is_contradicted}
use Rattle.sct_message.proofs.Members.{list_any-map}
use Rattle.sct_message.proofs.Tests.{none_kept}
use Rattle.sct_view.specs.Changes.{with_fresh}
use Rattle.sct_view.proofs.EvaluationLemmas.{all_fail}
use Rattle.sct_view.proofs.evaluation.part.Goals as goal

pub returns-clause-clean : goal.returns-clause-clean
returns-clause-clean c =
    let all = with_fresh c.args.held.now (option_copied c.args.fresh) in
    let none : list_any (is_contradicted all) (messages_in c.args.messages.items) ≡ false =
    list_any-map (is_contradicted all) arc_value c.args.messages.items
    ∙ ap (list_any (λ m. is_contradicted all (arc_value m))) (sym c.deref.ensures.value)
    ∙ sym c.is_some_disputed.ensures
    ∙ c.if-is_some_disputed.false in
    sym (all_fail (is_contradicted all) (messages_in c.args.messages.items) none)

pub returns-clause-contradicted : goal.returns-clause-contradicted
returns-clause-contradicted c =
    let all = with_fresh c.args.held.now (option_copied c.args.fresh) in
    let none : list_any (is_contradicted all) (messages_in c.args.messages.items) ≡ false =
    list_any-map (is_contradicted all) arc_value c.args.messages.items
    ∙ ap (list_any (λ m. is_contradicted all (arc_value m))) (sym c.deref.ensures.value)
    ∙ sym c.is_some_disputed.ensures
    ∙ c.if-is_some_disputed.false in
    ap messages_in c.new.ensures.items ∙ sym (none_kept (is_contradicted all) (messages_in c.args.messages.items) none)

pub is_some_disputed-requires : goal.is_some_disputed-requires
is_some_disputed-requires c = λ none.
    ap (list_any (λ m. is_contradicted (with_fresh c.args.held.now (option_copied c.args.fresh)) (arc_value m))) c.deref.ensures.value
    ∙ sym (list_any-map (is_contradicted (with_fresh c.args.held.now (option_copied c.args.fresh))) arc_value c.args.messages.items)
    ∙ c.requires none
