-- Each event adds its outcome, and the last world is that of all events.
use Rattle.std.proofs.Common.{◌≡◌, ap, sym, subst, ◌∙◌, ◌+◌, ◌++◌, ◌∷◌, [], List, take}
use Rattle.std.specs.Prelude.{All}
use Rattle.std.proofs.lemmas.Grind.{take_at_read}
use Rattle.std.proofs.lemmas.List.{take_all}
use Rattle.std.proofs.lemmas.List.Elements.{All-push}
use Rattle.sct_world.specs.Faults.{IsNoForkOutcome}
use Rattle.sct_world.specs.Histories.{world_after, world_after_all, outcome_of, outcomes_of}
use Rattle.sct_world.specs.States.{State, empty_world}
use Rattle.sct_world.specs.declared.event.Event.{Event}
use Rattle.sct_world.specs.declared.event.Outcome.{Outcome}
use Rattle.sct_world.proofs.ExactlyLemmas.{exactly_of, world-push, outcomes-push}
use Rattle.sct_world.proofs.history.run.Goals as goal

-- the events so far and this one
more : (c : goal.In_ok-push_outcome) → take (c.loop-event.event-index + 1) c.args.events.now ≡ take c.loop-event.event-index c.args.events.now ++ c.event-item.result ∷ []
more c =
    (take_at_read c.args.events.now c.loop-event.event-index c.event-item.result c.loop-event-test.true).1
    ∙ ap (λ (e : Event). take c.loop-event.event-index c.args.events.now ++ e ∷ []) (sym c.event-item.is)

pub loop-event-preserved : goal.loop-event-preserved
loop-event-preserved c =
    let w : State = empty_world c.args.sites in
    let done : List Event = take c.loop-event.event-index c.args.events.now in (
      c.in_ok-push_outcome.ensures.world
          ∙ ap (λ (v : State). world_after v c.event-item.result) c.loop-event.invariant.0
          ∙ world-push w done c.event-item.result
          ∙ ap (world_after_all w) (sym (more c)),
      c.in_ok-push_outcome.ensures.outcomes
          ∙ (λ i. c.loop-event.invariant.1 i ++ ap (λ (v : State). outcome_of v c.event-item.result) c.loop-event.invariant.0 i ∷ [])
          ∙ outcomes-push w done c.event-item.result
          ∙ ap (outcomes_of w) (sym (more c)),
      subst (λ (os : List Outcome). All IsNoForkOutcome os) (sym c.in_ok-push_outcome.ensures.outcomes)
          (All-push IsNoForkOutcome c.loop-event.outcomes.items (outcome_of c.loop-event.world c.event-item.result) c.loop-event.invariant.2 c.in_ok-push_outcome.ensures.no_fork),
    )

pub returns-clause-exactly : goal.returns-clause-exactly
returns-clause-exactly c =
    let whole = take_all c.loop-event.event-index c.args.events.now c.loop-event-test.false in
    exactly_of c.args.sites c.args.events.now c.loop-event.world c.loop-event.outcomes.items
    (c.loop-event.invariant.0 ∙ ap (world_after_all (empty_world c.args.sites)) whole)
    (c.loop-event.invariant.1 ∙ ap (outcomes_of (empty_world c.args.sites)) whole)
