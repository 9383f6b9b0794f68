-- Events of the same values end alike and leave the same. Proof plumbing.
use Rattle.std.proofs.Common.{◌≡◌, List, [], ◌∷◌, refl, ap, ◌∙◌}
use Rattle.sct_world.specs.declared.event.Event.{Event}
use Rattle.sct_world.specs.declared.event.Event.TheVariants as event
use Rattle.sct_world.specs.declared.event.Outcome.{Outcome}
use Rattle.sct_world.specs.Happenings.{happening_of, happenings_of}
use Rattle.sct_world.specs.Histories.{step_of, step_by, world_after, after_by, world_after_all, world_by, outcomes_of, outcomes_by, outcome_of_step}
use Rattle.sct_world.specs.Laws.{GoByValues}
use Rattle.sct_world.specs.States.{State}

step_by_values : (w : State) (e : Event) → step_of w e ≡ step_by w (happening_of e)
unfolding step_of
step_by_values w (event.Take site message) = refl
step_by_values w (event.Cut site vector) = refl
step_by_values w (event.Hand delta site) = refl

after_by_values : (w : State) (e : Event) → world_after w e ≡ after_by w (happening_of e)
unfolding world_after
after_by_values w (event.Take site message) = refl
after_by_values w (event.Cut site vector) = refl
after_by_values w (event.Hand delta site) = refl

outcomes_by_values : (w : State) (events : List Event) → outcomes_of w events ≡ outcomes_by w (happenings_of events)
outcomes_by_values w [] = refl
outcomes_by_values w (e ∷ events) =
    ap (λ (came : Outcome). came ∷ outcomes_of (world_after w e) events) (ap outcome_of_step (step_by_values w e))
    ∙ ap (λ (came : List Outcome). outcome_of_step (step_by w (happening_of e)) ∷ came) (outcomes_by_values (world_after w e) events
    ∙ ap (λ (v : State). outcomes_by v (happenings_of events)) (after_by_values w e))

world_by_values : (w : State) (events : List Event) → world_after_all w events ≡ world_by w (happenings_of events)
world_by_values w [] = refl
world_by_values w (e ∷ events) =
    world_by_values (world_after w e) events ∙ ap (λ (v : State). world_by v (happenings_of events)) (after_by_values w e)

pub by_values : (w : State) (events : List Event) → GoByValues w events
by_values w events = record { outcomes = outcomes_by_values w events; world = world_by_values w events }
