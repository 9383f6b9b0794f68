-- World and outcomes are those of the events so far.
use Rattle.std.proofs.Common.{◌≡◌, take}
use Rattle.std.specs.Prelude.{All}
use Rattle.sct_world.specs.Faults.{IsNoForkOutcome}
use Rattle.sct_world.specs.Histories.{outcomes_of, world_after_all}
use Rattle.sct_world.specs.States.{empty_world}
use Rattle.sct_world.proofs.history.run.Given as goal

abbrev pub invariant-loop-event : goal.invariant-loop-event
invariant-loop-event l =
    (l.world ≡ world_after_all (empty_world l.sites) (take l.event-index l.events))
    × (l.outcomes.items ≡ outcomes_of (empty_world l.sites) (take l.event-index l.events))
    × All IsNoForkOutcome l.outcomes.items
