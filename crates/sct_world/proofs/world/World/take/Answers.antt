-- What the site takes is what the world takes at it, and the deltas keep their entries.
use Rattle.std.proofs.Common.{◌∙◌, List}
use Rattle.std.specs.Arc.{arc_value}
use Rattle.sct_message.specs.declared.draft.Draft.{Draft}
use Rattle.sct_site.specs.Cores.{Core}
use Rattle.sct_world.specs.Inside.{deltas_kept}
use Rattle.sct_world.specs.declared.world.KeptDelta.{KeptDelta}
use Rattle.sct_world.proofs.KeepLemmas.{grown_by_take, keeping_on, state_same}
use Rattle.sct_world.proofs.WorldLemmas.{old_is, set_state, taken_is, world_taken, took_told}
use Rattle.sct_world.proofs.world.World.take.Goals as goal

pub invariant_of-self-2 : goal.invariant_of-self-2
invariant_of-self-2 c =
    let cores : List Core = c.self.inside.cores.items in
    let deltas : List KeptDelta = c.self.inside.deltas.items in
    let message : Draft = arc_value c.in_ok-message.message in
    let grown = grown_by_take c.index_mut.result.now message in
    keeping_on cores deltas c.args.self.now c.self.view_is c.self.invariant c.args.site c.requires c.index_mut.result.now c.index_mut.ensures.value
    c.take.new.self grown.0 (c.in-Ok.ensures.ok ∙ grown.1)
    (world_taken cores (deltas_kept cores deltas) c.args.self.now c.self.view_is c.self.invariant.world c.args.site c.requires c.index_mut.result.now c.index_mut.ensures.value
    c.take.new.self (arc_value c.args.message.now) message c.in_ok-message.ensures.cases c.in-Ok.ensures.ok c.take.ensures.number c.take.ensures.group)

pub returns-clause-answer : goal.returns-clause-answer
returns-clause-answer c =
    took_told c.args.self.now c.args.site c.index_mut.result.now (arc_value c.args.message.now) (arc_value c.in_ok-message.message) c.in-Ok.took c.step_taken.result
    (old_is c.self.inside.cores.items (deltas_kept c.self.inside.cores.items c.self.inside.deltas.items) c.args.self.now c.self.view_is c.self.invariant.world c.args.site c.requires c.index_mut.result.now c.index_mut.ensures.value)
    c.in_ok-message.ensures.cases c.in-Ok.ensures.answer c.step_taken.ensures

pub returns-clause-ok : goal.returns-clause-ok
returns-clause-ok c =
    let cores : List Core = c.self.inside.cores.items in
    let deltas : List KeptDelta = c.self.inside.deltas.items in
    let message : Draft = arc_value c.in_ok-message.message in
    let grown = grown_by_take c.index_mut.result.now message in
    state_same cores deltas c.args.self.now c.self.view_is c.self.invariant c.args.site c.requires c.index_mut.result.now c.index_mut.ensures.value
    c.take.new.self grown.0 (c.in-Ok.ensures.ok ∙ grown.1)
    ∙ set_state cores (deltas_kept cores deltas) c.args.self.now c.self.view_is c.self.invariant.world c.args.site c.requires c.index_mut.result.now c.index_mut.ensures.value
    c.take.new.self _
    (taken_is cores (deltas_kept cores deltas) c.args.self.now c.self.view_is c.self.invariant.world c.args.site c.requires c.index_mut.result.now c.index_mut.ensures.value
    c.take.new.self (arc_value c.args.message.now) message c.in_ok-message.ensures.cases c.in-Ok.ensures.ok)
