-- What the site answers to the entries that are new to it is what the world answers to the delta.
use Rattle.std.proofs.Common.{◌≡◌, ◌<◌, ◌-◌, ap, sym, length, arith}
use Rattle.std.proofs.lemmas.List.{length-map}
use Rattle.sct_world.specs.Inside.{deltas_kept, entries_kept, held_by}
use Rattle.sct_world.specs.States.{State}
use Rattle.sct_world.proofs.HandedLemmas.{is_accepted, is_no_fork, is_refused, keeping_after, state_after}
use Rattle.sct_world.proofs.world.World.hand.Goals as goal

pub new_entries-requires-clause-cut : goal.new_entries-requires-clause-cut
new_entries-requires-clause-cut c =
    let size : length (deltas_kept c.self.inside.cores.items c.self.inside.deltas.items) ≡ length c.self.inside.deltas.items = length-map c.self.inside.deltas.items (entries_kept (held_by c.self.inside.cores.items)) in
    let same : length (deltas_kept c.self.inside.cores.items c.self.inside.deltas.items) ≡ length c.args.self.now.deltas = ap (λ (v : State). length v.deltas) c.self.view_is in
    grind (arith, size, same, c.if-number-eq0.false, c.if-number-len.false, c.len.ensures)

pub returns-in-Err-accept-clause-refused : goal.returns-in-Err-accept-clause-refused
returns-in-Err-accept-clause-refused c =
    is_refused c.self.inside.cores.items c.self.inside.deltas.items c.args.self.now c.self.view_is c.self.invariant c.args.site c.requires c.index_mut.result.now c.index_mut.ensures.value
    c.accept.new.self c.args.number c.if-number-eq0.false (omega (arith, c.if-number-len.false, c.len.ensures)) c.in-Ok.delta c.in-Ok.ensures.ok c.in-Ok.ensures.shape c.in-Err-accept.refusal c.in-Err-accept.ensures.err

pub returns-in-Err-accept-clause-no_fork : goal.returns-in-Err-accept-clause-no_fork
returns-in-Err-accept-clause-no_fork c =
    is_no_fork c.self.inside.cores.items c.self.inside.deltas.items c.args.self.now c.self.view_is c.self.invariant c.args.site c.requires c.index_mut.result.now c.index_mut.ensures.value
    c.accept.new.self c.args.number c.if-number-eq0.false (omega (arith, c.if-number-len.false, c.len.ensures)) c.in-Ok.delta c.in-Ok.ensures.ok c.in-Ok.ensures.shape c.in-Err-accept.refusal c.in-Err-accept.ensures.err

pub invariant_of-self-2 : goal.invariant_of-self-2
invariant_of-self-2 c =
    keeping_after c.self.inside.cores.items c.self.inside.deltas.items c.args.self.now c.self.view_is c.self.invariant c.args.site c.requires c.index_mut.result.now c.index_mut.ensures.value
    c.accept.new.self c.args.number c.if-number-eq0.false (omega (arith, c.if-number-len.false, c.len.ensures)) c.in-Ok.delta c.in-Ok.ensures.ok c.in-Ok.ensures.shape
    c.in-Ok-accept.ensures.accepted c.in-Ok-accept.ensures.ok c.accept.ensures.number c.accept.ensures.group

pub returns-clause-answer : goal.returns-clause-answer
returns-clause-answer c =
    is_accepted c.self.inside.cores.items c.self.inside.deltas.items c.args.self.now c.self.view_is c.self.invariant c.args.site c.requires c.index_mut.result.now c.index_mut.ensures.value
    c.accept.new.self c.args.number c.if-number-eq0.false (omega (arith, c.if-number-len.false, c.len.ensures)) c.in-Ok.delta c.in-Ok.ensures.ok c.in-Ok.ensures.shape
    c.in-Ok-accept.ensures.accepted c.in-Ok-accept.accepted.fresh c.in-Ok-accept.ensures.answer

pub returns-clause-ok : goal.returns-clause-ok
returns-clause-ok c =
    state_after c.self.inside.cores.items c.self.inside.deltas.items c.args.self.now c.self.view_is c.self.invariant c.args.site c.requires c.index_mut.result.now c.index_mut.ensures.value
    c.accept.new.self c.args.number c.if-number-eq0.false (omega (arith, c.if-number-len.false, c.len.ensures)) c.in-Ok.delta c.in-Ok.ensures.ok c.in-Ok.ensures.shape
    c.in-Ok-accept.ensures.accepted c.in-Ok-accept.ensures.ok
