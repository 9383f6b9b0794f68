-- The world is the one without an entry or a delta.
use Rattle.std.proofs.Common.{◌∙◌, ap, sym, subst, List, All}
use Rattle.std.proofs.lemmas.List.Elements.{All-nil}
use Rattle.sct_world.specs.Inside.{deltas_kept, held_by, IsKeptDelta}
use Rattle.sct_world.specs.declared.world.KeptDelta.{KeptDelta}
use Rattle.sct_world.proofs.OpenLemmas.{opened_state, opened_world}
use Rattle.sct_world.proofs.world.World.open.Goals as goal

pub invariant_of-result : goal.invariant_of-result
invariant_of-result c = record {
  world =
      opened_world c.args.sites c.in-Ok.cores.items (deltas_kept c.in-Ok.cores.items c.new.result.items) c.in-Ok.ensures.ok
      (ap (deltas_kept c.in-Ok.cores.items) c.new.ensures.items) c.open_cores.ensures.size;
  kept =
      subst (λ (deltas : List KeptDelta). All (IsKeptDelta (held_by c.in-Ok.cores.items)) deltas) (sym c.new.ensures.items)
      (All-nil (IsKeptDelta (held_by c.in-Ok.cores.items)));
}

pub returns-in-Ok-clause-ok : goal.returns-in-Ok-clause-ok
returns-in-Ok-clause-ok c =
    opened_state c.args.sites c.in-Ok.cores.items (deltas_kept c.in-Ok.cores.items c.new.result.items) c.in-Ok.ensures.ok (ap (deltas_kept c.in-Ok.cores.items) c.new.ensures.items)
