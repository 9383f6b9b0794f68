-- What is read from the giver's logs is the delta's.
use Rattle.std.proofs.Common.{◌≡◌, ◌∙◌, ap, sym, subst, List, [], length, filter, get_or, arith}
use Rattle.std.specs.Prelude.{Result, Ok, Err, IfOk, OnOk}
use Rattle.std.proofs.lemmas.List.{length-map}
use Rattle.sct_delta.specs.Entries.{Placed, held_from, IsDelta}
use Rattle.sct_delta.specs.declared.fault.DeltaFault.{DeltaFault}
use Rattle.sct_delta.specs.Vectors.{count_in}
use Rattle.sct_site.specs.Cores.{Core, is_above, logs_of}
use Rattle.sct_site.specs.Ranges.{in_ranges}
use Rattle.sct_site.specs.declared.ranges.LogRange.{LogRange}
use Rattle.sct_world.specs.Inside.{deltas_kept, entries_kept, held_by, state_of}
use Rattle.sct_world.specs.States.{State, held_at}
use Rattle.sct_world.specs.declared.world.KeptDelta.{KeptDelta}
use Rattle.sct_world.proofs.KeepLemmas.{new_of_delta, shape_of_delta, shape_of_giver}
use Rattle.sct_world.proofs.world.World.new_entries.Goals as goal

size : (cores : List Core) (deltas : List KeptDelta) (w : State) → state_of cores (deltas_kept cores deltas) ≡ w → length w.deltas ≡ length deltas
size cores deltas w view = ap (λ (v : State). length v.deltas) (sym view) ∙ length-map deltas (entries_kept (held_by cores))

pub cut_within-requires : goal.cut_within-requires
cut_within-requires c =
    subst (λ (ranges : List LogRange). IsDelta (in_ranges (logs_of c.index-giver.result.now.arrivals) ranges)) (sym c.deref.ensures.value)
    (shape_of_giver c.self.inside.cores.items c.self.inside.deltas.items c.args.self.now c.self.view_is c.self.invariant c.args.place c.index-kept.result.now
    (let same : length c.args.self.now.deltas ≡ length c.self.inside.deltas.items = size c.self.inside.cores.items c.self.inside.deltas.items c.args.self.now c.self.view_is in omega (arith, same, c.requires.cut)) c.index-kept.ensures
    c.index-giver.result.now c.index-giver.ensures)

ok_by : (result : Result (List Placed) DeltaFault) (P Q : List Placed → Type 0) → ((ds : List Placed) → P ds → Q ds) → IfOk result P → IfOk result Q
ok_by (Ok ds) P Q also is = also ds is
ok_by (Err refusal) P Q also is = tt

on_ok : (result : Result (List Placed) DeltaFault) (P : Type 0) → P → OnOk result P
on_ok (Ok ds) P is = is
on_ok (Err refusal) P is = tt

pub returns-clause-ok : goal.returns-clause-ok
returns-clause-ok c =
    ok_by c.cut_within.result (λ ds. ds ≡ filter (is_above (count_in c.vector.result.now)) (in_ranges (logs_of c.index-giver.result.now.arrivals) c.deref.result.now))
    (λ ds. ds ≡ filter (is_above (λ origin. held_from origin (held_at c.args.self.now c.args.site))) (get_or c.args.self.now.deltas c.args.place []))
    (λ ds is.
    new_of_delta c.self.inside.cores.items c.self.inside.deltas.items c.args.self.now c.self.view_is c.self.invariant c.args.place c.index-kept.result.now
    (let same : length c.args.self.now.deltas ≡ length c.self.inside.deltas.items = size c.self.inside.cores.items c.self.inside.deltas.items c.args.self.now c.self.view_is in omega (arith, same, c.requires.cut)) c.index-kept.ensures
    c.index-giver.result.now c.index-giver.ensures
    c.args.site c.requires.there c.index.result.now c.index.ensures (count_in c.vector.result.now) c.vector.ensures ds
    (is ∙ ap (λ (ranges : List LogRange). filter (is_above (count_in c.vector.result.now)) (in_ranges (logs_of c.index-giver.result.now.arrivals) ranges)) c.deref.ensures.value))
    c.cut_within.ensures.ok

pub returns-clause-shape : goal.returns-clause-shape
returns-clause-shape c =
    on_ok c.cut_within.result (IsDelta (get_or c.args.self.now.deltas c.args.place []))
    (shape_of_delta c.self.inside.cores.items c.self.inside.deltas.items c.args.self.now c.self.view_is c.self.invariant c.args.place c.index-kept.result.now
    (let same : length c.args.self.now.deltas ≡ length c.self.inside.deltas.items = size c.self.inside.cores.items c.self.inside.deltas.items c.args.self.now c.self.view_is in omega (arith, same, c.requires.cut)) c.index-kept.ensures
    c.index-giver.result.now c.index-giver.ensures)
