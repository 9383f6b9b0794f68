-- The ranges that are kept have what is above the vector among what the site holds.
use Rattle.std.proofs.Common.{◌≡◌, ◌∙◌, ◌+◌, ◌++◌, [], ◌∷◌, refl, ap, sym, List, length, arith}
use Rattle.std.specs.Prelude.{Ok}
use Rattle.std.proofs.lemmas.List.{length-map}
use Rattle.sct_delta.specs.Entries.{Placed}
use Rattle.sct_delta.specs.Vectors.{count_in}
use Rattle.sct_site.specs.Cores.{entries_above}
use Rattle.sct_site.specs.Ranges.{size_of}
use Rattle.sct_world.specs.Inside.{deltas_kept, entries_kept, held_by}
use Rattle.sct_world.specs.States.{State, held_at}
use Rattle.sct_world.specs.declared.event.Step.TheVariants as step
use Rattle.sct_world.proofs.KeepLemmas.{all_with, cut_here, cut_size, deltas_more, site_here}
use Rattle.sct_world.proofs.WorldLemmas.{world_cut}
use Rattle.sct_world.proofs.world.World.cut.Goals as goal

pub cut_ranges-requires : goal.cut_ranges-requires
cut_ranges-requires c =
    site_here c.self.inside.cores.items c.self.inside.deltas.items c.args.self.now c.self.view_is c.self.invariant c.args.site c.requires c.index.result.now c.index.ensures

pub invariant_of-self-2 : goal.invariant_of-self-2
invariant_of-self-2 c = record {
  world =
      world_cut c.self.inside.cores.items (deltas_kept c.self.inside.cores.items c.self.inside.deltas.items) (deltas_kept c.self.inside.cores.items c.push.new.self.items) c.args.self.now c.args.site (count_in c.args.vector.now)
      (entries_kept (held_by c.self.inside.cores.items) (record { site = c.args.site; ranges = c.in-Ok.ranges })) c.self.view_is c.self.invariant.world
      (cut_here c.self.inside.cores.items c.self.inside.deltas.items c.args.self.now c.self.view_is c.self.invariant c.args.site c.requires c.index.result.now c.index.ensures
      c.in-Ok.ranges.items (count_in c.args.vector.now) c.in-Ok.ensures.cut c.in-Ok.ensures.shape c.in-Ok.ensures.ends (record { site = c.args.site; ranges = c.in-Ok.ranges }) refl refl)
      (deltas_more c.self.inside.cores.items c.self.inside.deltas.items c.args.self.now c.self.view_is c.self.invariant c.args.site c.requires c.index.result.now c.index.ensures
      c.in-Ok.ranges.items (count_in c.args.vector.now) c.in-Ok.ensures.cut c.in-Ok.ensures.shape c.in-Ok.ensures.ends (record { site = c.args.site; ranges = c.in-Ok.ranges }) refl refl c.push.new.self.items c.in_ok-push.ensures.items);
  kept =
      all_with c.self.inside.cores.items c.self.inside.deltas.items c.args.self.now c.self.view_is c.self.invariant c.args.site c.requires c.index.result.now c.index.ensures
      c.in-Ok.ranges.items (count_in c.args.vector.now) c.in-Ok.ensures.cut c.in-Ok.ensures.shape c.in-Ok.ensures.ends (record { site = c.args.site; ranges = c.in-Ok.ranges }) refl refl c.push.new.self.items c.in_ok-push.ensures.items;
}

pub returns-clause-answer : goal.returns-clause-answer
returns-clause-answer c =
    let before : length c.args.self.now.deltas ≡ length c.self.inside.deltas.items
    = ap (λ (v : State). length v.deltas) (sym c.self.view_is) ∙ length-map c.self.inside.deltas.items (entries_kept (held_by c.self.inside.cores.items)) in
    let number : length c.args.self.now.deltas + 1 ≡ c.len.result + 1 = omega (arith, before, c.len.ensures) in
    let entries : length (entries_above (count_in c.args.vector.now) (held_at c.args.self.now c.args.site)) ≡ c.entries_in-entries.result =
    cut_size c.self.inside.cores.items c.self.inside.deltas.items c.args.self.now c.self.view_is c.self.invariant c.args.site c.requires c.index.result.now c.index.ensures
    c.in-Ok.ranges.items (count_in c.args.vector.now) c.in-Ok.ensures.cut c.in-Ok.ensures.shape c.in-Ok.ensures.ends (record { site = c.args.site; ranges = c.in-Ok.ranges }) refl refl
    ∙ ap size_of (sym c.deref.ensures.value)
    ∙ sym c.entries_in-entries.ensures in
    λ i. Ok (step.Cut (number i) (entries i))

pub returns-clause-ok : goal.returns-clause-ok
returns-clause-ok c =
    let added : deltas_kept c.self.inside.cores.items c.push.new.self.items ≡ c.args.self.now.deltas ++ entries_above (count_in c.args.vector.now) (held_at c.args.self.now c.args.site) ∷ [] =
    deltas_more c.self.inside.cores.items c.self.inside.deltas.items c.args.self.now c.self.view_is c.self.invariant c.args.site c.requires c.index.result.now c.index.ensures
    c.in-Ok.ranges.items (count_in c.args.vector.now) c.in-Ok.ensures.cut c.in-Ok.ensures.shape c.in-Ok.ensures.ends (record { site = c.args.site; ranges = c.in-Ok.ranges }) refl refl c.push.new.self.items c.in_ok-push.ensures.items
    ∙ ap (λ (ds : List Placed). deltas_kept c.self.inside.cores.items c.self.inside.deltas.items ++ ds ∷ [])
    (cut_here c.self.inside.cores.items c.self.inside.deltas.items c.args.self.now c.self.view_is c.self.invariant c.args.site c.requires c.index.result.now c.index.ensures
    c.in-Ok.ranges.items (count_in c.args.vector.now) c.in-Ok.ensures.cut c.in-Ok.ensures.shape c.in-Ok.ensures.ends (record { site = c.args.site; ranges = c.in-Ok.ranges }) refl refl)
    ∙ ap (λ (v : State). v.deltas ++ entries_above (count_in c.args.vector.now) (held_at c.args.self.now c.args.site) ∷ []) c.self.view_is in
    λ i. record { held = ap (λ (v : State). v.held) c.self.view_is i; deltas = added i }
