-- What is above the vector in a delta is a delta.
use Rattle.std.proofs.Common.{◌≡◌, ◌∙◌, ap, sym, subst, List, filter, Option, None}
use Rattle.std.specs.Prelude.{MatchOption, Result, Ok, Err, IfErr}
use Rattle.std.proofs.lemmas.List.{take_all}
use Rattle.sct_delta.specs.Entries.{Placed, IsDelta}
use Rattle.sct_delta.specs.Shapes.{delta_refusal}
use Rattle.sct_delta.specs.Vectors.{count_in}
use Rattle.sct_delta.specs.declared.fault.DeltaFault.{DeltaFault}
use Rattle.sct_delta.specs.declared.fault.DeltaFault.TheVariants as fault
use Rattle.sct_delta.proofs.ShapeLemmas.{delta_not_refused}
use Rattle.sct_site.specs.Cores.{is_above, logs_of}
use Rattle.sct_site.specs.Ranges.{in_ranges}
use Rattle.sct_site.specs.declared.ranges.LogRange.{LogRange}
use Rattle.sct_site.proofs.RangeLemmas.{above_of_delta, within_further}
use Rattle.sct_site.proofs.site_core.SiteCore.cut_within.Goals as goal

made : (result : Result (List Placed) DeltaFault) (es : List Placed) (r : Option DeltaFault) → r ≡ None → MatchOption r (result ≡ Ok es) (λ refusal. result ≡ Err refusal) → result ≡ Ok es
made result es r none is = subst (λ (o : Option DeltaFault). MatchOption o (result ≡ Ok es) (λ refusal. result ≡ Err refusal)) none is

pub loop-range-preserved : goal.loop-range-preserved
loop-range-preserved c =
    within_further (count_in c.args.vector.now) (logs_of c.args.self.now.arrivals) c.args.ranges.now c.loop-range.range-index _ c.get.result c.loop-range.out.items c.push_within.new.out.items
    c.loop-range-test.true c.get.ensures c.in_ok-push_within.ensures c.loop-range.invariant

pub returns-clause-err : goal.returns-clause-err
returns-clause-err c =
    let whole : c.loop-range.out.items ≡ filter (is_above (count_in c.args.vector.now)) (in_ranges (logs_of c.args.self.now.arrivals) c.args.ranges.now)
    = c.loop-range.invariant
    ∙ ap (λ (ranges : List LogRange). filter (is_above (count_in c.args.vector.now)) (in_ranges (logs_of c.args.self.now.arrivals) ranges)) (take_all c.loop-range.range-index c.args.ranges.now c.loop-range-test.false) in
    let shape : IsDelta c.loop-range.out.items
    = subst (λ (ds : List Placed). IsDelta ds) (sym whole) (above_of_delta (count_in c.args.vector.now) (in_ranges (logs_of c.args.self.now.arrivals) c.args.ranges.now) c.requires) in
    let ok : c.of.result ≡ Ok c.loop-range.out.items = made c.of.result c.loop-range.out.items (delta_refusal c.loop-range.out.items) (delta_not_refused c.loop-range.out.items shape) c.of.ensures.refused in
    subst (λ (result : Result (List Placed) DeltaFault). IfErr result (λ refusal. refusal ≡ fault.Memory)) (sym ok) tt
