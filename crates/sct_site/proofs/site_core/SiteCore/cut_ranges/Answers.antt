-- The ranges of the origins of which entries are held have what is cut.
use Rattle.std.proofs.Common.{rules, ◌≡◌, ◌≤◌, ◌<◌, ◌^◌, ◌∙◌, ◌∷◌, ◌++◌, ap, sym, subst, ℕ, All, List, length, arith}
use Rattle.std.specs.BTreeMap.{BTreeMap, get}
use Rattle.std.specs.Ordering.{nat_cmp}
use Rattle.std.specs.Prelude.{Some}
use Rattle.std.proofs.lemmas.List.{append-nil}
use Rattle.std.proofs.lemmas.List.Elements.{All-head, All-nil, All-tail, All-weaker}
use Rattle.sct_delta.specs.Entries.{Placed, log_of, IsDelta}
use Rattle.sct_delta.specs.Logs.{HeldLogs, log_in}
use Rattle.sct_delta.specs.Refusals.{vector_of}
use Rattle.sct_delta.specs.Vectors.{count_in, count_or_0}
use Rattle.sct_delta.specs.declared.vector.Vector.{Vector}
use Rattle.sct_site.specs.Cores.{Core, entries_above, logs_of}
use Rattle.sct_site.specs.Ranges.{in_ranges, size_of, HaveEntries, ReachEnds}
use Rattle.sct_site.specs.declared.ranges.LogRange.{LogRange}
use Rattle.sct_site.proofs.CutRangeLemmas.{IsCounted, blocks, blocks_are_cut, blocks_are_delta, blocks_more, few_above}
use Rattle.sct_site.proofs.RangeLemmas.{length_ranges}
use Rattle.sct_site.proofs.site_core.SiteCore.cut_ranges.Goals as goal

-- the vector counts the log of each origin
counted : (counts : BTreeMap ℕ ℕ) (vector : Vector) (logs : HeldLogs) (inside core : Core) → counts ≡ vector.counts
    → ((o : ℕ) → count_in vector o ≡ vector_of (log_in logs) o) → ((o : ℕ) → log_in logs o ≡ log_of o inside.arrivals) → inside ≡ core
    → (o : ℕ) → count_or_0 (get nat_cmp counts o) ≡ length (log_of o core.arrivals)
counted counts vector logs inside core is counts_logs by_origin view o =
    ap (λ (map : BTreeMap ℕ ℕ). count_or_0 (get nat_cmp map o)) is
    ∙ counts_logs o
    ∙ ap length (by_origin o)
    ∙ ap (λ (c : Core). length (log_of o c.arrivals)) view

pub loop-origin-init : goal.loop-origin-init
loop-origin-init c =
    let gives = c.into_iter-origin-iterator.ensures.into_iter_gives in
    let log : ℕ → List _ = logs_of c.args.self.now.arrivals in (
      ap (λ (ranges : List LogRange). in_ranges log ranges ++ blocks (count_in c.args.vector.now) log c.into_iter-origin-iterator.result) c.new-ranges.ensures.items,
      (
        subst (λ (es : List (ℕ × ℕ)). All (IsCounted log) es) (sym gives.0)
            (All-weaker (λ (kept : ℕ × ℕ). get nat_cmp c.counts-held.result.now kept.0 ≡ Some kept.1) (IsCounted log)
            (λ kept is. sym (ap count_or_0 is) ∙ counted c.counts-held.result.now c.vector.result.now c.self.inside.logs _ c.args.self.now c.counts-held.ensures c.vector.ensures c.self.invariant.by_origin c.self.view_is kept.0) c.counts-held.result.now.entries gives.6),
        (
          subst (λ (ranges : List LogRange). ReachEnds log ranges) (sym c.new-ranges.ensures.items) (All-nil (λ (range : LogRange). range.upto ≤ length (log range.origin))),
          subst (λ (ranges : List LogRange). HaveEntries ranges) (sym c.new-ranges.ensures.items) (All-nil (λ (range : LogRange). range.above < range.upto)),
        ),
      ),
    )

pub loop-origin-preserved : goal.loop-origin-preserved
loop-origin-preserved c =
    let rest = c.next.new.self in
    let kept : ℕ × ℕ = (c.in-Some.origin.now, c.in-Some.count.now) in
    let is : c.loop-origin.origin-iterator ≡ kept ∷ rest = search rules in
    let log = logs_of c.args.self.now.arrivals in
    let count = count_in c.args.vector.now in
    let left : All (IsCounted log) (kept ∷ rest) = subst (λ (es : List (ℕ × ℕ)). All (IsCounted log) es) is c.loop-origin.invariant.1.0 in
    let sized = All-head (IsCounted log) kept rest left in (
      blocks_more count log kept rest c.get.result c.loop-origin.ranges.items c.push_range.new.ranges.items (blocks count log c.into_iter-origin-iterator.result)
          c.get.ensures sized (c.in_ok-push_range.ensures.entries log)
          (ap (λ (es : List (ℕ × ℕ)). in_ranges log c.loop-origin.ranges.items ++ blocks count log es) (sym is) ∙ c.loop-origin.invariant.0),
      (
        All-tail (IsCounted log) kept rest left,
        (
          c.in_ok-push_range.ensures.ends log sized c.loop-origin.invariant.1.1.0,
          c.in_ok-push_range.ensures.filled c.loop-origin.invariant.1.1.1,
        ),
      ),
    )

all_are : (c : goal.In-None) → in_ranges (logs_of c.args.self.now.arrivals) c.loop-origin.ranges.items
    ≡ blocks (count_in c.args.vector.now) (logs_of c.args.self.now.arrivals) c.counts-held.result.now.entries
all_are c =
    let log = logs_of c.args.self.now.arrivals in
    let count = count_in c.args.vector.now in
    sym (append-nil (in_ranges log c.loop-origin.ranges.items))
    ∙ ap (λ (es : List (ℕ × ℕ)). in_ranges log c.loop-origin.ranges.items ++ blocks count log es) (sym c.in-None.ensures.steps.0)
    ∙ c.loop-origin.invariant.0
    ∙ ap (blocks count log) c.into_iter-origin-iterator.ensures.into_iter_gives.0

cut_is : (c : goal.In-None) → in_ranges (logs_of c.args.self.now.arrivals) c.loop-origin.ranges.items ≡ entries_above (count_in c.args.vector.now) c.args.self.now.arrivals
cut_is c =
    all_are c
    ∙ blocks_are_cut (count_in c.args.vector.now) c.args.self.now c.requires c.counts-held.result.now.entries c.into_iter-origin-iterator.ensures.into_iter_gives.5 (counted c.counts-held.result.now c.vector.result.now c.self.inside.logs _ c.args.self.now c.counts-held.ensures c.vector.ensures c.self.invariant.by_origin c.self.view_is)

pub returns-clause-cut : goal.returns-clause-cut
returns-clause-cut c = cut_is c

pub returns-clause-shape : goal.returns-clause-shape
returns-clause-shape c =
    subst (λ (ds : List Placed). IsDelta ds) (sym (all_are c))
    (blocks_are_delta (count_in c.args.vector.now) c.args.self.now c.requires c.counts-held.result.now.entries c.into_iter-origin-iterator.ensures.into_iter_gives.5 (counted c.counts-held.result.now c.vector.result.now c.self.inside.logs _ c.args.self.now c.counts-held.ensures c.vector.ensures c.self.invariant.by_origin c.self.view_is))

pub returns-clause-few : goal.returns-clause-few
returns-clause-few c =
    let size : length (in_ranges (logs_of c.args.self.now.arrivals) c.loop-origin.ranges.items) ≡ size_of c.loop-origin.ranges.items
    = length_ranges (logs_of c.args.self.now.arrivals) c.loop-origin.ranges.items c.loop-origin.invariant.1.1.0 in
    let cut : length (in_ranges (logs_of c.args.self.now.arrivals) c.loop-origin.ranges.items) ≡ length (entries_above (count_in c.args.vector.now) c.args.self.now.arrivals) = ap length (cut_is c) in
    let most : length (entries_above (count_in c.args.vector.now) c.args.self.now.arrivals) ≤ length c.args.self.now.arrivals = few_above (count_in c.args.vector.now) c.args.self.now.arrivals in
    let held : length c.self.inside.arrivals.items ≡ length c.args.self.now.arrivals = ap (λ (core : Core). length core.arrivals) c.self.view_is in
    let bound : length c.self.inside.arrivals.items < 2 ^ 64 = search rules in
    omega (arith, size, cut, most, held, bound)
